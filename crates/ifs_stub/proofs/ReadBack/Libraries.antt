-- A stub file is read as the library that it stands for.
use Rattle.std.proofs.Common.{◌≡◌, ℕ, ◌+◌, ◌==◌, true, List, length, Option, Some, None, Ok, refl, ap, ◌∙◌, arith}
use Rattle.std.specs.Prelude.{nat_le}
use Rattle.std.proofs.lemmas.Bool.{le-leb}
use Rattle.elf_file.specs.Header.{header_of}
use Rattle.elf_file.specs.declared.header.Header.{Header}
use Rattle.elf_dyn.specs.Entries.{entry_count, soname_of, needed_bytes, needed_count}
use Rattle.ifs_bytes.specs.Carried.{carried}
use Rattle.elf_dyn.specs.Rows.{candidate_count, candidate_bytes}
use Rattle.elf_dyn.specs.Library.{places_of, listed_count, name_bytes, checked, library_at, library_of}
use Rattle.elf_dyn.specs.Strings.{bytes_of}
use Rattle.elf_dyn.specs.declared.places.Places.{Places}
use Rattle.elf_dyn.specs.declared.constants.TheConstants.{ET_DYN, MOST_ROWS, MOST_NAME_BYTES}
use Rattle.ifs_interface.specs.Interface.{InterfaceRecord}
use Rattle.ifs_stub.specs.declared.layout.Form.{Form}
use Rattle.ifs_stub.specs.Stub.{IsWithin}
use Rattle.ifs_stub.specs.StubFile.{plan_of, file_header, file_by, stub_file, soname_bytes}
use Rattle.ifs_stub.specs.Laws.{HasStub}
use Rattle.ifs_stub.specs.StubLibrary.{stub_library}
use Rattle.ifs_stub.proofs.ReadBack.Parts.{parts_stand, plan_is_small}
use Rattle.ifs_stub.proofs.ReadBack.FileHeader.{header_is_read}
use Rattle.ifs_stub.proofs.ReadBack.Sections.{stub_places, stub_strings, places_are_found}
use Rattle.ifs_stub.proofs.ReadBack.Strings.{found_in_file}
use Rattle.ifs_stub.proofs.ReadBack.EntriesRead.{EntriesSay, stub_entries, entry_count_is, entries_say}
use Rattle.ifs_stub.proofs.ReadBack.RowsRead.{RowsSay, rows_say}

-- a file of which each step is known
library_is : (file : List ℕ) (h : Header) (p : Places) (n : ℕ) → header_of file ≡ Ok h → (h.kind == ET_DYN) ≡ true → places_of file h ≡ Ok p → entry_count file p.entries ≡ n → checked file p n ≡ Ok tt → library_of file ≡ Ok (library_at file h p n)
unfolding library_of
library_is file h p n header kind found count sound = rw (header, kind, found, count, sound) refl

same_bytes : (o : Option (List ℕ)) → bytes_of o ≡ soname_bytes o
same_bytes None = refl
same_bytes (Some name) = refl

module _ (file : List ℕ) (i : InterfaceRecord) (p : Places) (n : ℕ) (e : EntriesSay file p.entries p.entry_strings n i) (r : RowsSay file p.rows p.row_strings i) where
  nothing_wrong : IsWithin i → checked file p n ≡ Ok tt
  unfolding checked listed_count name_bytes
  nothing_wrong within =
      let own : bytes_of (soname_of file p.entries p.entry_strings n) ≡ soname_bytes i.soname = ap bytes_of e.soname ∙ same_bytes i.soname in
      let few : nat_le (candidate_count file p.rows + needed_count file p.entries n) MOST_ROWS ≡ true = le-leb _ _ (omega (arith, r.count, e.needed_count, within.names)) in
      let short : nat_le (carried (candidate_bytes file p.rows p.row_strings + (bytes_of (soname_of file p.entries p.entry_strings n) + needed_bytes file p.entries p.entry_strings n))) MOST_NAME_BYTES ≡ true = le-leb _ _ (omega (arith, r.bytes, own, e.needed_bytes, within.bytes)) in
      rw (e.bad, few, r.bad, short) refl

  is_stub_library : (h : Header) (form : Form) → h.machine ≡ form.machine → h.order ≡ form.order → h.width ≡ form.width → library_at file h p n ≡ stub_library i form
  unfolding library_at stub_library
  is_stub_library h form machine order width = rw (machine, order, width, e.soname, e.needed, e.versioned, r.visible) refl

pub stubs_are_read : (i : InterfaceRecord) (form : Form) → HasStub i form → library_of (stub_file form.order form.width form.machine i) ≡ Ok (stub_library i form)
stubs_are_read i form has =
    let plan = plan_of i form in
    let file = file_by i plan in
    let h = file_header plan in
    let p = stub_places plan in
    let n = length (stub_entries i plan) in
    let parts = parts_stand i form in
    let small = plan_is_small i form has.within in
    let proper = has.interface.parts in
    let names = found_in_file file plan.layout.strings i proper parts.strings in
    let e = entries_say file i form (stub_strings plan) parts small proper names in
    let r = rows_say file i form (stub_strings plan) parts small has.sizes_fit proper names in
    library_is file h p n (header_is_read file i plan parts small has.machine_fits) refl (places_are_found file i form parts small) (entry_count_is file i form parts small) (nothing_wrong file i p n e r has.within)
    ∙ ap (λ library. Ok library) (is_stub_library file i p n e r h form refl refl refl)
