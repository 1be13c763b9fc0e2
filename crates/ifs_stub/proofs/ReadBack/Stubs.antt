-- A stub has the interface that it was made from.
use Rattle.std.proofs.Common.{◌≡◌, ℕ, ◌<◌, ◌≤◌, ◌^◌, true, false, cond, List, [], ◌∷◌, Option, Some, None, Ok, refl, sym, ap, ◌∙◌, subst, arith}
use Rattle.std.specs.Prelude.{find, nat_lt, nat_le, unwrap_or}
use Rattle.std.specs.List.{list_all, list_any}
use Rattle.std.proofs.lemmas.Bool.{and_parts, and_from, le-leb}
use Rattle.std.proofs.lemmas.Bool.Decides.{nat_tests}
use Rattle.ifs_bytes.specs.Carried.{carried}
use Rattle.ifs_bytes.specs.Outcome.{◌>>=◌, check}
use Rattle.ifs_bytes.specs.declared.form.Width.{Width}
use Rattle.ifs_bytes.specs.declared.form.Width.TheVariants.{W32, W64}
use Rattle.ifs_interface.specs.Interface.{InterfaceRecord, IsInterface}
use Rattle.ifs_interface.specs.Extracted.{interface_of}
use Rattle.ifs_interface.specs.Facts.{facts_of_library, facts_of_interface}
use Rattle.ifs_interface.specs.Parts.{parts_of}
use Rattle.ifs_interface.specs.declared.symbol.Symbol.{Symbol}
use Rattle.ifs_interface.specs.declared.target.Target.{Target}
use Rattle.ifs_stub.specs.Forget.{forget}
use Rattle.ifs_stub.specs.Laws.{HasNumbers, HasStub, IsStubOf, size_fits, interface_in, facts_in}
use Rattle.ifs_stub.specs.Stub.{IsWithin, form_of, is_too_wide, unless_too_wide, sizes_checked, limits_checked, name_count, name_bytes, stub_of}
use Rattle.ifs_stub.specs.StubFile.{stub_file}
use Rattle.ifs_stub.specs.StubLibrary.{stub_library}
use Rattle.elf_dyn.specs.Library.{library_of}
use Rattle.ifs_stub.specs.declared.cause.StubCause.TheVariants.{TooManySymbols, NamesTooLarge}
use Rattle.elf_dyn.specs.declared.constants.TheConstants.{MOST_ROWS, MOST_NAME_BYTES}
use Rattle.ifs_stub.specs.declared.layout.Form.{Form}
use Rattle.ifs_stub.proofs.Steps.{steps, check_holds, at_most, ok_is}
use Rattle.ifs_stub.proofs.SymbolRows.{none_found}
use Rattle.ifs_stub.proofs.ReadBack.Each.{or_parts}
use Rattle.ifs_stub.proofs.ReadBack.Facts.{stubs_keep_facts}
use Rattle.ifs_stub.proofs.ReadBack.Interfaces.{target_by, stubs_keep_interfaces}
use Rattle.ifs_stub.proofs.ReadBack.Libraries.{stubs_are_read}

-- ---- what holds where there is a stub

record IsMade (i : InterfaceRecord) (stub : List ℕ) (form : Form) : Type 0 where
  pub formed : form_of (parts_of i.target) ≡ Ok form
  pub none_wide : list_any (is_too_wide form.width) i.symbols ≡ false
  pub within : IsWithin i
  pub stub_is : stub_file form.order form.width form.machine i ≡ stub

none_is_wide : (o : Option Symbol) (t : Unit {0}) → unless_too_wide o ≡ Ok t → o ≡ None
none_is_wide None t is = refl
none_is_wide (Some s) t is = absurd (cc)

is_within : (i : InterfaceRecord) (t : Unit {0}) → limits_checked i ≡ Ok t → IsWithin i
unfolding limits_checked name_count name_bytes
is_within i t is =
    let first = steps (check (nat_le (name_count i) MOST_ROWS) (TooManySymbols (name_count i))) (λ u. check (nat_le (name_bytes i) MOST_NAME_BYTES) (NamesTooLarge (name_bytes i))) t is in
    record {
      names = at_most _ _ (check_holds _ _ _ first.1);
      bytes = not_carried _ (at_most _ _ (check_holds _ _ _ first.2));
    }
  where
    not_carried : (n : ℕ) → carried n ≤ 33554432 → n ≤ 33554432
    not_carried n h = omega (arith, h)

is_made : (i : InterfaceRecord) (stub : List ℕ) → stub_of i ≡ Ok stub → (form : Form) × IsMade i stub form
unfolding stub_of sizes_checked
is_made i stub is =
    let one = steps (form_of (parts_of i.target)) (λ form. sizes_checked form.width i.symbols >>= λ u. limits_checked i >>= λ v. Ok (stub_file form.order form.width form.machine i)) stub is in
    let form = one.0 in
    let two = steps (sizes_checked form.width i.symbols) (λ u. limits_checked i >>= λ v. Ok (stub_file form.order form.width form.machine i)) stub one.2 in
    let three = steps (limits_checked i) (λ v. Ok (stub_file form.order form.width form.machine i)) stub two.2 in (
      form,
      record {
        formed = one.1;
        none_wide = none_found (is_too_wide form.width) i.symbols (none_is_wide _ _ two.1);
        within = is_within i three.0 three.1;
        stub_is = ok_is _ stub _ refl three.2;
      },
    )

-- ---- the numbers have their places

size_has_place : (width : Width) (s : Symbol) → nat_lt (unwrap_or s.size 0) (2 ^ 64) ≡ true → is_too_wide width s ≡ false → size_fits width s ≡ true
size_has_place W32 s small narrow = grind (arith, nat_tests)
size_has_place W64 s small narrow = small

sizes_have_places : (width : Width) (symbols : List Symbol) → list_all (λ s. nat_lt (unwrap_or s.size 0) (2 ^ 64)) symbols ≡ true → list_any (is_too_wide width) symbols ≡ false → list_all (size_fits width) symbols ≡ true
sizes_have_places width [] small narrow = refl
sizes_have_places width (s ∷ ss) small narrow =
    let parts = and_parts (nat_lt (unwrap_or s.size 0) (2 ^ 64)) (list_all (λ t. nat_lt (unwrap_or t.size 0) (2 ^ 64)) ss) small in
    let none = or_parts (is_too_wide width s) (list_any (is_too_wide width) ss) narrow in
    and_from (size_fits width s) (list_all (size_fits width) ss) (size_has_place width s parts.0 none.0) (sizes_have_places width ss parts.1 none.1)

machine_is_small : (i : InterfaceRecord) (form : Form) → HasNumbers i → form_of (parts_of i.target) ≡ Ok form → form.machine < 2 ^ 16
machine_is_small i form numbers formed =
    let fact = parts_of i.target in
    let same : fact.machine ≡ Some form.machine = ap (λ (t : Target). t.machine) (target_by fact.machine fact.order fact.width form formed) in
    subst (λ o. unwrap_or o 0 < 2 ^ 16) same numbers.machine

-- the bytes of a stub, however they were made
pub written_is_read_back : (i : InterfaceRecord) (form : Form) (bytes : List ℕ) → HasStub i form → form_of (parts_of i.target) ≡ Ok form → bytes ≡ stub_file form.order form.width form.machine i → interface_in bytes ≡ Ok (forget i)
written_is_read_back i form bytes has formed is =
    ap interface_in is ∙ ap (λ r. r >>= λ library. Ok (interface_of library)) (stubs_are_read i form has)
    ∙ ap (λ j. Ok j) (stubs_keep_interfaces i form has.interface formed)

pub written_is_a_library : (i : InterfaceRecord) (form : Form) (bytes : List ℕ) → HasStub i form → form_of (parts_of i.target) ≡ Ok form → bytes ≡ stub_file form.order form.width form.machine i → IsStubOf i bytes
unfolding stub_library
written_is_a_library i form bytes has formed is = record {
  form = form;
  formed = formed;
  read = ap library_of is ∙ stubs_are_read i form has;
  unversioned = refl;
}

pub written_has_the_facts : (i : InterfaceRecord) (form : Form) (bytes : List ℕ) → HasStub i form → form_of (parts_of i.target) ≡ Ok form → bytes ≡ stub_file form.order form.width form.machine i → facts_in bytes ≡ Ok (facts_of_interface i)
written_has_the_facts i form bytes has formed is =
    ap facts_in is ∙ ap (λ r. r >>= λ library. Ok (facts_of_library library)) (stubs_are_read i form has)
    ∙ ap (λ facts. Ok facts) (stubs_keep_facts i form has.interface formed)

made_has_stub : (i : InterfaceRecord) (stub : List ℕ) (form : Form) → IsInterface i → HasNumbers i → IsMade i stub form → HasStub i form
made_has_stub i stub form is numbers made = record {
  interface = is;
  machine_fits = machine_is_small i form numbers made.formed;
  sizes_fit = sizes_have_places form.width i.symbols numbers.sizes made.none_wide;
  within = made.within;
}

pub stubs_are_read_back : (i : InterfaceRecord) (stub : List ℕ) → IsInterface i → HasNumbers i → stub_of i ≡ Ok stub → interface_in stub ≡ Ok (forget i)
stubs_are_read_back i stub is numbers stubbed =
    let result = is_made i stub stubbed in
    let form = result.0 in
    let made = result.1 in
    written_is_read_back i form stub (made_has_stub i stub form is numbers made) made.formed (sym made.stub_is)

pub stubs_have_the_facts : (i : InterfaceRecord) (stub : List ℕ) → IsInterface i → HasNumbers i → stub_of i ≡ Ok stub → facts_in stub ≡ Ok (facts_of_interface i)
stubs_have_the_facts i stub is numbers stubbed =
    let result = is_made i stub stubbed in
    let form = result.0 in
    let made = result.1 in
    written_has_the_facts i form stub (made_has_stub i stub form is numbers made) made.formed (sym made.stub_is)

-- ---- an interface that has a stub

fitting_is_narrow : (width : Width) (s : Symbol) → size_fits width s ≡ true → is_too_wide width s ≡ false
fitting_is_narrow W32 s fits = grind (arith, nat_tests)
fitting_is_narrow W64 s fits = refl

none_too_wide : (width : Width) (symbols : List Symbol) → list_all (size_fits width) symbols ≡ true → find (is_too_wide width) symbols ≡ None
none_too_wide width [] fits = refl
none_too_wide width (s ∷ ss) fits =
    let parts = and_parts (size_fits width s) (list_all (size_fits width) ss) fits in
    ap (λ t. cond t (Some s) (find (is_too_wide width) ss)) (fitting_is_narrow width s parts.0) ∙ none_too_wide width ss parts.1

limits_hold : (i : InterfaceRecord) → IsWithin i → limits_checked i ≡ Ok tt
unfolding limits_checked name_count name_bytes
limits_hold i within =
    let few : nat_le (name_count i) MOST_ROWS ≡ true = le-leb _ _ within.names in
    let short : nat_le (name_bytes i) MOST_NAME_BYTES ≡ true = le-leb _ _ (omega (arith, within.bytes)) in
    rw (few, short) refl

pub stubs_are_made : (i : InterfaceRecord) (form : Form) → HasStub i form → form_of (parts_of i.target) ≡ Ok form → stub_of i ≡ Ok (stub_file form.order form.width form.machine i)
unfolding stub_of sizes_checked
stubs_are_made i form has formed =
    rw (formed, none_too_wide form.width i.symbols has.sizes_fit, limits_hold i has.within) refl
