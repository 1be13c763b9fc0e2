use Rattle.std.proofs.Common.{is_some, ap, ◌∙◌, rules}
use Rattle.elf_dyn.specs.Library.{library_at}
use Rattle.elf_dyn.proofs.Index.{indexed}
use Rattle.elf_dyn.proofs.Proper.{proper_library, read_from}
use Rattle.elf_dyn.proofs.Ranking.{are_bytes_of}
use Rattle.elf_dyn.proofs.library.read.Goals as goal

pub invariant_of-result : goal.invariant_of-result
unfolding library_at
invariant_of-result c =
    let h = proper_library c.args.bytes.now c.args.header.now c.args.places.now c.args.count in
    let sorted = rw c.deref.ensures.value at c.in_ok-by_name.ensures in
    let those = rw (c.deref-2.ensures.value, c.deref-3.ensures.value) at c.in_ok-defined.ensures in
    let index = indexed c.in_ok-rows.rows.items c.in_ok-by_name.by_name.items c.in_ok-defined.defined.items sorted.sorted those in (
      read_from c.args.bytes.now c.args.header.now c.args.places.now c.args.count c.in_ok-soname_text.field-0 c.from_vec.result c.from_vec-2.result c.is_some.result
          (are_bytes_of c.args.bytes.now (λ i. search rules)) c.requires.read
          (c.in_ok-soname_text.ensures ∙ c.soname_of-soname.ensures)
          (c.from_vec.ensures ∙ c.in_ok-needed_of.ensures)
          (c.from_vec-2.ensures ∙ c.in_ok-rows.ensures)
          (c.is_some.ensures ∙ ap is_some c.first_with.ensures.exact),
      record {
        soname_is_proper = rw (c.in_ok-soname_text.ensures, c.soname_of-soname.ensures) h.soname_is_proper;
        needed_are_proper = rw (c.from_vec.ensures, c.in_ok-needed_of.ensures) h.needed_are_proper;
        rows_are_proper = rw (c.from_vec-2.ensures, c.in_ok-rows.ensures) h.rows_are_proper;
      },
      rw (c.from_vec-2.ensures, c.from_vec-3.ensures) sorted,
      rw (c.from_vec-2.ensures, c.from_vec-4.ensures) index,
    )
