-- The counts are those of the definitions.
use Rattle.std.proofs.Common.{◌≡◌, ℕ, ◌+◌, List, ◌++◌, Option, Some, None, length, refl, ap, sym, ◌∙◌, arith, Bool, true, false}
use Rattle.std.specs.Option.{unwrap_or}
use Rattle.std.specs.Prelude.{codes, if◌then◌else◌, nat_lt, not, ◌==◌}
use Rattle.std.proofs.lemmas.Bool.Decides.{nat_tests}
use Rattle.std.proofs.lemmas.List.{length-append}
use Rattle.link_core.specs.declared.constants.TheConstants.{EM_X86_64}
use Rattle.link_core.specs.Contents.{interpreter_of, usual_interpreter}
use Rattle.link_core.specs.Entries.{rela_dyn_count}
use Rattle.link_core.specs.Exports.{is_shared}
use Rattle.link_core.specs.Planned.{Planned}
use Rattle.link_tables.specs.Capped.{capped}
use Rattle.link_tables.specs.Counts.{counts_by, counts_of, entry_count, interpreter_room, moves_by, path_room, present_in}
use Rattle.link_tables.proofs.EntryCount.{entries_counted}
use Rattle.link_tables.proofs.NameSizes.{strings_counted}
use Rattle.link_tables.proofs.SlotSizes.{fills_counted, words_counted}

usual_room : (b : Bool) → (if b then 28 else 27) ≡ length (if b then codes "/lib64/ld-linux-x86-64.so.2" else codes "/lib/ld-linux-aarch64.so.1") + 1
usual_room true = refl
usual_room false = refl

path_counted : (path : Option (List ℕ)) (number : ℕ) → path_room path number ≡ length (unwrap_or path (usual_interpreter number)) + 1
path_counted None number = usual_room (number == EM_X86_64)
path_counted (Some path) number = refl

pub some_capped : (n : ℕ) → nat_lt 0 (capped n) ≡ nat_lt 0 n
some_capped n = grind (arith, nat_tests)

interpreter_counted : (j : Planned) → interpreter_room j.options j.rules.number ≡ length (interpreter_of j) + 1
unfolding interpreter_of
interpreter_counted j = path_counted j.options.interp j.rules.number

moves_counted : (j : Planned) → moves_by j.options j.objects j.names j.plan ≡ capped (rela_dyn_count j)
moves_counted j = ap (λ (n : ℕ). capped (n + length j.plan.moves)) (sym (fills_counted j))

pub counted : (j : Planned) → counts_by j.rules.number j.rules.header_len j.options j.objects j.names j.plan (present_in j) ≡ counts_of j
unfolding counts_by counts_of
counted j =
    let interpreter = interpreter_counted j in
    let rows : 1 + length j.plan.imports + length j.plan.exports ≡ 1 + length (j.plan.imports ++ j.plan.exports) = omega (arith, length-append j.plan.imports j.plan.exports) in
    let strings = ap capped (sym (strings_counted j)) in
    let moves = moves_counted j in
    let words = ap capped (sym (words_counted j)) in
    let calls = nat_lt 0 (length j.plan.plt) in
    let entries =
    ap (λ (b : Bool). entry_count j.options j.names.names (present_in j) (length j.names.needed) b calls)
    (ap (λ (n : ℕ). nat_lt 0 n) moves ∙ some_capped (rela_dyn_count j)) ∙ sym (entries_counted j) in
    λ i. record {
      program = not (is_shared j.options.kind);
      interpreter = interpreter i;
      rows = rows i;
      strings = strings i;
      moves = moves i;
      calls = length j.plan.plt;
      words = words i;
      entries = entries i;
      header = j.rules.header_len;
    }
