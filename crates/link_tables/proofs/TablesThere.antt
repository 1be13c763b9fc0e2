-- Which tables are there, by what is counted.
use Rattle.std.proofs.Common.{◌≡◌, ℕ, ◌+◌, Bool, List, length, ap, sym, ◌∙◌, arith}
use Rattle.std.specs.Prelude.{nat_lt, ◌||◌}
use Rattle.std.proofs.lemmas.Bool.Decides.{nat_tests}
use Rattle.elf_object.specs.Record.{ObjectRecord}
use Rattle.link_core.specs.declared.options.OutKind.{OutKind}
use Rattle.link_core.specs.declared.plan.DynReloc.{DynReloc}
use Rattle.link_core.specs.declared.plan.GotSlot.{GotSlot}
use Rattle.link_core.specs.declared.plan.Plan.{Plan}
use Rattle.link_core.specs.declared.resolution.NameRow.{NameRow}
use Rattle.link_core.specs.Entries.{rela_dyn_count}
use Rattle.link_core.specs.Planned.{Planned}
use Rattle.link_core.specs.Slots.{fill_count, word_count}
use Rattle.link_tables.specs.Capped.{capped}
use Rattle.link_tables.specs.Fills.{fills_in, words_in}
use Rattle.link_tables.proofs.Counted.{some_capped}
use Rattle.link_tables.proofs.SlotSizes.{fills_counted, words_counted}

pub words_there : (j : Planned) → nat_lt 0 (capped (words_in j.plan.got)) ≡ nat_lt 0 (word_count j)
words_there j = some_capped (words_in j.plan.got) ∙ ap (λ (n : ℕ). nat_lt 0 n) (sym (words_counted j))

either_there : (m n : ℕ) → (nat_lt 0 m || nat_lt 0 (capped n)) ≡ nat_lt 0 (n + m)
either_there m n = grind (arith, nat_tests)

pub moves_there : (j : Planned) → (nat_lt 0 (length j.plan.moves) || nat_lt 0 (capped (fills_in j.objects j.names.names j.options.kind j.plan.got))) ≡ nat_lt 0 (rela_dyn_count j)
moves_there j =
    either_there (length j.plan.moves) (fills_in j.objects j.names.names j.options.kind j.plan.got)
    ∙ ap (λ (n : ℕ). nat_lt 0 (n + length j.plan.moves)) (sym (fills_counted j))

-- with what calls gave
pub moves_given :
    (objects : List ObjectRecord) (names : List NameRow) (kind : OutKind) (p : Plan) (moves : List DynReloc) (got : List GotSlot) (fills : ℕ) (result : Bool)
    → moves ≡ p.moves → got ≡ p.got → fills ≡ capped (fills_in objects names kind got) → result ≡ (nat_lt 0 (length moves) || nat_lt 0 fills)
    → (j : Planned) → j.objects ≡ objects → j.names.names ≡ names → j.options.kind ≡ kind → j.plan ≡ p → result ≡ nat_lt 0 (rela_dyn_count j)
moves_given objects names kind p moves got fills result moves_is got_is fills_is result_is j objects_is names_is kind_is plan_is =
    result_is
    ∙ (λ i. nat_lt 0 (length (moves_is i)) || nat_lt 0 (fills_is i))
    ∙ (λ i. nat_lt 0 (length p.moves) || nat_lt 0 (capped (fills_in objects names kind (got_is i))))
    ∙ (λ i. nat_lt 0 (length (sym plan_is i).moves) || nat_lt 0 (capped (fills_in (sym objects_is i) (sym names_is i) (sym kind_is i) (sym plan_is i).got)))
    ∙ moves_there j
