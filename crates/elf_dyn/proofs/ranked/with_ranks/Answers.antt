use Rattle.std.proofs.Common.{◌≡◌, ℕ, ◌+◌, true, Bool, List, [], ◌∷◌, map, refl, sym, ap, ◌∙◌, rules}
use Rattle.std.proofs.lemmas.Iterator.{YieldsList-from_slice, YieldsList-from_map_by, items_from_drains}
use Rattle.std.proofs.lemmas.Iterator.Consumers.{YieldsList-from_enumerate}
use Rattle.std.specs.List.{enumerate_from, list_all}
use Rattle.std.proofs.lemmas.List.Folds.{list_all-map}
use Rattle.elf_dyn.specs.declared.ranked.Ranked.{Ranked}
use Rattle.elf_dyn.specs.Rank.{are_bytes, rank}
use Rattle.elf_dyn.specs.Ranked.{placed}
use Rattle.ifs_interface.proofs.Lists.{map_itself}
use Rattle.elf_dyn.proofs.ranked.with_ranks.Goals as goal

numbered : {X Y : Type 0} (f : X → Y) (n : ℕ) (xs : List X) → map (λ p. f p.1) (enumerate_from n xs) ≡ map f xs
numbered f n [] = refl
numbered f n (x ∷ xs) = ap (λ ys. f x ∷ ys) (numbered f (n + 1) xs)

pub returns-clause-rows : goal.returns-clause-rows
returns-clause-rows c =
    let ran = c.in_ok-collect.ensures.ran in
    ap (map (λ r. r.row.now)) ran.2.0
    ∙ items_from_drains ran.0 ran.1 (YieldsList-from_map_by _ (λ r. r.row.now) (λ p. p.1) (YieldsList-from_enumerate (YieldsList-from_slice c.args.rows.now cc) cc) c.map.ensures.closure (λ x r q k. search rules))
    ∙ numbered (λ row. row) 0 c.args.rows.now
    ∙ map_itself (λ row. row) (λ row. refl) c.args.rows.now

pub returns-clause-ranks : goal.returns-clause-ranks
returns-clause-ranks c =
    let ran = c.in_ok-collect.ensures.ran in
    ap (map (λ r. r.rank)) ran.2.0
    ∙ items_from_drains ran.0 ran.1 (YieldsList-from_map_by _ (λ r. r.rank) (λ p. rank c.args.front.now p.1.name) (YieldsList-from_enumerate (YieldsList-from_slice c.args.rows.now cc) cc) c.map.ensures.closure (λ x r q k. search rules))
    ∙ numbered (λ row. rank c.args.front.now row.name) 0 c.args.rows.now

all_true : {X : Type 0} (xs : List X) → list_all (λ t. t) (map (λ _. true) xs) ≡ true
all_true [] = refl
all_true (x ∷ xs) = all_true xs

pub returns-clause-bytes : goal.returns-clause-bytes
returns-clause-bytes c =
    let ran = c.in_ok-collect.ensures.ran in
    let test : Ranked → Bool = λ r. are_bytes r.row.now.name in
    ap (list_all test) ran.2.0
    ∙ sym (list_all-map (λ t. t) test ran.0)
    ∙ ap (list_all (λ t. t)) (items_from_drains ran.0 ran.1 (YieldsList-from_map_by _ test (λ p. true) (YieldsList-from_enumerate (YieldsList-from_slice c.args.rows.now cc) cc) c.map.ensures.closure (λ x r q k. search rules)))
    ∙ all_true (enumerate_from 0 c.args.rows.now)

pub returns-clause-places : goal.returns-clause-places
returns-clause-places c =
    let ran = c.in_ok-collect.ensures.ran in
    ap (map placed) ran.2.0
    ∙ items_from_drains ran.0 ran.1 (YieldsList-from_map_by _ placed (λ p. p) (YieldsList-from_enumerate (YieldsList-from_slice c.args.rows.now cc) cc) c.map.ensures.closure (λ x r q k. search rules))
    ∙ map_itself (λ p. p) (λ p. refl) (enumerate_from 0 c.args.rows.now)
