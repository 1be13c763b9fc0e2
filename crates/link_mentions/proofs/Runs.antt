-- The pass over the runs of one name.
use Rattle.std.proofs.Common.{◌≡◌, ℕ, Bool, get_or, ◌+◌, ◌<◌, ◌≤◌, List, [], ◌∷◌, ◌++◌, take, drop, length, refl, sym, ap, ◌∙◌, append_assoc, arith}
use Rattle.std.proofs.lemmas.List.{drop_all, append-nil}
use Rattle.std.specs.List.{prefix_len, take_while}
use Rattle.std.proofs.lemmas.List.Folds.{length-prefix_len}
use Rattle.ifs_interface.specs.Triple.{same_name}
use Rattle.ifs_interface.proofs.Names.{rises-from_sorted}
use Rattle.ifs_interface.proofs.Groups.{groups_from, run_size, run_size_in}
use Rattle.link_core.specs.Mentions.{Mention, mentioned_names}
use Rattle.link_mentions.specs.ByName.{name_of, by_name, run_length, AreInNameOrder}

run_size_is : (mentions : List Mention) → run_length mentions ≡ run_size name_of mentions
run_size_is [] = refl
run_size_is (m ∷ mentions) = refl

pub run_length_within : (mentions : List Mention) → 0 < length mentions → (0 < run_length mentions) × (run_length mentions ≤ length mentions)
run_length_within mentions h =
    let within = run_size_in name_of mentions h in
    let same = run_size_is mentions in
    (omega arith, omega arith)

-- the run at the front, by the name of the first
pub run_length_by : (mentions : List Mention) (first : Mention) (name : List ℕ) → 0 < length mentions → first ≡ get_or mentions 0 first → name ≡ first.symbol.name → run_length mentions ≡ length (take_while (λ m. same_name m.symbol.name name) mentions)
run_length_by [] first name h e f = absurd (omega arith)
run_length_by (m ∷ mentions) first name h e f =
    let named : List ℕ → Mention → Bool = λ n later. same_name later.symbol.name n in
    let same : m.symbol.name ≡ name = sym (f ∙ ap name_of e) in
    ap (λ n. prefix_len (named n) (m ∷ mentions)) same ∙ sym (length-prefix_len (named name) (m ∷ mentions))

-- the runs from a place on: the one there, and those behind it
runs_at : (sorted : List Mention) (start : ℕ) (rest run : List Mention) (k : ℕ) → AreInNameOrder sorted → start < length sorted → rest ≡ drop start sorted → k ≡ run_length rest → run ≡ take k rest → by_name (drop start sorted) ≡ run ∷ by_name (drop (start + k) sorted)
unfolding by_name mentioned_names
runs_at sorted start rest run k up within rest_is k_is run_is =
    let length_is : run_size name_of (drop start sorted) ≡ k = sym (k_is ∙ ap run_length rest_is ∙ run_size_is (drop start sorted)) in
    let front : run ≡ take k (drop start sorted) = run_is ∙ ap (take k) rest_is in
    groups_from name_of sorted start (rises-from_sorted name_of sorted up) within
    ∙ (λ i. take (length_is i) (drop start sorted) ∷ by_name (drop (start + length_is i) sorted))
    ∙ ap (λ first. first ∷ by_name (drop (start + k) sorted)) (sym front)

-- a turn of the pass
pub runs_more : (sorted : List Mention) (start : ℕ) (rest run : List Mention) (k : ℕ) (done : List (List Mention)) → AreInNameOrder sorted → start < length sorted → rest ≡ drop start sorted → k ≡ run_length rest → run ≡ take k rest → done ++ by_name (drop start sorted) ≡ by_name sorted → (done ++ run ∷ []) ++ by_name (drop (start + k) sorted) ≡ by_name sorted
runs_more sorted start rest run k done up within rest_is k_is run_is so_far =
    append_assoc done (run ∷ []) (by_name (drop (start + k) sorted))
    ∙ ap (λ runs. done ++ runs) (sym (runs_at sorted start rest run k up within rest_is k_is run_is))
    ∙ so_far

-- nothing is left
pub runs_end : (sorted : List Mention) (start : ℕ) (done : List (List Mention)) → length sorted ≤ start → done ++ by_name (drop start sorted) ≡ by_name sorted → done ≡ by_name sorted
unfolding by_name mentioned_names
runs_end sorted start done past so_far =
    sym (append-nil done) ∙ sym (ap (λ left. done ++ by_name left) (drop_all start sorted past)) ∙ so_far
