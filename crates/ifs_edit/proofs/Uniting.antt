-- The pass over the runs of one name.
use Rattle.std.proofs.Common.{◌≡◌, ℕ, ◌+◌, ◌<◌, ◌≤◌, Bool, true, List, [], ◌∷◌, ◌++◌, take, drop, length, refl, sym, ap, ◌∙◌, append_assoc, arith}
use Rattle.std.specs.Prelude.{Result, Ok, Err}
use Rattle.std.specs.List.Sorted.{IsSortedBy}
use Rattle.std.proofs.lemmas.List.{length-map, drop-map, take-map, drop_all, append-nil}
use denote.Ref.{Bor}
use Rattle.ifs_interface.specs.declared.symbol.Symbol.{Symbol}
use Rattle.ifs_interface.specs.Interface.{comes_before, names_of}
use Rattle.ifs_interface.proofs.Names.{rises, rises-from_sorted}
use Rattle.ifs_interface.proofs.Lists.{map_map}
use Rattle.ifs_interface.proofs.Groups.{groups_from, run_size, run_size_in}
use Rattle.ifs_bytes.specs.Outcome.{◌>>=◌}
use Rattle.ifs_edit.specs.declared.cause.MergeCause.{MergeCause}
use Rattle.ifs_edit.specs.Merged.{by_name, united, united_each}
use Rattle.ifs_edit.specs.Sorted.{pointed, run_length, AreInNameOrder}

abbrev pub Symbols : Type 0
Symbols = Result (List Symbol) MergeCause

-- symbols that were united, before those of what is left
abbrev pub behind_united : List Symbol → Symbols → Symbols
behind_united done (Ok symbols) = Ok (done ++ symbols)
behind_united done (Err cause) = Err cause

abbrev name : Symbol → List ℕ
name s = s.name

run_size_is : (symbols : List Symbol) → run_length symbols ≡ run_size name symbols
run_size_is [] = refl
run_size_is (s ∷ symbols) = refl

abbrev before : Bor Symbol → Bor Symbol → Bool
before one other = comes_before one.now.name other.now.name

-- the names of sorted symbols never fall
rising : (symbols : List (Bor Symbol)) → IsSortedBy before symbols → rises (names_of (pointed symbols)) ≡ true
rising symbols up = ap rises (map_map name (λ s. s.now) symbols) ∙ rises-from_sorted (λ s. s.now.name) symbols up

pub run_length_within : (symbols : List (Bor Symbol)) → 0 < length symbols → (0 < run_length (pointed symbols)) × (run_length (pointed symbols) ≤ length symbols)
run_length_within symbols h =
    let long = length-map symbols (λ s. s.now) in
    let within = run_size_in name (pointed symbols) (omega arith) in
    let same = run_size_is (pointed symbols) in
    (omega arith, omega arith)

-- the groups from a place on: the run there, and those behind it
groups_at : (symbols : List (Bor Symbol)) (start : ℕ) (rest run : List (Bor Symbol)) (k : ℕ) → AreInNameOrder symbols → start < length symbols → rest ≡ drop start symbols → k ≡ run_length (pointed rest) → run ≡ take k rest → by_name (drop start (pointed symbols)) ≡ pointed run ∷ by_name (drop (start + k) (pointed symbols))
unfolding by_name
groups_at symbols start rest run k up within rest_is k_is run_is =
    let all = pointed symbols in
    let behind : pointed rest ≡ drop start all = ap pointed rest_is ∙ sym (drop-map (λ s. s.now) start symbols) in
    let length_is : run_size name (drop start all) ≡ k = sym (k_is ∙ ap run_length behind ∙ run_size_is (drop start all)) in
    let front : pointed run ≡ take k (drop start all) = ap pointed run_is ∙ sym (take-map (λ s. s.now) k rest) ∙ ap (take k) behind in
    let long = length-map symbols (λ s. s.now) in
    groups_from name all start (rising symbols up) (omega arith)
    ∙ (λ i. take (length_is i) (drop start all) ∷ by_name (drop (start + length_is i) all))
    ∙ ap (λ group. group ∷ by_name (drop (start + k) all)) (sym front)

one_more : (done : List Symbol) (symbol : Symbol) (left : Symbols) → behind_united done (left >>= (λ symbols. Ok (symbol ∷ symbols))) ≡ behind_united (done ++ symbol ∷ []) left
one_more done symbol (Ok symbols) = ap (λ all. Ok all) (sym (append_assoc done (symbol ∷ []) symbols))
one_more done symbol (Err cause) = refl

-- a turn: the run becomes a symbol
pub united_more : (symbols : List (Bor Symbol)) (start : ℕ) (rest run : List (Bor Symbol)) (k : ℕ) (done : List Symbol) (symbol : Symbol) (all : Symbols) → AreInNameOrder symbols → start < length symbols → rest ≡ drop start symbols → k ≡ run_length (pointed rest) → run ≡ take k rest → united (pointed run) ≡ Ok symbol → all ≡ behind_united done (united_each (by_name (drop start (pointed symbols)))) → all ≡ behind_united (done ++ symbol ∷ []) (united_each (by_name (drop (start + k) (pointed symbols))))
united_more symbols start rest run k done symbol all up within rest_is k_is run_is symbol_is so_far =
    let left = united_each (by_name (drop (start + k) (pointed symbols))) in
    so_far
    ∙ ap (λ groups. behind_united done (united_each groups)) (groups_at symbols start rest run k up within rest_is k_is run_is)
    ∙ ap (λ u. behind_united done (u >>= (λ s. left >>= (λ more. Ok (s ∷ more))))) symbol_is
    ∙ one_more done symbol left

-- the run is no symbol
pub united_stops : (symbols : List (Bor Symbol)) (start : ℕ) (rest run : List (Bor Symbol)) (k : ℕ) (done : List Symbol) (cause : MergeCause) (all : Symbols) → AreInNameOrder symbols → start < length symbols → rest ≡ drop start symbols → k ≡ run_length (pointed rest) → run ≡ take k rest → united (pointed run) ≡ Err cause → all ≡ behind_united done (united_each (by_name (drop start (pointed symbols)))) → all ≡ Err cause
united_stops symbols start rest run k done cause all up within rest_is k_is run_is cause_is so_far =
    let left = united_each (by_name (drop (start + k) (pointed symbols))) in
    so_far
    ∙ ap (λ groups. behind_united done (united_each groups)) (groups_at symbols start rest run k up within rest_is k_is run_is)
    ∙ ap (λ u. behind_united done (u >>= (λ s. left >>= (λ more. Ok (s ∷ more))))) cause_is

-- nothing is left
pub united_end : (symbols : List (Bor Symbol)) (start : ℕ) (done : List Symbol) (all : Symbols) → length symbols ≤ start → all ≡ behind_united done (united_each (by_name (drop start (pointed symbols)))) → all ≡ Ok done
unfolding by_name
united_end symbols start done all past so_far =
    let long = length-map symbols (λ s. s.now) in
    so_far
    ∙ ap (λ left. behind_united done (united_each (by_name left))) (drop_all start (pointed symbols) (omega arith))
    ∙ ap (λ symbols. Ok symbols) (append-nil done)
