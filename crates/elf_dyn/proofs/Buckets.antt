-- A loop over the buckets of a hash table: what it has seen and what is left give the summary of all.
use Rattle.std.proofs.Common.{◌≡◌, ℕ, suc, ◌+◌, ◌-◌, ◌<◌, Bool, true, false, nat_lt, List, ◌∷◌, Result, Ok, Err, refl, sym, ap, ◌∙◌, arith}
use Rattle.std.specs.Prelude.{◌&&◌, max}
use Rattle.std.specs.List.{fold, list_all}
use Rattle.ifs_bytes.specs.Outcome.{◌>>=◌}
use Rattle.ifs_bytes.specs.declared.form.Order.{Order}
use Rattle.elf_file.specs.declared.cause.ElfCause.{ElfCause}
use Rattle.elf_dyn.specs.Hash.{word_in, words_in}

-- the summary of buckets that were seen and of more
abbrev pub seen : ℕ → ℕ → Bool → Result (List ℕ) ElfCause → Result (ℕ × Bool) ElfCause
seen first greatest all_below more = more >>= λ words. Ok (fold max greatest words, all_below && list_all (λ b. nat_lt b first) words)

and_assoc : (a b c : Bool) → (a && (b && c)) ≡ ((a && b) && c)
and_assoc true b c = refl
and_assoc false b c = refl

one_more : (first greatest : ℕ) (all_below : Bool) (word : ℕ) (more : Result (List ℕ) ElfCause)
    → seen first greatest all_below (more >>= λ others. Ok (word ∷ others)) ≡ seen first (max greatest word) (all_below && nat_lt word first) more
one_more first greatest all_below word (Ok words) =
    ap (λ b. Ok (fold max (max greatest word) words, b)) (and_assoc all_below (nat_lt word first) (list_all (λ b. nat_lt b first) words))
one_more first greatest all_below word (Err cause) = refl

pub turn : (file : List ℕ) (order : Order) (first count i place greatest word : ℕ) (all_below : Bool) (all : Result (ℕ × Bool) ElfCause)
    → i < count → word_in file order place ≡ Ok word → seen first greatest all_below (words_in file order place (count - i)) ≡ all
    → seen first (max greatest word) (all_below && nat_lt word first) (words_in file order (place + 4) (count - (i + 1))) ≡ all
unfolding words_in
turn file order first count i place greatest word all_below all lt here so_far =
    let left : count - i ≡ suc (count - (i + 1)) = omega arith in
    let more = words_in file order (place + 4) (count - (i + 1)) in
    let step : seen first greatest all_below (words_in file order place (count - i)) ≡ seen first (max greatest word) (all_below && nat_lt word first) more = rw (left, here) (one_more first greatest all_below word more) in
    sym step ∙ so_far

pub fault : (file : List ℕ) (order : Order) (first count i place greatest : ℕ) (all_below : Bool) (cause : ElfCause) (all : Result (ℕ × Bool) ElfCause)
    → i < count → word_in file order place ≡ Err cause → seen first greatest all_below (words_in file order place (count - i)) ≡ all → Err cause ≡ all
unfolding words_in
fault file order first count i place greatest all_below cause all lt here so_far =
    let left : count - i ≡ suc (count - (i + 1)) = omega arith in
    let step : seen first greatest all_below (words_in file order place (count - i)) ≡ Err cause = rw (left, here) refl in
    sym step ∙ so_far
