-- What entries hold, by the place of a path's entry, and after a change there.
use Rattle.std.proofs.Common.{◌≡◌, ℕ, zero, suc, ◌<◌, Bool, true, false, cond, ltb, List, [], ◌∷◌, ◌++◌, length, get_or, Option, None, Some, refl, sym, ap, ◌∙◌, arith}
use Rattle.std.specs.Prelude.{IfSome, slice_get}
use Rattle.std.specs.List.{position, position_or_len}
use Rattle.std.specs.Str.{bytes_eq}
use Rattle.std.proofs.Math.ListN.{set}
use Rattle.std.proofs.Math.Path.{fun_ext}
use Rattle.std.proofs.lemmas.Bool.{ltb-false, true≢false, false_from_ne_true, both_ways}
use Rattle.std.proofs.lemmas.List.Quantifiers.{position-Some}
use Rattle.std.proofs.lemmas.List.Sums.{fails_before_first}
use Rattle.std.proofs.lemmas.List.{get_or_default}
use Rattle.std.proofs.lemmas.Option.{slice_get-get_or}
use Rattle.std.proofs.lemmas.Slice.Eq.{bytes_eq-Decides}
use Rattle.ifs_outside.specs.declared.entries.Entry.{Entry}
use Rattle.ifs_outside.specs.Files.{put}
use Rattle.ifs_outside.specs.MemoryFiles.{held_in}

-- an entry to read past the end
abbrev nothing : Entry
nothing = record { path = []; bytes = None }

-- whether an entry has the path
abbrev has : List ℕ → Entry → Bool
has path entry = bytes_eq entry.path path

-- the first entry with the path stands at the place
record IsFirst (path : List ℕ) (entries : List Entry) (place : ℕ) : Type 0 where
  within : place < length entries
  found : has path (get_or entries place nothing) ≡ true
  before : (k : ℕ) → k < place → has path (get_or entries k nothing) ≡ false

-- no entry has the path
abbrev IsNowhere : List ℕ → List Entry → Type 0
IsNowhere path entries = (k : ℕ) → k < length entries → has path (get_or entries k nothing) ≡ false

first_from : (path : List ℕ) (entries : List Entry) (place : ℕ) → position (has path) entries ≡ Some place → IsFirst path entries place
first_from path entries place is =
    let facts = position-Some (has path) entries place nothing is in
    record { within = facts.0; found = facts.1; before = facts.2 }

no_place : (b : Bool) (n : ℕ) → cond b (Some n) None ≡ None → b ≡ false
no_place true n is = cc
no_place false n is = refl

nowhere_from : (path : List ℕ) (entries : List Entry) → position (has path) entries ≡ None → IsNowhere path entries
nowhere_from path entries is k lt =
    let first = position_or_len (has path) entries in
    let past = ltb-false first (length entries) (no_place (ltb first (length entries)) first is) in
    fails_before_first (has path) entries k nothing (omega arith)

-- two tests that can't both pass may stand in either order
swap_tests : {X : Type 0} (b c : Bool) (x y z : X) → (b ≡ true → c ≡ false) → cond b x (cond c y z) ≡ cond c y (cond b x z)
swap_tests true true x y z apart = absurd (true≢false (apart refl))
swap_tests true false x y z apart = refl
swap_tests false true x y z apart = refl
swap_tests false false x y z apart = refl

-- one test in both places
same_test : {X : Type 0} (b : Bool) (x y z : X) → cond b x z ≡ cond b x (cond b y z)
same_test true x y z = refl
same_test false x y z = refl

-- a path other than this one isn't where this one is
other_path : (this path at : List ℕ) → bytes_eq this path ≡ false → bytes_eq this at ≡ true → bytes_eq path at ≡ false
other_path this path at other is =
    false_from_ne_true (bytes_eq path at) (λ both. both_ways (bytes_eq this path) other ((bytes_eq-Decides this path).1 ((bytes_eq-Decides this at).0 is ∙ sym ((bytes_eq-Decides path at).0 both))))

-- a path holds what its first entry has
held_first : (path : List ℕ) (entries : List Entry) (place : ℕ) → IsFirst path entries place → held_in entries path ≡ (get_or entries place nothing).bytes
held_first path [] place first = absurd (omega (arith, first.within))
held_first path (entry ∷ entries) zero first = rw first.found refl
held_first path (entry ∷ entries) (suc k) first =
    rw (first.before 0 (omega arith)) (held_first path entries k (record { within = omega (arith, first.within); found = first.found; before = λ j lt. first.before (suc j) (omega arith) }))

-- a path without an entry isn't held
held_nowhere : (path : List ℕ) (entries : List Entry) → IsNowhere path entries → held_in entries path ≡ None
held_nowhere path [] none = refl
held_nowhere path (entry ∷ entries) none = rw (none 0 (omega arith)) (held_nowhere path entries (λ k lt. none (suc k) (omega arith)))

-- a change of the first entry is a change of what the path holds
changed_first : (path at : List ℕ) (held : Option (List ℕ)) (entries : List Entry) (place : ℕ) → IsFirst path entries place → held_in (set entries place (record (get_or entries place nothing) { bytes = held })) at ≡ put path held (held_in entries) at
changed_first path at held [] place first = absurd (omega (arith, first.within))
changed_first path at held (entry ∷ entries) zero first =
    let same : entry.path ≡ path = (bytes_eq-Decides entry.path path).0 first.found in
    rw same (same_test (bytes_eq path at) held entry.bytes (held_in entries at))
changed_first path at held (entry ∷ entries) (suc k) first =
    let rest : IsFirst path entries k = record { within = omega (arith, first.within); found = first.found; before = λ j lt. first.before (suc j) (omega arith) } in
    rw (changed_first path at held entries k rest)
    (swap_tests (bytes_eq entry.path at) (bytes_eq path at) entry.bytes held (held_in entries at) (other_path entry.path path at (first.before 0 (omega arith))))

-- a new entry at the end holds for a path that had none
pushed_last : (at : List ℕ) (new : Entry) (entries : List Entry) → IsNowhere new.path entries → held_in (entries ++ new ∷ []) at ≡ put new.path new.bytes (held_in entries) at
pushed_last at new [] none = refl
pushed_last at new (entry ∷ entries) none =
    rw (pushed_last at new entries (λ k lt. none (suc k) (omega arith)))
    (swap_tests (bytes_eq entry.path at) (bytes_eq new.path at) entry.bytes new.bytes (held_in entries at) (other_path entry.path new.path at (none 0 (omega arith))))

cond_same : {X : Type 0} (b : Bool) (x : X) → x ≡ cond b x x
cond_same true x = refl
cond_same false x = refl

-- a path that has no entry may be taken away
taken_nowhere : (path at : List ℕ) (entries : List Entry) → IsNowhere path entries → held_in entries at ≡ put path None (held_in entries) at
taken_nowhere path at [] none = cond_same (bytes_eq path at) None
taken_nowhere path at (entry ∷ entries) none =
    ap (cond (bytes_eq entry.path at) entry.bytes) (taken_nowhere path at entries (λ k lt. none (suc k) (omega arith)))
    ∙ swap_tests (bytes_eq entry.path at) (bytes_eq path at) entry.bytes None (held_in entries at) (other_path entry.path path at (none 0 (omega arith)))

-- what the path's entry has, where it has one
pub held_at : (path : List ℕ) (entries : List Entry) (place : ℕ) (entry : Entry) → Some place ≡ position (has path) entries → entry ≡ get_or entries place entry → entry.bytes ≡ held_in entries path
held_at path entries place entry is read =
    let first = first_from path entries place (sym is) in
    ap (λ (e : Entry). e.bytes) (read ∙ get_or_default entries place entry nothing first.within) ∙ sym (held_first path entries place first)

-- a path without an entry isn't held
pub not_held : (path : List ℕ) (entries : List Entry) → None ≡ position (has path) entries → None ≡ held_in entries path
not_held path entries is = sym (held_nowhere path entries (nowhere_from path entries (sym is)))

-- a change of the path's entry
pub changed : (path : List ℕ) (held : Option (List ℕ)) (entries new : List Entry) (place : ℕ) → Some place ≡ position (has path) entries → IfSome (slice_get entries place) (λ entry. new ≡ set entries place (record entry { bytes = held })) → held_in new ≡ put path held (held_in entries)
changed path held entries new place is change =
    let first = first_from path entries place (sym is) in
    let exact = rw (slice_get-get_or entries place nothing first.within) at change in
    rw exact (fun_ext (λ at. changed_first path at held entries place first))

-- a path without an entry is taken away
pub taken_away : (path : List ℕ) (entries : List Entry) → None ≡ position (has path) entries → held_in entries ≡ put path None (held_in entries)
taken_away path entries is = fun_ext (λ at. taken_nowhere path at entries (nowhere_from path entries (sym is)))

-- a new entry of a path without one
pub pushed : (entries : List Entry) (new : Entry) → None ≡ position (has new.path) entries → held_in (entries ++ new ∷ []) ≡ put new.path new.bytes (held_in entries)
pushed entries new is = fun_ext (λ at. pushed_last at new entries (nowhere_from new.path entries (sym is)))
