-- What objects mention, by flags of their kept sections.
use Rattle.std.proofs.Common.{arith, ◌≡◌, ◌<◌, ◌≤◌, ℕ, zero, suc, ◌+◌, ◌-◌, ◌⊎◌, inl, inr, Bool, false, not, ◌&&◌, List, [], ◌∷◌, ◌++◌, map, filter_map, flat_map, length, slice_get, get_or, unwrap_or, Some, None, refl, ap, sym, ◌∙◌}
use Rattle.std.specs.List.{enumerate_from, range_with_len}
use Rattle.std.proofs.lemmas.List.FromFn.{length-map-range_with_len}
use Rattle.std.proofs.lemmas.Option.{slice_get_cases, slice_get_past}
use Rattle.std.specs.Option.{option_map_or}
use Rattle.std.proofs.Math.Path.{fun_ext}
use Rattle.ifs_bytes.specs.Places.{places}
use Rattle.elf_object.specs.Record.{ObjectRecord}
use Rattle.elf_object.specs.Sections.{is_loadable}
use Rattle.link_core.specs.declared.resolution.Member.{Member}
use Rattle.link_core.specs.Kept.{is_among, is_kept}
use Rattle.link_core.specs.Mentions.{Mention, mentioned, mentions_of}
use Rattle.link_names.specs.Flags.{Flags, has_flag, mentions_by, mentions_from}
use Rattle.link_pieces.specs.Flags.{flags_of, kept_flags, rows}

-- ---- the flags of one object

flag_in : (p : ℕ → Bool) (k n s : ℕ) → s < n → has_flag (map p (range_with_len k n)) s ≡ p (k + s)
flag_in p k zero s h = absurd (omega (arith, h))
flag_in p k (suc n) zero h = ap p (omega arith)
flag_in p k (suc n) (suc s) h = flag_in p (k + 1) n s (omega (arith, h)) ∙ ap p (omega arith)

flag_at : (p : ℕ → Bool) (n s : ℕ) → s < n → has_flag (map p (places 0 n)) s ≡ p s
flag_at p n s h =
    let all : n - 0 ≡ n = omega arith in
    ap (λ m. has_flag (map p (range_with_len 0 m)) s) all ∙ flag_in p 0 n s h ∙ ap p (omega arith)

flag_past : (p : ℕ → Bool) (n s : ℕ) → n ≤ s → has_flag (map p (places 0 n)) s ≡ false
flag_past p n s h =
    let long : length (map p (places 0 n)) ≡ n - 0 = length-map-range_with_len p 0 (n - 0) in
    ap (λ o. unwrap_or o false) (slice_get_past (map p (places 0 n)) s (omega (arith, long, h)))

-- a section that isn't there isn't kept
not_there : (dropped : List Member) (i : ℕ) (o : ObjectRecord) (section : ℕ) → slice_get o.sections section ≡ None → is_kept dropped i o section ≡ false
unfolding is_kept
not_there dropped i o section none = ap (λ found. option_map_or is_loadable found false && not (is_among dropped i section)) none

flag_is : (dropped : List Member) (i : ℕ) (o : ObjectRecord) (section : ℕ) → has_flag (flags_of dropped i o) section ≡ is_kept dropped i o section
flag_is dropped i o section = by (slice_get_cases o.sections section).1
  where
    by : ((x : _) × (section < length o.sections) × (slice_get o.sections section ≡ Some x) × (get_or o.sections section x ≡ x)) ⊎ ((length o.sections ≤ section) × (slice_get o.sections section ≡ None))
        → has_flag (flags_of dropped i o) section ≡ is_kept dropped i o section
    by (inl (x, lt, e, g)) = flag_at (is_kept dropped i o) (length o.sections) section lt
    by (inr (le, none)) = flag_past (is_kept dropped i o) (length o.sections) section le ∙ sym (not_there dropped i o section none)

-- ---- all objects

heads : {X : Type 0} (x y : X) (xs ys : List X) → x ∷ xs ≡ y ∷ ys → x ≡ y
heads x y xs ys e = cc

tails : {X : Type 0} (x y : X) (xs ys : List X) → x ∷ xs ≡ y ∷ ys → xs ≡ ys
tails x y xs ys e = cc

abbrev said_by : (ℕ → Bool) → ℕ → ObjectRecord → List Mention
said_by kept i o = filter_map (mentioned kept i) (enumerate_from 0 o.symbols)

from_is : (i : ℕ) (dropped : List Member) (flags : List Flags) (objects : List ObjectRecord)
    → rows flags ≡ map (λ o. flags_of dropped o.0 o.1) (enumerate_from i objects)
    → mentions_from i flags objects ≡ flat_map (λ o. filter_map (mentioned (is_kept dropped o.0 o.1) o.0) (enumerate_from 0 o.1.symbols)) (enumerate_from i objects)
from_is i dropped flags [] e = refl
from_is i dropped [] (o ∷ os) e = absurd (cc)
from_is i dropped (f ∷ fs) (o ∷ os) e =
    let own : has_flag f.items ≡ is_kept dropped i o = ap has_flag (heads _ _ _ _ e) ∙ fun_ext (flag_is dropped i o) in
    ap (λ kept. said_by kept i o ++ mentions_from (i + 1) fs os) own
    ∙ ap (λ rest. said_by (is_kept dropped i o) i o ++ rest) (from_is (i + 1) dropped fs os (tails _ _ _ _ e))

pub mentions_flagged : (dropped : List Member) (flags : List Flags) (objects : List ObjectRecord) → rows flags ≡ kept_flags dropped objects
    → mentions_by flags objects ≡ mentions_of dropped objects
unfolding mentions_of
mentions_flagged dropped flags objects e = from_is 0 dropped flags objects e
