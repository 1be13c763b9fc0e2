-- What was adjusted or stripped is an interface again.
use Rattle.std.proofs.Common.{◌≡◌, ℕ, Bool, true, false, cond, ◌||◌, List, [], ◌∷◌, map, filter, Option, Some, None, refl, ap, ◌∙◌}
use Rattle.std.specs.List.{list_all}
use Rattle.std.proofs.lemmas.Bool.{and_parts, and_from}
use Rattle.ifs_interface.specs.declared.symbol.Symbol.{Symbol}
use Rattle.ifs_interface.specs.declared.target.Target.{Target}
use Rattle.ifs_interface.specs.Parts.{parts_of}
use Rattle.ifs_interface.specs.Interface.{InterfaceRecord, IsInterface, ascends, comes_before, is_proper_name, is_proper_soname, is_proper_target, names_of}
use Rattle.ifs_edit.specs.declared.adjusted.AdjustOptions.{AdjustOptions}
use Rattle.ifs_edit.specs.declared.strip.Strip.{Strip}
use Rattle.ifs_edit.specs.Adjusted.{changed, filled_by, is_kept, kept_symbols, needed_by, or_given, sized}
use Rattle.ifs_edit.specs.Stripped.{stripped, target_left, no_target, parts_left}

-- ---- symbols that stay

all_kept : (q : List ℕ → Bool) (p : Symbol → Bool) (xs : List Symbol) → list_all q (names_of xs) ≡ true → list_all q (names_of (filter p xs)) ≡ true
all_kept q p [] h = refl
all_kept q p (x ∷ xs) h =
    let parts = and_parts (q x.name) (list_all q (names_of xs)) h in
    let rest = all_kept q p xs parts.1 in
    elim (p x) as (λ t. list_all q (names_of (cond t (x ∷ filter p xs) (filter p xs))) ≡ true) [
      | true ↦ and_from (q x.name) (list_all q (names_of (filter p xs))) parts.0 rest
      | false ↦ rest
    ]

kept_ascend : (p : Symbol → Bool) (xs : List Symbol) → ascends (names_of xs) ≡ true → ascends (names_of (filter p xs)) ≡ true
kept_ascend p [] h = refl
kept_ascend p (x ∷ xs) h =
    let parts = and_parts (list_all (comes_before x.name) (names_of xs)) (ascends (names_of xs)) h in
    let rest = kept_ascend p xs parts.1 in
    elim (p x) as (λ t. ascends (names_of (cond t (x ∷ filter p xs) (filter p xs))) ≡ true) [
      | true ↦ and_from (list_all (comes_before x.name) (names_of (filter p xs))) (ascends (names_of (filter p xs))) (all_kept (comes_before x.name) p xs parts.0) rest
      | false ↦ rest
    ]

names_sized : (strip : Bool) (xs : List Symbol) → names_of (map (sized strip) xs) ≡ names_of xs
names_sized true [] = refl
names_sized false [] = refl
names_sized true (x ∷ xs) = ap (λ ns. x.name ∷ ns) (names_sized true xs)
names_sized false (x ∷ xs) = ap (λ ns. x.name ∷ ns) (names_sized false xs)

names_kept : (options : AdjustOptions) (xs : List Symbol) → names_of (kept_symbols options xs) ≡ names_of (filter (is_kept options) xs)
unfolding kept_symbols
names_kept options xs = names_sized options.strip_size (filter (is_kept options) xs)

-- ---- the other parts

proper_soname : (there given : Option (List ℕ)) → is_proper_soname there ≡ true → is_proper_soname given ≡ true → is_proper_soname (or_given given there) ≡ true
proper_soname there None h g = h
proper_soname there (Some given) h g = g

proper_filled : (triple given_triple : Option (List ℕ)) (there given : Target) → triple ≡ there.triple → given_triple ≡ given.triple → is_proper_target there.triple there ≡ true → is_proper_target given.triple given ≡ true → is_proper_target (filled_by given_triple triple there given).triple (filled_by given_triple triple there given) ≡ true
proper_filled triple (Some g) there given t_is g_is h k = k
proper_filled (Some t) None there given t_is g_is h k = h
proper_filled None None there given t_is g_is h k = refl

proper_needed : (strip : Bool) (needed : List (List ℕ)) → list_all is_proper_name needed ≡ true → list_all is_proper_name (needed_by strip needed) ≡ true
proper_needed true needed h = refl
proper_needed false needed h = h

pub changed_is : (i : InterfaceRecord) (options : AdjustOptions) → IsInterface i → is_proper_soname options.soname ≡ true → is_proper_target options.given.triple options.given ≡ true → IsInterface (changed i options)
unfolding changed
changed_is i options h soname target = record {
  parts = record {
    soname_is_proper = proper_soname i.soname options.soname h.parts.soname_is_proper soname;
    target_is_proper = proper_filled i.target.triple options.given.triple i.target options.given refl refl h.parts.target_is_proper target;
    needed_are_proper = proper_needed options.strip_needed i.needed h.parts.needed_are_proper;
    names_are_proper = ap (list_all is_proper_name) (names_kept options i.symbols) ∙ all_kept is_proper_name (is_kept options) i.symbols h.parts.names_are_proper;
  };
  ascending = ap ascends (names_kept options i.symbols) ∙ kept_ascend (is_kept options) i.symbols h.ascending;
}

-- ---- a target that was stripped

proper_left : (strip : Strip) (target : Target) → is_proper_target target.triple target ≡ true → is_proper_target (target_left strip target).triple (target_left strip target) ≡ true
proper_left strip target h =
    let some = strip.arch || strip.width || strip.order in
    let kept = parts_left strip (parts_of target) in
    elim strip.target as (λ t. is_proper_target (cond t no_target (cond some kept target)).triple (cond t no_target (cond some kept target)) ≡ true) [
      | true ↦ refl
      | false ↦ elim some as (λ t. is_proper_target (cond t kept target).triple (cond t kept target) ≡ true) [ true ↦ refl | false ↦ h ]
    ]

pub stripped_is : (i : InterfaceRecord) (strip : Strip) → IsInterface i → IsInterface (stripped i strip)
stripped_is i strip h = record {
  parts = record {
    soname_is_proper = h.parts.soname_is_proper;
    target_is_proper = proper_left strip i.target h.parts.target_is_proper;
    needed_are_proper = h.parts.needed_are_proper;
    names_are_proper = h.parts.names_are_proper;
  };
  ascending = h.ascending;
}
