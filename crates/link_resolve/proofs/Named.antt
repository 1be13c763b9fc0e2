-- The names of a scope, each by its own mentions.
use Rattle.std.proofs.Common.{◌≡◌, ℕ, Bool, true, false, ◌==◌, if◌then◌else◌, List, [], ◌∷◌, map, filter, Option, Some, None, refl, ap, sym, ◌∙◌}
use Rattle.std.specs.List.{list_all, find}
use Rattle.std.specs.Option.{option_map}
use Rattle.std.proofs.lemmas.Bool.{and_parts, false≢true}
use Rattle.std.proofs.Math.Path.{fun_ext}
use Rattle.ifs_interface.specs.Triple.{same_name}
use Rattle.ifs_interface.proofs.Groups.{all_some, group_is_named, is_named}
use Rattle.ifs_interface.proofs.Lists.{has_some, map_agree}
use Rattle.ifs_interface.proofs.Names.{same_name-is}
use Rattle.ifs_interface.proofs.Repeats.{list_all-weaker}
use Rattle.link_core.specs.declared.refusal.LinkRefusal.TheVariants as refusals
use Rattle.link_core.specs.declared.resolution.Bound.TheVariants as bounds
use Rattle.link_core.specs.declared.resolution.NameRow.{NameRow}
use Rattle.link_core.specs.declared.constants.TheConstants.{STV_DEFAULT}
use Rattle.link_core.specs.Binding.{Allotted, Binding, Defined, Provided, Taken, Unbound, binding_of}
use Rattle.link_core.specs.Exports.{is_shared}
use Rattle.link_core.specs.Lists.{first_some}
use Rattle.link_core.specs.Mentions.{Mention, are_weak, is_strong_definition, is_strong_want, mentioned_names, naming, strictest}
use Rattle.link_core.specs.Provided.{is_provided}
use Rattle.link_core.specs.Resolution.{Scope, binding_in, bound_by, defined_twice, duplicate_in, hidden_in, is_unbound, names_of, row_of, undefined_in, unmet_want}
use Rattle.link_mentions.specs.ByName.{by_name, name_of}
use Rattle.link_names.specs.declared.names.Name.{Name}
use Rattle.link_names.specs.Named as named
use Rattle.link_resolve.specs.Names as meant
use Rattle.link_resolve.proofs.First.{first_agree, first_none, first_through}

-- ---- mentions of one name have that name

run_is : (name : List ℕ) (ms : List Mention) → has_some ms ≡ true → list_all (is_named name_of name) ms ≡ true → same_name (named.run_name ms) name ≡ true
run_is name [] h g = absurd (false≢true h)
run_is name (m ∷ ms) h g = (and_parts (is_named name_of name m) (list_all (is_named name_of name) ms) g).0

abbrev pub is_right : List Mention → List ℕ → Bool
is_right mentions name = same_name (named.run_name (naming name mentions)) name

pub all_right : (mentions : List Mention) → list_all (is_right mentions) (mentioned_names mentions) ≡ true
unfolding mentioned_names
all_right mentions =
    list_all-weaker (λ n. has_some (naming n mentions)) (is_right mentions)
    (λ n e. run_is n (naming n mentions) e (group_is_named name_of n mentions)) (mentioned_names mentions) (all_some name_of mentions)

-- ---- names

pub map_through : {X Y Z : Type 0} (f : Y → Z) (g : X → Y) (xs : List X) → map f (map g xs) ≡ map (λ x. f (g x)) xs
map_through f g [] = refl
map_through f g (x ∷ xs) = ap (λ ys. f (g x) ∷ ys) (map_through f g xs)

abbrev name_from : Scope → List Mention → Name
name_from s mentions = named.name_by s.options s.libraries (is_provided s.outputs) mentions

from_right : (s : Scope) (n : List ℕ) → is_right s.mentions n ≡ true → name_from s (naming n s.mentions) ≡ meant.name_for s n
from_right s n e =
    ap (λ k. named.name_with s.options s.libraries (is_provided s.outputs k) k (naming n s.mentions)) (same_name-is (named.run_name (naming n s.mentions)) n e)

pub names_for : (s : Scope) → meant.names_in s ≡ map (meant.name_for s) (mentioned_names s.mentions)
unfolding meant.names_in by_name
names_for s =
    map_through (name_from s) (λ n. naming n s.mentions) (mentioned_names s.mentions)
    ∙ map_agree (λ n. name_from s (naming n s.mentions)) (meant.name_for s) (is_right s.mentions) (from_right s) (mentioned_names s.mentions) (all_right s.mentions)

abbrev row_for : Scope → List ℕ → NameRow
row_for s n = (meant.name_for s n).row

pub row_is : (s : Scope) (n : List ℕ) → row_for s n ≡ row_of s n
unfolding row_of binding_in binding_of
row_is s n = refl

pub rows_are : (s : Scope) → map (λ (n : Name). n.row) (meant.names_in s) ≡ names_of s
unfolding names_of
rows_are s =
    ap (map (λ (n : Name). n.row)) (names_for s)
    ∙ map_through (λ (n : Name). n.row) (meant.name_for s) (mentioned_names s.mentions)
    ∙ ap (λ f. map f (mentioned_names s.mentions)) (fun_ext (row_is s))

-- ---- refusals

twice_is : (s : Scope) (n : List ℕ) → is_right s.mentions n ≡ true → named.twice_in (naming n s.mentions) ≡ duplicate_in s n
unfolding duplicate_in
twice_is s n e =
    ap (λ k. defined_twice k (filter is_strong_definition (naming n s.mentions))) (same_name-is (named.run_name (naming n s.mentions)) n e)

pub twice_are : (s : Scope) → first_some named.twice_in (by_name s.mentions) ≡ first_some (duplicate_in s) (mentioned_names s.mentions)
unfolding by_name duplicate_in
twice_are s =
    first_through named.twice_in (λ n. naming n s.mentions) (mentioned_names s.mentions)
    ∙ first_agree (λ n. named.twice_in (naming n s.mentions)) (duplicate_in s) (is_right s.mentions) (twice_is s) (mentioned_names s.mentions) (all_right s.mentions)

either : (weak : Bool) → named.is_bound_nowhere (if weak then bounds.Zero else bounds.Import) ≡ true
either true = refl
either false = refl

-- nothing is there for a name just where it is unbound
nowhere_is : (b : Binding) (ms : List Mention) → named.is_bound_nowhere (bound_by b ms) ≡ is_unbound b
nowhere_is (Defined m) ms = refl
nowhere_is Allotted ms = refl
nowhere_is Provided ms = refl
nowhere_is (Taken library fact) ms = refl
nowhere_is Unbound ms = either (are_weak ms)

-- the first strong want of a name for which there is nothing
abbrev want_of : Scope → List ℕ → Option Mention
want_of s n = if is_unbound (binding_in s n) then find is_strong_want (naming n s.mentions) else None

made_of_want : (t : Bool) (found : Option Mention) → (if t then option_map (λ m. m.object) found else None) ≡ option_map (λ m. m.object) (if t then found else None)
made_of_want true found = refl
made_of_want false found = refl

unmet_is : (s : Scope) (n : List ℕ) → (meant.name_for s n).unmet ≡ option_map (λ m. m.object) (want_of s n)
unfolding binding_in binding_of
unmet_is s n =
    let b = binding_of (λ _. is_provided s.outputs n) s.libraries n (naming n s.mentions) in
    ap (λ t. if t then option_map (λ m. m.object) (find is_strong_want (naming n s.mentions)) else None) (nowhere_is b (naming n s.mentions))
    ∙ made_of_want (is_unbound b) (find is_strong_want (naming n s.mentions))

made_twice : {X Y Z : Type 0} (f : Y → Z) (g : X → Y) (o : Option X) → option_map f (option_map g o) ≡ option_map (λ x. f (g x)) o
made_twice f g None = refl
made_twice f g (Some x) = refl

hidden_is : (s : Scope) (n : List ℕ) → named.hidden_by (meant.name_for s n) ≡ hidden_in s n
unfolding hidden_in unmet_want
hidden_is s n =
    ap (λ unmet. if strictest (naming n s.mentions) == STV_DEFAULT then None else option_map (λ o. refusals.HiddenUndefined n) unmet) (unmet_is s n)
    ∙ ap (λ refusal. if strictest (naming n s.mentions) == STV_DEFAULT then None else refusal) (made_twice (λ o. refusals.HiddenUndefined n) (λ m. m.object) (want_of s n))

undefined_is : (s : Scope) (n : List ℕ) → named.undefined_by (meant.name_for s n) ≡ option_map (λ m. refusals.Undefined n m.object) (unmet_want s n)
unfolding unmet_want
undefined_is s n =
    ap (λ unmet. option_map (refusals.Undefined n) unmet) (unmet_is s n) ∙ made_twice (refusals.Undefined n) (λ m. m.object) (want_of s n)

pub hidden_are : (s : Scope) → first_some named.hidden_by (meant.names_in s) ≡ first_some (hidden_in s) (mentioned_names s.mentions)
hidden_are s =
    ap (first_some named.hidden_by) (names_for s)
    ∙ first_through named.hidden_by (meant.name_for s) (mentioned_names s.mentions)
    ∙ ap (λ f. first_some f (mentioned_names s.mentions)) (fun_ext (hidden_is s))

programs_alone : (shared : Bool) (s : Scope) (names : List (List ℕ))
    → (if shared then None else first_some named.undefined_by (map (meant.name_for s) names))
    ≡ first_some (λ n. if shared then None else option_map (λ m. refusals.Undefined n m.object) (unmet_want s n)) names
programs_alone true s names = sym (first_none names)
programs_alone false s names =
    first_through named.undefined_by (meant.name_for s) names ∙ ap (λ f. first_some f names) (fun_ext (undefined_is s))

pub undefined_are : (s : Scope) → meant.undefined_in s.options (meant.names_in s) ≡ first_some (undefined_in s) (mentioned_names s.mentions)
unfolding undefined_in
undefined_are s =
    ap (meant.undefined_in s.options) (names_for s) ∙ programs_alone (is_shared s.options.kind) s (mentioned_names s.mentions)
