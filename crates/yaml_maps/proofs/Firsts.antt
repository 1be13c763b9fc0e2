-- The first that a function gives, as a loop goes.
use Rattle.std.proofs.Common.{◌≡◌, ℕ, ◌+◌, ◌<◌, ◌≤◌, List, [], length, map, get_or, Option, Some, None, sym, ap, ◌∙◌}
use Rattle.std.specs.Option.{option_or}
use Rattle.std.proofs.lemmas.List.{get_or-map}
use Rattle.yaml_nodes.specs.declared.node.Entry.{Entry}
use Rattle.ifs_bytes.specs.Places.{places}
use Rattle.ifs_bytes.proofs.Range.{places_more, places_end}
use Rattle.yaml_maps.specs.Maps.{first_of}
use Rattle.yaml_nodes.specs.Nodes.{key_of}

pub first_here : {Y : Type 0} (f : ℕ → Option Y) (i n : ℕ) (y : Y) → i < n → Some y ≡ f i → first_of f (places i n) ≡ Some y
first_here f i n y lt is = ap (first_of f) (places_more i n lt) ∙ ap (λ o. option_or o (first_of f (places (i + 1) n))) (sym is)

pub first_later : {Y : Type 0} (f : ℕ → Option Y) (i n : ℕ) → i < n → None ≡ f i → first_of f (places i n) ≡ first_of f (places (i + 1) n)
first_later f i n lt is = ap (first_of f) (places_more i n lt) ∙ ap (λ o. option_or o (first_of f (places (i + 1) n))) (sym is)

pub first_end : {Y : Type 0} (f : ℕ → Option Y) (i n : ℕ) → n ≤ i → first_of f (places i n) ≡ None
first_end f i n past = ap (first_of f) (places_end i n past)

pub key_at : (es : List Entry) (i : ℕ) (e : Entry) → i < length es → e ≡ get_or es i e → get_or (map key_of es) i [] ≡ key_of e
key_at es i e lt is = get_or-map key_of es i e [] lt ∙ ap key_of (sym is)
