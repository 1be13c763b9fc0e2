-- The passes over objects and rows.
use Rattle.std.proofs.Common.{◌≡◌, ℕ, ◌+◌, ◌<◌, ◌≤◌, List, ◌∷◌, ◌++◌, length, get_or, drop, Option, Some, None, refl, sym, ap, ◌∙◌, append_assoc}
use Rattle.std.specs.List.{enumerate_from, filter_map, cons_option}
use Rattle.std.specs.Option.{option_to_list}
use Rattle.std.proofs.lemmas.List.{at_drop_more, drop_all, append-nil}
use Rattle.elf_object.specs.Record.{ObjectRecord}
use Rattle.link_core.specs.Mentions.{Mention, mentioned}
use Rattle.link_names.specs.Flags.{Flags, has_flag, mentions_from}

front : {Y : Type 0} (o : Option Y) (ys : List Y) → cons_option o ys ≡ option_to_list o ++ ys
front None ys = refl
front (Some y) ys = refl

-- ---- rows

pub rows_more : {X Y : Type 0} (f : ℕ × X → Option Y) (xs : List X) (i : ℕ) (x : X) (old new all : List Y) → i < length xs → x ≡ get_or xs i x → new ≡ old ++ option_to_list (f (i, x)) → old ++ filter_map f (enumerate_from i (drop i xs)) ≡ all → new ++ filter_map f (enumerate_from (i + 1) (drop (i + 1) xs)) ≡ all
rows_more {X = X} {Y = Y} f xs i x old new all h e pushed so_far =
    let F : List X → List Y = λ ys. filter_map f (enumerate_from i ys) in
    let left = filter_map f (enumerate_from (i + 1) (drop (i + 1) xs)) in
    let here : F (drop i xs) ≡ option_to_list (f (i, x)) ++ left = at_drop_more F xs i x h ∙ ap (λ y. F (y ∷ drop (i + 1) xs)) (sym e) ∙ front (f (i, x)) left in
    ap (λ ys. ys ++ left) pushed ∙ append_assoc old (option_to_list (f (i, x))) left ∙ ap (λ ys. old ++ ys) (sym here) ∙ so_far

pub rows_end : {X Y : Type 0} (f : ℕ × X → Option Y) (xs : List X) (i : ℕ) (old all : List Y) → length xs ≤ i → old ++ filter_map f (enumerate_from i (drop i xs)) ≡ all → old ≡ all
rows_end f xs i old all h so_far = sym (append-nil old) ∙ sym (ap (λ ys. old ++ filter_map f (enumerate_from i ys)) (drop_all i xs h)) ∙ so_far

-- ---- objects

mentions_at : (i : ℕ) (flags : List Flags) (objects : List ObjectRecord) (f : Flags) (o : ObjectRecord) → i < length objects → i < length flags → o ≡ get_or objects i o → f ≡ get_or flags i f → mentions_from i (drop i flags) (drop i objects) ≡ filter_map (mentioned (has_flag f.items) i) (enumerate_from 0 o.symbols) ++ mentions_from (i + 1) (drop (i + 1) flags) (drop (i + 1) objects)
mentions_at i flags objects f o h k e g =
    at_drop_more (λ os. mentions_from i (drop i flags) os) objects i o h
    ∙ ap (λ x. mentions_from i (drop i flags) (x ∷ drop (i + 1) objects)) (sym e)
    ∙ at_drop_more (λ fs. mentions_from i fs (o ∷ drop (i + 1) objects)) flags i f k
    ∙ ap (λ x. mentions_from i (x ∷ drop (i + 1) flags) (o ∷ drop (i + 1) objects)) (sym g)

pub objects_more : (i : ℕ) (flags : List Flags) (objects : List ObjectRecord) (f : Flags) (o : ObjectRecord) (old new all : List Mention) → i < length objects → i < length flags → o ≡ get_or objects i o → f ≡ get_or flags i f → new ≡ old ++ filter_map (mentioned (has_flag f.items) i) (enumerate_from 0 o.symbols) → old ++ mentions_from i (drop i flags) (drop i objects) ≡ all → new ++ mentions_from (i + 1) (drop (i + 1) flags) (drop (i + 1) objects) ≡ all
objects_more i flags objects f o old new all h k e g pushed so_far =
    let left = mentions_from (i + 1) (drop (i + 1) flags) (drop (i + 1) objects) in
    let here = filter_map (mentioned (has_flag f.items) i) (enumerate_from 0 o.symbols) in
    ap (λ ms. ms ++ left) pushed ∙ append_assoc old here left ∙ ap (λ ms. old ++ ms) (sym (mentions_at i flags objects f o h k e g)) ∙ so_far

pub objects_end : (i : ℕ) (flags : List Flags) (objects : List ObjectRecord) (old all : List Mention) → length objects ≤ i → old ++ mentions_from i (drop i flags) (drop i objects) ≡ all → old ≡ all
objects_end i flags objects old all h so_far =
    sym (append-nil old) ∙ sym (ap (λ os. old ++ mentions_from i (drop i flags) os) (drop_all i objects h)) ∙ so_far
