-- What rows ask for, and what the mentions of a name that are made of them ask for.
use Rattle.std.proofs.Common.{◌≡◌, ℕ, ◌+◌, Bool, true, false, not, ◌&&◌, cond, if◌then◌else◌, List, [], ◌∷◌, ◌++◌, map, filter, fold, max, Some, None, refl, sym, ap, ◌∙◌}
use Rattle.std.specs.List.{enumerate_from, filter_map, flat_map, cons_option}
use Rattle.std.proofs.lemmas.List.Elements.{filter-append}
use Rattle.ifs_interface.specs.Triple.{same_name}
use Rattle.elf_object.specs.declared.symbol.ObjPlace.{ObjPlace}
use Rattle.elf_object.specs.declared.symbol.ObjPlace.TheVariants.{Undefined, Absolute, Common, In}
use Rattle.elf_object.specs.declared.symbol.ObjSymbol.{ObjSymbol}
use Rattle.elf_object.specs.Record.{ObjectRecord}
use Rattle.link_core.specs.declared.resolution.Member.{Member}
use Rattle.link_core.specs.Kept.{is_kept}
use Rattle.link_core.specs.Mentions.{Mention, counted_place, is_common, is_common_place, is_local, mentioned, mentions_of, naming}
use Rattle.link_commons.specs.declared.asked.Asked.{Asked}
use Rattle.link_commons.specs.Asked.{asks, gathered, more, more_of, nothing}

-- with what mentions ask for
abbrev pub folded : Asked → List Mention → Asked
folded a ms = record { align = fold max a.align (map (λ m. m.symbol.value) ms); size = fold max a.size (map (λ m. m.symbol.size) ms) }

folded_append : (a : Asked) (xs ys : List Mention) → folded a (xs ++ ys) ≡ folded (folded a xs) ys
folded_append a [] ys = refl
folded_append a (x ∷ xs) ys = folded_append (folded a (x ∷ [])) xs ys

-- room is counted whatever is kept
counted_common : (kept : ℕ → Bool) (place : ObjPlace) → is_common_place (counted_place kept place) ≡ is_common_place place
counted_common kept Undefined = refl
counted_common kept Absolute = refl
counted_common kept Common = refl
counted_common kept (In section) = by (kept section)
  where
    by : (t : Bool) → is_common_place (if t then In section else Undefined) ≡ false
    by true = refl
    by false = refl

module _ (name : List ℕ) where
  -- the mentions of the name that ask for room
  abbrev pub heard : List Mention → List Mention
  heard ms = filter is_common (naming name ms)

  heard_append : (xs ys : List Mention) → heard (xs ++ ys) ≡ heard xs ++ heard ys
  heard_append xs ys =
      ap (filter is_common) (filter-append (λ m. same_name m.symbol.name name) xs ys) ∙ filter-append is_common (naming name xs) (naming name ys)

  module _ (kept : ℕ → Bool) (object : ℕ) where
    abbrev mention_of : ℕ → ObjSymbol → Mention
    mention_of k s = record { object = object; row = k; symbol = record s { place = counted_place kept s.place } }

    heard_front : (k : ℕ) (s : ObjSymbol) (ms : List Mention) → heard (mention_of k s ∷ ms) ≡ cond (same_name s.name name && is_common_place s.place) (mention_of k s ∷ heard ms) (heard ms)
    heard_front k s ms = by (same_name s.name name)
      where
        by : (t : Bool) → filter is_common (cond t (mention_of k s ∷ naming name ms) (naming name ms)) ≡ cond (t && is_common_place s.place) (mention_of k s ∷ heard ms) (heard ms)
        by true = ap (λ b. cond b (mention_of k s ∷ heard ms) (heard ms)) (counted_common kept s.place)
        by false = refl

    -- the rows of an object
    rows_are : (a : Asked) (k : ℕ) (rows : List ObjSymbol) → more_of a (asks name) rows ≡ folded a (heard (filter_map (mentioned kept object) (enumerate_from k rows)))
    rows_are a k [] = refl
    rows_are a k (s ∷ rows) = by (is_local s) (rows_are a (k + 1) rows) (rows_are (more a s) (k + 1) rows)
      where
        within : (b : Bool) → more_of a (asks name) rows ≡ folded a (heard (filter_map (mentioned kept object) (enumerate_from (k + 1) rows))) → more_of (more a s) (asks name) rows ≡ folded (more a s) (heard (filter_map (mentioned kept object) (enumerate_from (k + 1) rows)))
            → fold more a (cond b (s ∷ filter (asks name) rows) (filter (asks name) rows)) ≡ folded a (cond b (mention_of k s ∷ heard (filter_map (mentioned kept object) (enumerate_from (k + 1) rows))) (heard (filter_map (mentioned kept object) (enumerate_from (k + 1) rows))))
        within true passed counted = counted
        within false passed counted = passed

        by : (l : Bool) → more_of a (asks name) rows ≡ folded a (heard (filter_map (mentioned kept object) (enumerate_from (k + 1) rows))) → more_of (more a s) (asks name) rows ≡ folded (more a s) (heard (filter_map (mentioned kept object) (enumerate_from (k + 1) rows)))
            → fold more a (cond (not l && (same_name s.name name && is_common_place s.place)) (s ∷ filter (asks name) rows) (filter (asks name) rows)) ≡ folded a (heard (cons_option (if l then None else Some (mention_of k s)) (filter_map (mentioned kept object) (enumerate_from (k + 1) rows))))
        by true passed counted = passed
        by false passed counted =
            within (same_name s.name name && is_common_place s.place) passed counted
            ∙ sym (ap (folded a) (heard_front k s (filter_map (mentioned kept object) (enumerate_from (k + 1) rows))))

  module _ (dropped : List Member) where
    abbrev said_by : ℕ × ObjectRecord → List Mention
    said_by o = filter_map (mentioned (is_kept dropped o.0 o.1) o.0) (enumerate_from 0 o.1.symbols)

    objects_are : (a : Asked) (n : ℕ) (objects : List ObjectRecord) → gathered name a objects ≡ folded a (heard (flat_map said_by (enumerate_from n objects)))
    objects_are a n [] = refl
    objects_are a n (o ∷ objects) =
        let others = flat_map said_by (enumerate_from (n + 1) objects) in
        objects_are (more_of a (asks name) o.symbols) (n + 1) objects
        ∙ ap (λ b. folded b (heard others)) (rows_are (is_kept dropped n o) n a 0 o.symbols)
        ∙ sym (folded_append a (heard (said_by (n, o))) (heard others))
        ∙ sym (ap (folded a) (heard_append (said_by (n, o)) others))

    -- what objects ask for is what is said of the name
    pub asked_is : (objects : List ObjectRecord) → gathered name nothing objects ≡ folded nothing (heard (mentions_of dropped objects))
    unfolding mentions_of
    asked_is objects = objects_are nothing 0 objects
