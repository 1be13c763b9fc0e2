-- What a map has of each name, row by row.
use Rattle.std.proofs.Common.{◌≡◌, ℕ, Bool, true, false, not, ◌&&◌, cond, if◌then◌else◌, List, [], ◌∷◌, fold, Some, unwrap_or, refl, ap, ◌∙◌, Bor}
use Rattle.std.specs.BTreeMap as tree
use Rattle.std.specs.BTreeMap.{BTreeMap}
use Rattle.std.specs.Cmp.Lexicographic.{slice_cmp}
use Rattle.std.specs.Ordering.{nat_cmp}
use Rattle.std.proofs.lemmas.Map.Text.{btree_map_updates_str}
use Rattle.ifs_interface.specs.Triple.{same_name}
use Rattle.ifs_interface.proofs.Names.{same_name-is}
use Rattle.elf_object.specs.declared.symbol.ObjSymbol.{ObjSymbol}
use Rattle.link_core.specs.Mentions.{is_common_place, is_local}
use Rattle.link_commons.specs.declared.asked.Asked.{Asked}
use Rattle.link_commons.specs.Asked.{asked_in, asks, more, more_of, nothing}

-- a row put into the map
pub noted : (name : List ℕ) (m n : BTreeMap (Bor (List ℕ)) Asked) (now : Asked) (row : ObjSymbol) → tree.UpdatesBy (λ x y. slice_cmp nat_cmp x.now y.now) (λ k. slice_cmp nat_cmp name k.now) m n (Some now) → now ≡ more (asked_in m name) row
    → (q : List ℕ) → asked_in n q ≡ (if same_name name q then more (asked_in m q) row else asked_in m q)
noted name m n now row put now_is q =
    ap (λ o. unwrap_or o nothing) (btree_map_updates_str name m n (Some now) put q) ∙ by (same_name name q) refl
  where
    by : (t : Bool) → same_name name q ≡ t → unwrap_or (cond t (Some now) (tree.get_by (λ k. slice_cmp nat_cmp q k.now) m)) nothing ≡ (if t then more (asked_in m q) row else asked_in m q)
    by true e = now_is ∙ ap (λ k. more (asked_in m k) row) (same_name-is name q e)
    by false e = refl

-- a row that asks for room
pub row_noted : (a b : Asked) (q : List ℕ) (row : ObjSymbol) → b ≡ (if same_name row.name q then more a row else a) → (not (is_local row) && is_common_place row.place) ≡ true → b ≡ more_of a (asks q) (row ∷ [])
row_noted a b q row noted_is room = by (not (is_local row)) (is_common_place row.place) (same_name row.name q) noted_is room
  where
    by : (l c t : Bool) → b ≡ (if t then more a row else a) → (l && c) ≡ true → b ≡ fold more a (cond (l && (t && c)) (row ∷ []) [])
    by true true true e h = e
    by true true false e h = e
    by true false t e h = absurd (cc)
    by false c t e h = absurd (cc)
