-- The rows of a resolution.
use Rattle.std.proofs.Common.{◌≡◌, ℕ, zero, suc, ◌<◌, true, List, [], ◌∷◌, map, length, get_or, refl, sym, ap, ◌∙◌, subst, arith}
use Rattle.std.specs.Prelude.{Option, Some, None, Result, Ok, Contains}
use Rattle.ifs_bytes.specs.Outcome.{◌>>=◌}
use Rattle.ifs_interface.specs.Interface.{ascends}
use Rattle.ifs_interface.proofs.InOrder.{in_order_ascends}
use Rattle.elf_object.specs.Record.{ObjectRecord}
use Rattle.link_core.specs.declared.options.LinkOptions.{LinkOptions}
use Rattle.link_core.specs.declared.refusal.LinkRefusal.{LinkRefusal}
use Rattle.link_core.specs.declared.resolution.Member.{Member}
use Rattle.link_core.specs.declared.resolution.NameRow.{NameRow}
use Rattle.link_core.specs.declared.resolution.Resolution.{Resolution}
use Rattle.link_core.specs.Kept.{dropped_sections}
use Rattle.link_core.specs.Lists.{first_some, unrefused}
use Rattle.link_core.specs.Mentions.{mentioned_names}
use Rattle.link_core.specs.Resolution.{Scope, scope_of, row_of, names_of, resolved, resolution_in, resolution_of, versioned_side, other_machine, machine_of, duplicate_in, hidden_in, undefined_in, library_undefined, no_entry}
use Rattle.link_core.specs.Side.{Side, libraries_of}

-- what was answered behind a test was answered without it
then_ok : (test : Option LinkRefusal) (next : Result Resolution LinkRefusal) (r : Resolution) → unrefused test >>= (λ _. next) ≡ Ok r → next ≡ Ok r
then_ok None next r e = e
then_ok (Some refusal) next r e = absurd (cc)

-- ---- what is resolved is the resolution of its scope

abbrev entered : Scope → List Member → Result Resolution LinkRefusal
entered s dropped = unrefused (no_entry s) >>= (λ _. Ok (resolved s dropped (names_of s)))

abbrev wanted : Scope → List Member → Result Resolution LinkRefusal
wanted s dropped = unrefused (library_undefined s) >>= (λ _. entered s dropped)

abbrev defined : Scope → List Member → Result Resolution LinkRefusal
defined s dropped = unrefused (first_some (undefined_in s) (mentioned_names s.mentions)) >>= (λ _. wanted s dropped)

abbrev shown : Scope → List Member → Result Resolution LinkRefusal
shown s dropped = unrefused (first_some (hidden_in s) (mentioned_names s.mentions)) >>= (λ _. defined s dropped)

in_scope : (s : Scope) (dropped : List Member) (r : Resolution) → resolution_in s dropped ≡ Ok r → resolved s dropped (names_of s) ≡ r
unfolding resolution_in
in_scope s dropped r e =
    let one = then_ok (first_some (duplicate_in s) (mentioned_names s.mentions)) (shown s dropped) r e in
    let two = then_ok (first_some (hidden_in s) (mentioned_names s.mentions)) (defined s dropped) r one in
    let three = then_ok (first_some (undefined_in s) (mentioned_names s.mentions)) (wanted s dropped) r two in
    let four = then_ok (library_undefined s) (entered s dropped) r three in
    let five = then_ok (no_entry s) (Ok (resolved s dropped (names_of s))) r four in
    cc

rows_are : (options : LinkOptions) (objects : List ObjectRecord) (sides : List Side) (r : Resolution) → resolution_of options objects sides ≡ Ok r → r.names ≡ names_of (scope_of options objects sides)
unfolding resolution_of
rows_are options objects sides r e =
    let s = scope_of options objects sides in
    let dropped = dropped_sections objects in
    let one = then_ok (versioned_side sides) (unrefused (other_machine (machine_of objects) objects (libraries_of sides)) >>= (λ _. resolution_in s dropped)) r e in
    let two = then_ok (other_machine (machine_of objects) objects (libraries_of sides)) (resolution_in s dropped) r one in
    ap (λ (q : Resolution). q.names) (sym (in_scope s dropped r two))

-- ---- the names of rows

name_is : (s : Scope) (n : List ℕ) → (row_of s n).name ≡ n
unfolding row_of
name_is s n = refl

names_are : (s : Scope) (ns : List (List ℕ)) → map (λ (row : NameRow). row.name) (map (row_of s) ns) ≡ ns
names_are s [] = refl
names_are s (n ∷ ns) =
    let here = name_is s n in
    let rest = names_are s ns in
    λ i. here i ∷ rest i

scope_ascends : (s : Scope) → ascends (map (λ (row : NameRow). row.name) (names_of s)) ≡ true
unfolding names_of mentioned_names
scope_ascends s = ap ascends (names_are s (mentioned_names s.mentions)) ∙ in_order_ascends (map (λ m. m.symbol.name) s.mentions)

pub names_ascend : (options : LinkOptions) (objects : List ObjectRecord) (sides : List Side) (r : Resolution) → resolution_of options objects sides ≡ Ok r → ascends (map (λ (row : NameRow). row.name) r.names) ≡ true
names_ascend options objects sides r e =
    ap (λ rows. ascends (map (λ (row : NameRow). row.name) rows)) (rows_are options objects sides r e) ∙ scope_ascends (scope_of options objects sides)

-- ---- one row a name

row_is : (s : Scope) (ns : List (List ℕ)) (k : ℕ) (x : NameRow) → k < length (map (row_of s) ns) → get_or (map (row_of s) ns) k x ≡ x → row_of s x.name ≡ x
row_is s [] k x lt e = absurd (omega (arith, lt))
row_is s (n ∷ ns) zero x lt e = subst (λ (row : NameRow). row_of s row.name ≡ row) e (ap (row_of s) (name_is s n))
row_is s (n ∷ ns) (suc k) x lt e = row_is s ns k x (omega (arith, lt)) e

contained : (s : Scope) (x : NameRow) → Contains (names_of s) x → row_of s x.name ≡ x
unfolding names_of
contained s x c = row_is s (mentioned_names s.mentions) c.0 x c.1 c.2

pub names_once : (options : LinkOptions) (objects : List ObjectRecord) (sides : List Side) (r : Resolution) (one other : NameRow) → resolution_of options objects sides ≡ Ok r → Contains r.names one → Contains r.names other → one.name ≡ other.name → one ≡ other
names_once options objects sides r one other e c d same =
    let s = scope_of options objects sides in
    let rows = rows_are options objects sides r e in
    sym (contained s one (subst (λ names. Contains names one) rows c)) ∙ ap (row_of s) same ∙ contained s other (subst (λ names. Contains names other) rows d)
