-- The references of one object.
use Rattle.std.proofs.Common.{◌≡◌, ℕ, ◌<◌, Bool, true, false, cond, List, [], ◌∷◌, map, Option, Some, None, refl, subst, arith}
use Rattle.std.proofs.lemmas.Bool.Decides.{nat_tests}
use Rattle.std.specs.List.{AllByRecursion, find}
use Rattle.std.specs.Prelude.{nat_lt, Result, Ok, Err, ◌==◌, ◌&&◌}
use Rattle.ifs_bytes.specs.Outcome.{◌>>=◌}
use Rattle.ifs_bytes.specs.Places.{places}
use Rattle.elf_file.specs.Header.{section_in}
use Rattle.elf_file.specs.declared.header.Header.{Header}
use Rattle.elf_file.specs.declared.section.SectionHeader.{SectionHeader}
use Rattle.elf_object.specs.declared.parts.Parts.{Parts}
use Rattle.elf_object.specs.declared.reference.Reference.{Reference}
use Rattle.elf_object.specs.Object.{checked_names, checked_tables, object_at, object_header, object_of}
use Rattle.elf_object.specs.Parts.{parts_of}
use Rattle.elf_object.specs.Record.{ObjectRecord}
use Rattle.elf_object.specs.References.{entries_of, entry_count, entry_of, first_table, is_table, is_table_for, references_at, references_of}
use Rattle.elf_object.specs.Sections.{is_loadable_at}
use Rattle.link_order.specs.Laws.{ReferencesAscend}
use Rattle.link_order.specs.Order.{Ascends, reference_before}
use Rattle.link_order.proofs.Ascending.{ascends_map}
use Rattle.link_order.proofs.Numbered.{Gives, flat_ascends, range_ascends}

-- ---- the references of a section

later_section : (a b : Reference) → a.section < b.section → reference_before a b ≡ true
later_section a b h = grind (arith, nat_tests)

later_entry : (file : List ℕ) (table : SectionHeader) (x y : ℕ) → nat_lt x y ≡ true
    → reference_before (entry_of file table x) (entry_of file table y) ≡ true
unfolding entry_of
later_entry file table x y h = grind (arith, nat_tests)

pub all_mapped : {A B : Type 0} (f : A → B) (P : B → Type 0) → ((x : A) → P (f x)) → (xs : List A)
    → AllByRecursion P (map f xs)
all_mapped f P g [] = tt
all_mapped f P g (x ∷ xs) = (g x, all_mapped f P g xs)

find_step : {A : Type 0} (p : A → Bool) (x y : A) (b : Bool) (rest : Option A) → p x ≡ b
    → cond b (Some x) rest ≡ Some y → (rest ≡ Some y → p y ≡ true) → p y ≡ true
find_step p x y true rest e h next = grind (arith)
find_step p x y false rest e h next = next h

found_passes : {A : Type 0} (p : A → Bool) (xs : List A) (y : A) → find p xs ≡ Some y → p y ≡ true
found_passes p [] y h = absurd (cc)
found_passes p (x ∷ xs) y h = find_step p x y (p x) (find p xs) refl h (found_passes p xs y)

both_second : (a b : Bool) → (a && b) ≡ true → b ≡ true
both_second true b h = h
both_second false b h = absurd (cc)

module _ (file : List ℕ) (h : Header) (p : Parts) where
  abbrev GivesAt : ℕ → Type 0
  GivesAt = Gives (references_at file h p) (λ s. s) (λ r. r.section) reference_before later_section

  entry_in : (table : SectionHeader) (s : ℕ) → table.info ≡ s → (k : ℕ) → (entry_of file table k).section ≡ s
  unfolding entry_of
  entry_in table s e k = e

  entries_numbered : (s : ℕ) (place : Option ℕ) → first_table file h s ≡ place
      → AllByRecursion (λ r. r.section ≡ s) (entries_of file h place)
  unfolding first_table
  entries_numbered s None e = tt
  entries_numbered s (Some i) e =
      let table = section_in file h i in
      let passes = found_passes (λ j. is_table_for s (section_in file h j)) (places 0 h.shnum) i e in
      let same = both_second (is_table table) (table.info == s) passes in
      let is : table.info ≡ s = grind (arith, nat_tests, same) in
      all_mapped (entry_of file table) (λ r. r.section ≡ s) (entry_in table s is)
      (places 0 (entry_count table))

  entries_ascend : (place : Option ℕ) → Ascends reference_before (entries_of file h place)
  entries_ascend None = tt
  entries_ascend (Some i) =
      let table = section_in file h i in
      ascends_map (entry_of file table) nat_lt reference_before (later_entry file table)
      (places 0 (entry_count table)) (range_ascends 0 _)

  numbered_if : (b : Bool) (s : ℕ)
      → AllByRecursion (λ r. r.section ≡ s) (cond b (entries_of file h (first_table file h s)) [])
  numbered_if true s = entries_numbered s (first_table file h s) refl
  numbered_if false s = tt

  ascend_if : (b : Bool) (s : ℕ) → Ascends reference_before
      (cond b (entries_of file h (first_table file h s)) [])
  ascend_if true s = entries_ascend (first_table file h s)
  ascend_if false s = tt

  section_gives : (s : ℕ) → GivesAt s
  unfolding references_at
  section_gives s = record {
    numbered = numbered_if (is_loadable_at file h p s) s;
    ascends =
        ascend_if (is_loadable_at file h p s) s;
  }

  all_give : (xs : List ℕ) → AllByRecursion GivesAt xs
  all_give [] = tt
  all_give (x ∷ xs) = (section_gives x, all_give xs)

  in_order : Ascends reference_before (references_of file h p)
  unfolding references_of
  in_order =
      flat_ascends (references_at file h p) (λ s. s) (λ r. r.section) reference_before later_section
      (places 0 h.shnum) (all_give (places 0 h.shnum)) (range_ascends 0 _)

-- ---- the object

bound : {A B E : Type 0} (r : Result A E) (f : A → Result B E) (y : B) → r >>= f ≡ Ok y
    → (x : A) × (f x ≡ Ok y)
bound (Ok x) f y h = (x, h)
bound (Err e) f y h = absurd (cc)

ok_same : {A E : Type 0} (r : Result A E) (x y : A) → r ≡ Ok x → r ≡ Ok y → x ≡ y
ok_same r x y h k = cc

object_in_order : (file : List ℕ) (h : Header) (p : Parts)
    → Ascends reference_before (object_at file h p).references
unfolding object_at
object_in_order file h p = in_order file h p

pub references_in_order : ReferencesAscend
unfolding object_of
references_in_order file o e =
    let a = bound (object_header file) _ o e in
    let b = bound (parts_of file a.0) _ o a.1 in
    let c = bound (checked_names file a.0 b.0) _ o b.1 in
    let d = bound (checked_tables file a.0 b.0) _ o c.1 in
    let same = ok_same (Ok (object_at file a.0 b.0)) (object_at file a.0 b.0) o refl d.1 in
    subst (λ (q : ObjectRecord). Ascends reference_before q.references) same (object_in_order file a.0 b.0)
