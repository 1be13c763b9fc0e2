-- The bytes of objects that were read are those of their files.
use Rattle.std.proofs.Common.{◌≡◌, ℕ, ◌+◌, ◌^◌, ◌<◌, List, [], ◌∷◌, length}
use Rattle.std.proofs.Common.{refl, sym, ap, ◌∙◌, subst, inl, inr}
use Rattle.std.specs.Prelude.{Result, Ok, Err, IfOk}
use Rattle.std.specs.List.{All, enumerate_from}
use Rattle.std.specs.Result.{result_map_both}
use Rattle.std.proofs.lemmas.List.{length-map}
use Rattle.std.proofs.lemmas.List.Elements.{All-map}
use Rattle.std.proofs.lemmas.Result.{IfOk-weaker}
use Rattle.std.proofs.Math.ListN.{get_or-map}
use Rattle.ifs_bytes.specs.Outcome.{◌>>=◌, UnlessMemory}
use Rattle.elf_object.specs.Object.{object_of, object_at, object_header, checked_names, checked_tables}
use Rattle.elf_object.specs.Parts.{parts_of}
use Rattle.elf_object.specs.Record.{ObjectRecord}
use Rattle.elf_object.specs.declared.cause.ObjectCause.{ObjectCause}
use Rattle.link_core.specs.declared.input.Input.{Input}
use Rattle.link_core.specs.declared.refusal.LinkRefusal.{LinkRefusal}
use Rattle.link_core.specs.declared.refusal.LinkRefusal.TheVariants.{BadObject}
use Rattle.link_core.specs.declared.refusal.LinkStop.{LinkStop}
use Rattle.link_core.specs.declared.refusal.LinkStop.TheVariants as stops
use Rattle.link_core.specs.Link.{object_in, objects_of}
use Rattle.link_core.specs.Lists.{each_ok}
use Rattle.link_objects.specs.Files.{bytes_of, own_bytes, stopped}
use Rattle.link_objects.proofs.Reading.{Read, and_then}

if_then : {A B E : Type 0} (P : B → Type 0) (r : Result A E) (f : A → Result B E) → ((x : A) → IfOk (f x) P)
    → IfOk (r >>= f) P
if_then P (Ok x) f h = h x
if_then P (Err e) f h = tt

abbrev Owns : List ℕ → ObjectRecord → Type 0
Owns file o = o.bytes ≡ file

object_owns : (file : List ℕ) → IfOk (object_of file) (Owns file)
unfolding object_of object_at
object_owns file =
    if_then (Owns file) (object_header file) _ (λ h.
    if_then (Owns file) (parts_of file h) _ (λ p.
    if_then (Owns file) (checked_names file h p) _ (λ _.
    if_then (Owns file) (checked_tables file h p) _ (λ _. refl))))

one_owns : (i : ℕ) (file : List ℕ) → IfOk (object_in (i, file)) (Owns file)
one_owns i file = by (object_of file) (object_owns file)
  where
    by : (r : Result ObjectRecord ObjectCause) → IfOk r (Owns file)
        → IfOk (result_map_both (λ o. o) (BadObject i) r) (Owns file)
    by (Ok o) h = h
    by (Err cause) h = tt

-- each object owns its file
abbrev Own : List (List ℕ) → List ObjectRecord → Type 0
Own files os = own_bytes os ≡ files

all_own : (i : ℕ) (files : List (List ℕ)) → IfOk (each_ok object_in (enumerate_from i files)) (Own files)
all_own i [] = refl
all_own i (file ∷ files) =
    join (object_in (i, file)) (each_ok object_in (enumerate_from (i + 1) files)) (one_owns i file)
    (all_own (i + 1) files)
  where
    join : (one : Result ObjectRecord LinkRefusal) (rest : Read) → IfOk one (Owns file)
        → IfOk rest (Own files) → IfOk (and_then one rest) (Own (file ∷ files))
    join (Ok o) (Ok os) e es = cc
    join (Ok o) (Err refusal) e es = tt
    join (Err refusal) rest e es = tt

-- what holds of what is meant holds of the answer
met : {T : Type 0} (P : T → Type 0) (r : Result T LinkStop) (meant : Result T LinkRefusal)
    → UnlessMemory stops.Memory r (stopped meant) → IfOk meant P → IfOk r P
met P (Err stop) meant e h = tt
met P (Ok x) meant (inl e) h = absurd (cc)
met P (Ok x) (Ok y) (inr e) h = let same : y ≡ x = cc in subst P same h
met P (Ok x) (Err refusal) (inr e) h = absurd (cc)

count_is : (files : List Input) (os : List ObjectRecord) → Own (bytes_of files) os → length os ≡ length files
count_is files os own =
    sym (length-map os (λ o. o.bytes)) ∙ ap length own ∙ length-map files (λ file. file.bytes)

abbrev IsSmall : List ℕ → Type 0
IsSmall bytes = length bytes < 2 ^ 32

small_are : (files : List Input) (os : List ObjectRecord) → Own (bytes_of files) os
    → All (λ file. IsSmall file.bytes) files → All (λ o. IsSmall o.bytes) os
small_are files os own h =
    let below : All IsSmall (own_bytes os) =
    subst (λ (all : List (List ℕ)). All IsSmall all) (sym own)
    (All-map IsSmall (λ file. file.bytes) files h) in
    λ k d within.
    let there : k < length (own_bytes os) =
    subst (λ (n : ℕ). k < n) (sym (length-map os (λ o. o.bytes))) within in
    subst IsSmall (get_or-map (λ (o : ObjectRecord). o.bytes) os k d) (below k d.bytes there)

module _ (r : Result (List ObjectRecord) LinkStop) (files : List Input)
    (e : UnlessMemory stops.Memory r (stopped (objects_of (bytes_of files)))) where
  pub read_own : IfOk r (λ os. own_bytes os ≡ bytes_of files)
  unfolding objects_of
  read_own = met (Own (bytes_of files)) r (objects_of (bytes_of files)) e (all_own 0 (bytes_of files))

  pub read_count : IfOk r (λ os. length os ≡ length files)
  read_count = IfOk-weaker r _ _ (count_is files) read_own

  pub read_small : All (λ file. length file.bytes < 2 ^ 32) files
      → IfOk r (λ os. All (λ o. length o.bytes < 2 ^ 32) os)
  read_small h = IfOk-weaker r _ _ (λ os own. small_are files os own h) read_own
