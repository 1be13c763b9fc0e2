-- Objects read one after the other.
use Rattle.std.proofs.Common.{◌≡◌, ℕ, ◌+◌, ◌<◌, ◌≤◌, ◌⊎◌, List, ◌∷◌, ◌++◌, length, get_or, drop}
use Rattle.std.proofs.Common.{refl, sym, ap, ◌∙◌, subst, inl, inr}
use Rattle.std.specs.Prelude.{Result, Ok, Err}
use Rattle.std.specs.List.{enumerate_from}
use Rattle.std.proofs.lemmas.List.{append-nil, at_drop_more, drop_all}
use Rattle.ifs_bytes.specs.Outcome.{◌>>=◌, UnlessMemory}
use Rattle.elf_object.specs.Record.{ObjectRecord}
use Rattle.link_core.specs.declared.input.Input.{Input}
use Rattle.link_core.specs.declared.refusal.LinkRefusal.{LinkRefusal}
use Rattle.link_core.specs.declared.refusal.LinkStop.{LinkStop}
use Rattle.link_core.specs.declared.refusal.LinkStop.TheVariants as stops
use Rattle.link_core.specs.Link.{object_in, objects_of}
use Rattle.link_core.specs.Lists.{each_ok}
use Rattle.link_objects.specs.Files.{bytes_of, stopped, with_one}

-- objects, or the first refusal
abbrev pub Read : Type 0
Read = Result (List ObjectRecord) LinkRefusal

-- these, and what follows them
abbrev pub behind : List ObjectRecord → Read → Read
behind os (Ok later) = Ok (os ++ later)
behind os (Err refusal) = Err refusal

-- the objects of the files, the first of which has this position
abbrev pub objects_from : ℕ → List Input → Read
objects_from i files = each_ok object_in (enumerate_from i (bytes_of files))

-- these, and the objects of the files from one on
abbrev pub behind_from : List ObjectRecord → List Input → ℕ → Read
behind_from os files i = behind os (objects_from i (drop i files))

-- one more object before those that follow
abbrev pub and_then : Result ObjectRecord LinkRefusal → Read → Read
and_then one rest = one >>= (λ o. rest >>= (λ os. Ok (o ∷ os)))

-- the stop is this refusal, or want of memory
abbrev pub StopsBy : LinkStop → Read → Type 0
StopsBy stop meant = (stop ≡ stops.Memory) ⊎ (stopped meant ≡ Err stop)

-- a call that is to read objects answers the stop
abbrev pub Stops : LinkStop → Read → Type 0
Stops stop meant = UnlessMemory stops.Memory (Err stop) (stopped meant)

stops_here : (os : List ObjectRecord) (one : Result ObjectRecord LinkRefusal) (rest : Read) (stop : LinkStop)
    → StopsBy stop (with_one os one) → Stops stop (behind os (and_then one rest))
stops_here os one rest stop (inl e) = inl (ap (λ s. Err s) e)
stops_here os (Ok o) rest stop (inr e) = absurd (cc)
stops_here os (Err refusal) rest stop (inr e) = inr (sym e)

from_first : (files : List Input) → objects_from 0 files ≡ objects_of (bytes_of files)
unfolding objects_of
from_first files = refl

-- the file at a place is no object
module _ (files : List Input) (i : ℕ) (file : Input) (os : List ObjectRecord) where
  abbrev here : Result ObjectRecord LinkRefusal
  here = object_in (i, file.bytes)

  abbrev later : Read
  later = objects_from (i + 1) (drop (i + 1) files)

  more : i < length files → file ≡ get_or files i file
      → behind_from os files i ≡ behind os (and_then here later)
  more within is =
      at_drop_more (λ fs. behind os (objects_from i fs)) files i file within
      ∙ ap (λ (f : Input). behind os (objects_from i (f ∷ drop (i + 1) files))) (sym is)

  pub read_ends : (stop : LinkStop) → i < length files → file ≡ get_or files i file
      → StopsBy stop (with_one os here) → behind_from os files i ≡ objects_from 0 files
      → Stops stop (objects_of (bytes_of files))
  read_ends stop within is e so_far =
      let whole : behind os (and_then here later) ≡ objects_of (bytes_of files) =
      sym (more within is) ∙ so_far ∙ from_first files in
      subst (λ (r : Read). Stops stop r) whole (stops_here os here later stop e)

-- all files were read
pub read_done : (made os : List ObjectRecord) (files : List Input) (i : ℕ) → made ≡ os → length files ≤ i
    → behind_from os files i ≡ objects_from 0 files
    → UnlessMemory stops.Memory (Ok made) (stopped (objects_of (bytes_of files)))
read_done made os files i is end so_far =
    let none : behind_from os files i ≡ Ok os =
    ap (λ fs. behind os (objects_from i fs)) (drop_all i files end)
    ∙ ap (λ (all : List ObjectRecord). Ok all) (append-nil os) in
    let done : objects_of (bytes_of files) ≡ Ok made =
    sym (from_first files) ∙ sym so_far ∙ none ∙ ap (λ (all : List ObjectRecord). Ok all) (sym is) in
    inr (sym (ap (λ (r : Read). stopped r) done))

-- a stop is handed on as it is
pub handed : (r : Result (List ObjectRecord) LinkStop) (stop : LinkStop) (meant : Read)
    → (y : LinkStop) × (r ≡ Err y) × (y ≡ stop) → Stops stop meant
    → UnlessMemory stops.Memory r (stopped meant)
handed r stop meant out h =
    let same : r ≡ Err stop = out.1 ∙ ap (λ (e : LinkStop). Err e) out.2 in
    let P : Result (List ObjectRecord) LinkStop → Type 0 = λ t. UnlessMemory stops.Memory t (stopped meant) in
    subst P (sym same) h
