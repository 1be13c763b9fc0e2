-- Libraries looked at one after the other, for one that wasn't read.
use Rattle.std.proofs.Common.{◌≡◌, ℕ, ◌+◌, ◌<◌, ◌≤◌, List, ◌∷◌, length, get_or, drop, map, Option, Some, None}
use Rattle.std.proofs.Common.{refl, sym, ap, ◌∙◌, subst, inl, inr}
use Rattle.std.specs.Prelude.{Result, Ok, Err}
use Rattle.std.specs.List.{cons_option, enumerate_from, filter_map, slice_get}
use Rattle.std.proofs.lemmas.List.{at_drop_more, drop_all}
use Rattle.ifs_bytes.specs.Outcome.{◌>>=◌, UnlessMemory}
use Rattle.ifs_interface.specs.Facts.{Facts}
use Rattle.link_binding.specs.Libraries.{side_of}
use Rattle.link_core.specs.declared.input.Lib.{Lib}
use Rattle.link_core.specs.declared.input.LibSource.{LibSource}
use Rattle.link_core.specs.declared.input.LibSource.TheVariants as sources
use Rattle.link_core.specs.declared.refusal.LinkRefusal.{LinkRefusal}
use Rattle.link_core.specs.declared.refusal.LinkStop.{LinkStop}
use Rattle.link_core.specs.declared.refusal.LinkStop.TheVariants as stops
use Rattle.link_core.specs.Link.{sides_checked, unread_side}
use Rattle.link_core.specs.Lists.{first_some, unrefused}
use Rattle.link_libs.specs.Unread.{stopped, unread_at}

-- nothing is wrong, or the first refusal
abbrev pub Checked : Type 0
Checked = Result (Unit {0}) LinkRefusal

-- a call that is to check answers this, unless memory runs out
abbrev pub Answers : Result (Unit {0}) LinkStop → Checked → Type 0
Answers r meant = UnlessMemory stops.Memory r (stopped meant)

-- the first refusal is that of the first, or of those behind it
first_next : (one : Option LinkRefusal) (rest : List LinkRefusal)
    → unrefused (slice_get (cons_option one rest) 0) ≡ unrefused one >>= (λ _. unrefused (slice_get rest 0))
first_next None rest = refl
first_next (Some refusal) rest = refl

bad_ends : (one rest : Checked) (stop : LinkStop) → Answers (Err stop) one
    → Answers (Err stop) (one >>= (λ _. rest))
bad_ends one rest stop (inl e) = inl e
bad_ends (Ok tt) rest stop (inr e) = absurd (cc)
bad_ends (Err refusal) rest stop (inr e) = inr e

module _ {S : Type 0} (facts : S → Facts) where
  -- what is wrong with libraries, the first of which has this position
  abbrev pub checked_from : ℕ → List (Lib S) → Checked
  checked_from i libs = unrefused (first_some unread_side (enumerate_from i (map (side_of facts) libs)))

  unread_is : (i : ℕ) (name : List ℕ) (source : LibSource S)
      → unread_side (i, side_of facts (record { file_name = name; source = source })) ≡ unread_at (i, source)
  unread_is i name (sources.Held s) = refl
  unread_is i name sources.Versioned = refl
  unread_is i name (sources.Refused cause) = refl

  first_is : (libs : List (Lib S)) → checked_from 0 libs ≡ sides_checked (map (side_of facts) libs)
  unfolding sides_checked
  first_is libs = refl

  module _ (libs : List (Lib S)) (i : ℕ) (lib : Lib S) where
    abbrev here : Checked
    here = unrefused (unread_at (i, lib.source))

    abbrev later : Checked
    later = checked_from (i + 1) (drop (i + 1) libs)

    -- the refusals of the libraries behind it
    abbrev refusals : List LinkRefusal
    refusals = filter_map unread_side (enumerate_from (i + 1) (map (side_of facts) (drop (i + 1) libs)))

    more : i < length libs → lib ≡ get_or libs i lib → checked_from i (drop i libs) ≡ here >>= (λ _. later)
    more within is =
        at_drop_more (checked_from i) libs i lib within
        ∙ ap (λ (l : Lib S). checked_from i (l ∷ drop (i + 1) libs)) (sym is)
        ∙ first_next (unread_side (i, side_of facts lib)) refusals
        ∙ ap (λ (one : Option LinkRefusal). unrefused one >>= (λ _. later))
        (unread_is i lib.file_name lib.source)

    pub check_ends : (stop : LinkStop) → i < length libs → lib ≡ get_or libs i lib → Answers (Err stop) here
        → checked_from i (drop i libs) ≡ checked_from 0 libs
        → Answers (Err stop) (sides_checked (map (side_of facts) libs))
    check_ends stop within is e so_far =
        let whole : here >>= (λ _. later) ≡ sides_checked (map (side_of facts) libs) =
        sym (more within is) ∙ so_far ∙ first_is libs in
        subst (λ (r : Checked). Answers (Err stop) r) whole (bad_ends here later stop e)

  pub check_done : (libs : List (Lib S)) (i : ℕ) → length libs ≤ i
      → checked_from i (drop i libs) ≡ checked_from 0 libs
      → Answers (Ok tt) (sides_checked (map (side_of facts) libs))
  check_done libs i end so_far =
      let done : sides_checked (map (side_of facts) libs) ≡ Ok tt =
      sym (first_is libs) ∙ sym so_far ∙ ap (checked_from i) (drop_all i libs end) in
      inr (sym (ap (λ (r : Checked). stopped r) done))

-- a stop is handed on as it is
pub handed : (r : Result (Unit {0}) LinkStop) (stop : LinkStop) (meant : Checked)
    → (y : LinkStop) × (r ≡ Err y) × (y ≡ stop) → Answers (Err stop) meant → Answers r meant
handed r stop meant out h =
    let same : r ≡ Err stop = out.1 ∙ ap (λ (e : LinkStop). Err e) out.2 in
    subst (λ (t : Result (Unit {0}) LinkStop). Answers t meant) (sym same) h
