-- A library in the place of one with equal facts gives an equal link.
use Rattle.std.proofs.Common.{◌≡◌, ℕ, List, [], ◌∷◌, ◌++◌, Option, Some, None, unwrap_or, IsSome, inl, inr, refl, sym, ap, ◌∙◌, true≢false, Result}
use Rattle.ifs_interface.specs.Facts.{Facts}
use Rattle.link_core.specs.declared.options.LinkOptions.{LinkOptions}
use Rattle.link_core.specs.declared.refusal.LinkRefusal.{LinkRefusal}
use Rattle.link_core.specs.Side.{Side, Library, Held, library_named}
use Rattle.link_core.specs.LinkLaws.{AreOneLibrary}
use Rattle.link_core.specs.Link.{link_of}

-- a soname goes before any name of a file
same_name_asked : (one other : List ℕ) (soname : Option (List ℕ)) → IsSome soname → unwrap_or soname one ≡ unwrap_or soname other
same_name_asked one other (Some name) some = refl
same_name_asked one other None none = absurd (true≢false (sym none))

same_library : (one other : List ℕ) (facts : Facts) → AreOneLibrary one other facts → library_named one facts ≡ library_named other facts
same_library one other facts (inl some) = ap (λ (name : List ℕ). library_of name facts) (same_name_asked one other facts.soname some)
  where
    library_of : List ℕ → Facts → Library
    library_of name facts = record { name = name; facts = facts }
same_library one other facts (inr same) = ap (λ (name : List ℕ). library_named name facts) same

pub links_see_facts : (options : LinkOptions) (files : List (List ℕ)) (before after : List Side) (one other : List ℕ) (facts others : Facts) → facts ≡ others → AreOneLibrary one other facts → link_of options files (before ++ Held (library_named one facts) ∷ after) ≡ link_of options files (before ++ Held (library_named other others) ∷ after)
links_see_facts options files before after one other facts others equal names =
    ap (λ (library : Library). link_of options files (before ++ Held library ∷ after)) (same_library one other facts names ∙ ap (λ (f : Facts). library_named other f) equal)
