-- Options that change nothing, for the code alone.
use Rattle.std.specs.Prelude.{Bool, true, false, not, ◌&&◌, List, [], ◌∷◌, ◌||◌, is_none}
use Rattle.ifs_interface.specs.declared.target.Target.{Target}
use Rattle.ifs_edit.specs.declared.adjusted.AdjustOptions.{AdjustOptions}
use Rattle.ifs_edit.specs.declared.strip.Strip.{Strip}

abbrev pub is_empty : {X : Type 0} → List X → Bool
is_empty [] = true
is_empty (x ∷ xs) = false

-- nothing of the target is given
abbrev pub gives_nothing : Target → Bool
gives_nothing given = is_none given.triple && is_none given.machine && is_none given.order && is_none given.width

-- nothing is left out
abbrev pub keeps_all : AdjustOptions → Bool
keeps_all o = is_empty o.exclude && not o.strip_undefined && not o.strip_needed && not o.strip_size

abbrev pub changes_nothing : AdjustOptions → Bool
changes_nothing o = gives_nothing o.given && is_none o.soname && keeps_all o

abbrev pub strips_nothing : Strip → Bool
strips_nothing strip = not (strip.arch || strip.width || strip.order || strip.target)
