-- The positions of targets.
use Rattle.std.specs.Prelude.{ℕ, List, Option, position}
use Rattle.ifs_interface.specs.Triple.{same_name}
use Rattle.tbd_core.specs.declared.dylib.TbdTarget.{TbdTarget}

-- the position of the target of a name
abbrev pub place_of : List TbdTarget → List ℕ → Option ℕ
place_of targets name = position (λ t. same_name t.name name) targets
