-- The machine, byte order and width that a target gives, as far as it gives them.
use Rattle.std.specs.Prelude.{List, ℕ, Option, Some, None, unwrap_or}
use Rattle.ifs_interface.specs.Triple.{parts_of_triple}
use Rattle.ifs_interface.specs.declared.target.MachineFact.{MachineFact}
use Rattle.ifs_interface.specs.declared.target.Target.{Target}

-- its own fields
abbrev pub own_parts : Target → MachineFact
own_parts target = record { machine = target.machine; order = target.order; width = target.width }

-- those of its triple, else its own
abbrev pub parts_by : Option (List ℕ) → Target → MachineFact
parts_by (Some triple) target = unwrap_or (parts_of_triple triple) (own_parts target)
parts_by None target = own_parts target

-- a triple is read by the table, and an unknown one says nothing
abbrev pub parts_of : Target → MachineFact
parts_of target = parts_by target.triple target
