-- What is left of an interface's target in a text that keeps less.
use Rattle.std.specs.Prelude.{Bool, ◌||◌, Option, None, if◌then◌else◌}
use Rattle.ifs_interface.specs.declared.target.Target.{Target}
use Rattle.ifs_interface.specs.declared.target.MachineFact.{MachineFact}
use Rattle.ifs_interface.specs.Parts.{parts_of}
use Rattle.ifs_interface.specs.Interface.{InterfaceRecord}
use Rattle.ifs_edit.specs.declared.strip.Strip.{Strip}

abbrev pub unless : {X : Type 0} → Bool → Option X → Option X
unless strip field = if strip then None else field

abbrev pub no_target : Target
no_target = record { triple = None; machine = None; order = None; width = None }

-- the parts without those that are stripped
abbrev pub parts_left : Strip → MachineFact → Target
parts_left strip parts = record {
  triple = None;
  machine = unless strip.arch parts.machine;
  order = unless strip.order parts.order;
  width = unless strip.width parts.width;
}

-- nothing, or the parts of the target without some; where nothing is stripped the target stays as it is
abbrev pub target_left : Strip → Target → Target
target_left strip target =
    if strip.target then no_target
    else (if strip.arch || strip.width || strip.order then parts_left strip (parts_of target) else target)

abbrev pub stripped : InterfaceRecord → Strip → InterfaceRecord
stripped i strip = record i { target = target_left strip i.target }
