-- What holds of each link's names and needs.
use Rattle.std.specs.Prelude.{◌≡◌, ℕ, true, List, map, ◌++◌, ◌∷◌, Some, Ok, Contains}
use Rattle.std.specs.List.{IsDistinct}
use Rattle.ifs_interface.specs.Facts.{Facts}
use Rattle.ifs_interface.specs.Interface.{ascends}
use Rattle.elf_object.specs.Record.{ObjectRecord}
use Rattle.link_machine.specs.Rules.{MachineRules}
use Rattle.link_core.specs.declared.options.LinkOptions.{LinkOptions}
use Rattle.link_core.specs.declared.plan.Plan.{Plan}
use Rattle.link_core.specs.declared.resolution.NameRow.{NameRow}
use Rattle.link_core.specs.declared.resolution.Resolution.{Resolution}
use Rattle.link_core.specs.Plan.{plan_of, same_slot}
use Rattle.link_core.specs.Resolution.{resolution_of}
use Rattle.link_core.specs.Side.{Side, Held, library_named}

-- the names of a resolution stand in byte order, each once
abbrev pub NamesAscend : Type 0
NamesAscend =
    (options : LinkOptions) (objects : List ObjectRecord) (sides : List Side) (r : Resolution)
    → resolution_of options objects sides ≡ Ok r → ascends (map (λ row. row.name) r.names) ≡ true

-- so a name stands for one thing
abbrev pub NamesAreBoundOnce : Type 0
NamesAreBoundOnce =
    (options : LinkOptions) (objects : List ObjectRecord) (sides : List Side) (r : Resolution) (one other : NameRow)
    → resolution_of options objects sides ≡ Ok r → Contains r.names one → Contains r.names other
    → one.name ≡ other.name → one ≡ other

-- a library with a soname may be in any file: the name of the file says nothing
abbrev pub FileNamesSayNothing : Type 0
FileNamesSayNothing =
    (options : LinkOptions) (objects : List ObjectRecord) (before after : List Side) (facts : Facts)
    (soname file_name other_name : List ℕ) → facts.soname ≡ Some soname
    → resolution_of options objects (before ++ Held (library_named file_name facts) ∷ after)
    ≡ resolution_of options objects (before ++ Held (library_named other_name facts) ∷ after)

-- each slot is there once
abbrev pub SlotsAreDistinct : Type 0
SlotsAreDistinct =
    (rules : MachineRules) (options : LinkOptions) (objects : List ObjectRecord) (r : Resolution) (p : Plan)
    → plan_of rules options objects r ≡ Ok p → IsDistinct same_slot p.got
