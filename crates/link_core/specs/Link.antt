-- A whole link: the bytes of the file that is made, or the first refusal. Of a library a link sees its side
-- alone: the library with its facts, or why it can't be linked against.
use Rattle.std.specs.List.{enumerate_from}
use Rattle.std.specs.Option.{ok_or}
use Rattle.std.specs.Prelude.{List, None, Option, Result, Some, ℕ}
use Rattle.std.specs.Result.{result_map_both}
use Rattle.ifs_bytes.specs.Outcome.{◌>>=◌}
use Rattle.elf_object.specs.Object.{object_of}
use Rattle.elf_object.specs.Record.{ObjectRecord}
use Rattle.link_machine.specs.Machines.{rules_of}
use Rattle.link_machine.specs.Rules.{MachineRules}
use Rattle.link_core.specs.declared.options.LinkOptions.{LinkOptions}
use Rattle.link_core.specs.declared.refusal.LinkRefusal.{LinkRefusal}
use Rattle.link_core.specs.declared.refusal.LinkRefusal.TheVariants.{BadLibrary, BadObject, MachineMismatch}
use Rattle.link_core.specs.declared.refusal.Place.TheVariants as inputs
use Rattle.link_core.specs.Image.{image_of}
use Rattle.link_core.specs.Layout.{layout_of}
use Rattle.link_core.specs.Lists.{each_ok, first_some, unrefused}
use Rattle.link_core.specs.Plan.{plan_of}
use Rattle.link_core.specs.Resolution.{machine_of, resolution_of}
use Rattle.link_core.specs.Side.{Held, Refused, Side, Versioned}

-- ---- what is read

-- the object at a position, or why it can't be read
abbrev pub object_in : ℕ × List ℕ → Result ObjectRecord LinkRefusal
object_in file = result_map_both (λ o. o) (BadObject file.0) (object_of file.1)

-- the objects, or the first that can't be read
unfoldable pub objects_of : List (List ℕ) → Result (List ObjectRecord) LinkRefusal
objects_of files = each_ok object_in (enumerate_from 0 files)

abbrev pub unread_side : ℕ × Side → Option LinkRefusal
unread_side (i, Held library) = None
unread_side (i, Versioned) = None
unread_side (i, Refused cause) = Some (BadLibrary i cause)

-- the first library that can't be read
unfoldable pub sides_checked : List Side → Result (Unit {0}) LinkRefusal
sides_checked sides = unrefused (first_some unread_side (enumerate_from 0 sides))

-- the rules of the objects' machine; a resolution is made for these machines alone
abbrev pub rules_for : List ObjectRecord → Result MachineRules LinkRefusal
rules_for objects = ok_or (rules_of (machine_of objects)) (MachineMismatch (inputs.Object 0))

-- ---- the link

-- of objects that were read
unfoldable pub linked : LinkOptions → List ObjectRecord → List Side → Result (List ℕ) LinkRefusal
linked options objects sides = do
  r ← resolution_of options objects sides
  rules ← rules_for objects
  p ← plan_of rules options objects r
  l ← layout_of rules options objects r p
  image_of rules options objects r p l

-- files: the bytes of each object; sides: one for each library, in order
unfoldable pub link_of : LinkOptions → List (List ℕ) → List Side → Result (List ℕ) LinkRefusal
link_of options files sides = do
  objects ← objects_of files
  _ ← sides_checked sides
  linked options objects sides
