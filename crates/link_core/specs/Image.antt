-- The bytes of the image: each part at its offset, and zeros between them; or the first patch that can't be
-- made.
use Rattle.std.specs.Prelude.{List, Ok, Result, [], length, replicate, ℕ, ◌++◌, ◌+◌, ◌-◌, ◌∷◌}
use Rattle.ifs_bytes.specs.Outcome.{◌>>=◌}
use Rattle.elf_object.specs.Record.{ObjectRecord}
use Rattle.link_machine.specs.Rules.{MachineRules}
use Rattle.link_core.specs.declared.layout.Layout.{Layout}
use Rattle.link_core.specs.declared.options.LinkOptions.{LinkOptions}
use Rattle.link_core.specs.declared.plan.Plan.{Plan}
use Rattle.link_core.specs.declared.refusal.LinkRefusal.{LinkRefusal}
use Rattle.link_core.specs.declared.resolution.Resolution.{Resolution}
use Rattle.link_core.specs.Parts.{Part, parts_of}
use Rattle.link_core.specs.Patch.{patches_checked}
use Rattle.link_core.specs.Planned.{Planned}

-- parts from an offset on, to the end of the last one
unfoldable pub laid_out : ℕ → List Part → List ℕ
laid_out at [] = []
laid_out at (part ∷ parts) =
    replicate (part.offset - at) 0 ++ part.bytes ++ laid_out (part.offset + length part.bytes) parts

unfoldable pub image_in : Planned → Layout → Result (List ℕ) LinkRefusal
image_in j l = do
  _ ← patches_checked j l
  Ok (laid_out 0 (parts_of j l))

unfoldable pub image_of :
    MachineRules → LinkOptions → List ObjectRecord → Resolution → Plan → Layout → Result (List ℕ) LinkRefusal
image_of rules options objects r p l =
    image_in (record { rules = rules; options = options; objects = objects; names = r; plan = p }) l
