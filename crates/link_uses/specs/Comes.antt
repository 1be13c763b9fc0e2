-- What the references of a link are taken from.
use Rattle.std.specs.Prelude.{◌<◌, ◌≤◌, ◌^◌, List, length, All}
use Rattle.elf_object.specs.Record.{ObjectRecord}
use Rattle.link_core.specs.declared.options.LinkOptions.{LinkOptions}
use Rattle.link_core.specs.declared.resolution.Resolution.{Resolution}
use Rattle.link_core.specs.Resolution.{IsResolved}

-- the names are what these objects gave, of which there are as many, and as large, as a job may have
pub record Comes (options : LinkOptions) (objects : List ObjectRecord) (r : Resolution) : Type 0 where
  pub resolved : IsResolved options objects r
  pub few : length objects ≤ 4096
  pub small : All (λ o. length o.bytes < 2 ^ 32) objects
