-- What holds of every command that words ask for.
use Rattle.std.specs.Prelude.{◌≡◌, ◌<◌, ◌≤◌, true, length}
use Rattle.ifs_interface.specs.Interface.{is_proper_soname, is_proper_target}
use Rattle.ifs_edit.specs.declared.adjusted.AdjustOptions.{AdjustOptions}
use Rattle.ifs_words.specs.declared.command.Command.{Command}
use Rattle.ifs_words.specs.declared.command.Command.TheVariants.{Stub}
use Rattle.ifs_words.specs.declared.command.StubWords.{StubWords}
use Rattle.ifs_words.specs.declared.link.LinkWords.{LinkWords}

-- an adjustment is one that interfaces may have
pub record IsUsable (options : AdjustOptions) : Type 0 where
  pub soname : is_proper_soname options.soname ≡ true
  pub target : is_proper_target options.given.triple options.given ≡ true

-- there is an input
pub record CanStub (words : StubWords) : Type 0 where
  pub inputs : 0 < length words.inputs
  pub adjust : IsUsable words.adjust

-- there are objects, and not too many of them and of libraries
pub record CanLink (words : LinkWords) : Type 0 where
  pub some : 0 < length words.objects
  pub objects : length words.objects ≤ 4096
  pub libs : length words.libs ≤ 256

abbrev pub CanRun : Command → Type 0
CanRun (Stub words) = CanStub words
