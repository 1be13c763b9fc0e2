-- What a name is bound to, as its row says it.
use Rattle.std.specs.Prelude.{List}
use Rattle.link_core.specs.Binding.{Binding}
use Rattle.link_core.specs.Mentions.{Mention}
use Rattle.link_core.specs.Resolution.{bound_by, class_by}
use Rattle.link_binding.specs.declared.bind.Bind.{Bind}

abbrev pub bind_of : Binding → List Mention → Bind
bind_of binding mentions = record { bound = bound_by binding mentions; class = class_by binding mentions }
