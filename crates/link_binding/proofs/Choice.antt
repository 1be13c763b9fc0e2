-- The order in which a name is bound.
use Rattle.std.proofs.Common.{◌≡◌, Bool, true, false, if◌then◌else◌, List, [], Option, Some, None, option_map, unwrap_or}
use Rattle.std.specs.Option.{option_or}
use Rattle.link_core.specs.Binding.{Binding, Provided, Unbound}
use Rattle.link_core.specs.Mentions.{Mention}
use Rattle.link_binding.specs.declared.bind.Bind.{Bind}
use Rattle.link_binding.specs.Bind.{bind_of}

-- no object and not the link itself binds a name that a library does
pub by_library : (mentions : List Mention) (provided : Bool) (own taken : Option Binding) (bind : Bind) → provided ≡ false → None ≡ option_map (λ b. bind_of b []) own → Some bind ≡ option_map (λ b. bind_of b mentions) taken → bind ≡ bind_of (unwrap_or (option_or own (option_or (if provided then Some Provided else None) taken)) Unbound) mentions
by_library mentions true own taken bind p e h = cc
by_library mentions false None None bind p e h = cc
by_library mentions false None (Some b) bind p e h = cc
by_library mentions false (Some own) taken bind p e h = cc
