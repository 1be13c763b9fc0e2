use Rattle.std.proofs.Common.{◌≡◌, map}
use Rattle.std.specs.List.{range_with_len}
use Rattle.link_core.specs.Strings.{string_place}
use Rattle.link_strings.specs.Named.{strings_of}
use Rattle.link_strings.proofs.places.places_of.Given as goal

abbrev pub invariant-loop-name : goal.invariant-loop-name
invariant-loop-name l = record {
  here : l.at ≡ string_place (strings_of l.names) l.name-index;
  before : l.starts.items ≡ map (string_place (strings_of l.names)) (range_with_len 0 l.name-index);
}
