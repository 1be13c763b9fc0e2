use Rattle.std.proofs.Common.{◌≡◌, map, drop}
use Rattle.ifs_text.specs.Maps.{is_among, key_of}
use Rattle.ifs_text.proofs.maps.has_entry.Given as goal

abbrev pub invariant-loop-entry : goal.invariant-loop-entry
invariant-loop-entry l = is_among l.key (map key_of (drop l.entry-index l.entries)) ≡ is_among l.key (map key_of l.entries)
