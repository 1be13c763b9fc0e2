-- The position of the next output section of each class among all sections; 2^32 - 1 stands for any greater one.
use Rattle.std.specs.Prelude.{length, min, ℕ, ◌+◌, ◌-◌, ◌^◌}
use Rattle.link_core.specs.declared.output.OutClass.{OutClass}
use Rattle.link_core.specs.declared.output.OutClass.TheVariants as classes
use Rattle.link_places.specs.declared.segments.Segments.{Segments}
use Rattle.link_positions.specs.declared.next.Next.{Next}

abbrev pub position : ℕ → ℕ
position n = min n (2 ^ 32 - 1)

unfoldable pub first_of : Segments → Next
first_of s =
    let thread = length s.read + length s.code in
    let zeros = thread + length s.thread in
    let written = zeros + length s.zeros in
    record {
      read = position s.read_tables;
      code = position (length s.read + s.code_tables);
      thread = position thread;
      zeros = position zeros;
      written = position (written + s.written_tables);
      blank = position (written + s.first_zeros);
    }

abbrev pub at : Next → OutClass → ℕ
at next classes.R = next.read
at next classes.X = next.code
at next classes.T = next.thread
at next classes.Z = next.zeros
at next classes.W = next.written
at next classes.B = next.blank

-- the next but one of a class
abbrev pub behind : Next → OutClass → Next
behind next classes.R = record next { read = position (next.read + 1) }
behind next classes.X = record next { code = position (next.code + 1) }
behind next classes.T = record next { thread = position (next.thread + 1) }
behind next classes.Z = record next { zeros = position (next.zeros + 1) }
behind next classes.W = record next { written = position (next.written + 1) }
behind next classes.B = record next { blank = position (next.blank + 1) }
