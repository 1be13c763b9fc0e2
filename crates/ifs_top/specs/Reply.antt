-- What a command answers: its outputs in the order in which they are written, a line on standard error, and
-- the status.
use Rattle.std.specs.Prelude.{◌≡◌, ℕ, ◌<◌, Bool, true, List, [], ◌∷◌, ◌++◌, length, codes}
use Rattle.std.specs.List.{list_any}
use Rattle.std.specs.Str.{bytes_eq}
use Rattle.ifs_top.specs.declared.reply.Output.{Output}
use Rattle.ifs_top.specs.declared.reply.Reply.{Reply}

-- an output whose path is `-` is written on standard output
abbrev pub is_printed : Output → Bool
is_printed output = bytes_eq output.path (codes "-")

-- the line of a refusal or a fault
abbrev pub fault_line : List ℕ → List ℕ → List ℕ
fault_line subject text = codes "error: " ++ subject ++ codes ": " ++ text ++ 10 ∷ []

-- a refusal or a fault: nothing is written but its line
abbrev pub fault : List ℕ → List ℕ → ℕ → Reply
fault subject text status = record { outputs = []; line = fault_line subject text; status = status }

-- an output goes to the path
abbrev pub Names : List Output → List ℕ → Type 0
Names outputs path = list_any (λ output. bytes_eq output.path path) outputs ≡ true

-- there is an output
abbrev pub HasOutputs : List Output → Type 0
HasOutputs outputs = 0 < length outputs
