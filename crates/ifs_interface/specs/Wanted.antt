-- A wanted name as it is handed out.
use Rattle.std.specs.Prelude.{ℕ, Bool, List}
use Rattle.ifs_interface.specs.declared.shared_lib.Wanted.{Wanted}

-- the name, and whether it is wanted strongly
abbrev pub seen : Wanted → List ℕ × Bool
seen wanted = (wanted.name.now, wanted.strong)
