-- Strings as code has them, for every link that they belong to.
use Rattle.std.specs.Prelude.{List, [], map, slice_get, ℕ, ◌++◌, ◌≡◌}
use Rattle.std.specs.Option.{option_map_or}
use Rattle.elf_object.specs.Record.{ObjectRecord}
use Rattle.link_core.specs.Contents.{interpreter_of}
use Rattle.link_core.specs.declared.options.LinkOptions.{LinkOptions}
use Rattle.link_core.specs.declared.plan.Plan.{Plan}
use Rattle.link_core.specs.declared.resolution.Resolution.{Resolution}
use Rattle.link_core.specs.Strings.{dynamic_strings, symbol_names, terminated}
use Rattle.link_machine.specs.Rules.{MachineRules}
use denote.Ref.{Bor}

-- the strings themselves
abbrev pub strings_of : List (Bor (List ℕ)) → List (List ℕ)
strings_of strings = map (λ string. string.now) strings

-- the name at a position
abbrev pub name_in : Resolution → ℕ → List ℕ
name_in r n = option_map_or (λ row. row.name) (slice_get r.names n) []

abbrev pub AreSymbolNames : Resolution → Plan → List (List ℕ) → Type 0
AreSymbolNames r p strings =
    (rules : MachineRules) (options : LinkOptions) (objects : List ObjectRecord)
    → strings
    ≡ symbol_names
    (record { rules = rules; options = options; objects = objects; names = r; plan = p })

abbrev pub AreDynamicStrings : LinkOptions → Resolution → Plan → List (List ℕ) → Type 0
AreDynamicStrings options r p strings =
    (rules : MachineRules) (objects : List ObjectRecord)
    → strings
    ≡ dynamic_strings
    (record { rules = rules; options = options; objects = objects; names = r; plan = p })

-- the path of the interpreter and a NUL stand at the end
abbrev pub InterpreterIsPut : MachineRules → LinkOptions → List ℕ → List ℕ → Type 0
InterpreterIsPut rules options old new =
    (objects : List ObjectRecord) (r : Resolution) (p : Plan)
    → new
    ≡ old
    ++ terminated
    (interpreter_of
    (record { rules = rules; options = options; objects = objects; names = r; plan = p }))
