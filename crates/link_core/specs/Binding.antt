-- What a name stands for, by its mentions, the provided names and the libraries.
use Rattle.std.specs.Prelude.{ℕ, ◌==◌, Bool, if◌then◌else◌, List, map, filter, max, fold, Option, Some, None, option_map, unwrap_or}
use Rattle.std.specs.List.{enumerate_from, find, list_any}
use Rattle.std.specs.Option.{option_or}
use Rattle.ifs_interface.specs.declared.fact.Fact.{Fact}
use Rattle.link_core.specs.declared.constants.TheConstants.{STV_DEFAULT}
use Rattle.link_core.specs.Lists.{first_some}
use Rattle.link_core.specs.Mentions.{Mention, is_definition, is_strong_definition, is_common, strictest}
use Rattle.link_core.specs.Side.{Library}

pub data Binding : Type 0 where
  -- the definition of an object
  Defined : Mention → Binding
  -- the room that objects ask for
  Allotted : Binding
  -- an address that the link provides
  Provided : Binding
  -- the library at this position, and what the name is there
  Taken : ℕ → Fact → Binding
  Unbound : Binding

-- the one strong definition, else room, else the first weak definition
abbrev pub among_objects : List Mention → Option Binding
among_objects mentions =
    option_or (option_map Defined (find is_strong_definition mentions))
    (option_or (if list_any is_common mentions then Some Allotted else None)
    (option_map Defined (find is_definition mentions)))

abbrev pub taken_from : List ℕ → ℕ × Library → Option Binding
taken_from name library = option_map (Taken library.0) (library.1.facts.fact_of name)

-- the first library that defines the name; a name that isn't default is none of a library's
abbrev pub among_libraries : List Library → List ℕ → List Mention → Option Binding
among_libraries libraries name mentions =
    if strictest mentions == STV_DEFAULT then first_some (taken_from name) (enumerate_from 0 libraries) else None

-- an object binds a name before the link itself, and that before libraries
unfoldable pub binding_of : (List ℕ → Bool) → List Library → List ℕ → List Mention → Binding
binding_of provided libraries name mentions =
    unwrap_or
    (option_or (among_objects mentions)
    (option_or (if provided name then Some Provided else None)
    (among_libraries libraries name mentions)))
    Unbound

-- ---- room

abbrev pub greatest : List ℕ → ℕ
greatest numbers = fold max 0 numbers

-- the room for a common symbol is the greatest that is asked for
unfoldable pub common_size : List Mention → ℕ
common_size mentions = greatest (map (λ m. m.symbol.size) (filter is_common mentions))

-- and so is its alignment; an alignment of 0 asks for none, as 1 does
unfoldable pub common_align : List Mention → ℕ
common_align mentions = max 1 (greatest (map (λ m. m.symbol.value) (filter is_common mentions)))
