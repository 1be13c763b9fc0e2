-- Lines of a text of version 4.
use Rattle.std.specs.Prelude.{ℕ, Bool, true, false, ◌==◌, List, [], ◌∷◌, ◌++◌, map, filter, length, Option, Some, None, if◌then◌else◌, codes}
use Rattle.std.specs.List.{flat_map, list_any, slice_get}
use Rattle.yaml_profile.specs.Printed.{printed_scalar}
use Rattle.tbd_core.specs.declared.dylib.TbdTarget.{TbdTarget}
use Rattle.tbd_v4.specs.declared.listed.NameList.{NameList}
use Rattle.tbd_v4.specs.declared.listed.NameList.TheVariants as lists
use Rattle.tbd_v4.specs.Listed.{Listed, list_rank, groups}

-- bytes that a line feed ends
abbrev pub line : List ℕ → List ℕ
line bytes = bytes ++ 10 ∷ []

-- ---- compact lists

-- a comma before each name but the first
abbrev pub item : Bool → List ℕ → List ℕ
item behind name = if behind then codes ", " ++ printed_scalar name else printed_scalar name

abbrev pub items_from : Bool → List (List ℕ) → List ℕ
items_from behind [] = []
items_from behind (name ∷ names) = item behind name ++ items_from true names

-- `a, b`
abbrev pub items : List (List ℕ) → List ℕ
items names = items_from false names

-- `KEY: [ a, b ]`; start is what stands before the first name
unfoldable pub list_line : List ℕ → List (List ℕ) → List ℕ
list_line start names = line (start ++ items names ++ codes " ]")

-- `KEY: NAME`
unfoldable pub scalar_line : List ℕ → List ℕ → List ℕ
scalar_line start name = line (start ++ printed_scalar name)

-- ---- groups

abbrev pub name_or_none : Option TbdTarget → List ℕ
name_or_none None = []
name_or_none (Some target) = target.name

-- the name of the target at a position, which a library has
unfoldable pub name_at : List TbdTarget → ℕ → List ℕ
name_at targets place = name_or_none (slice_get targets place)

-- the first line of a group
abbrev pub targets_line : List TbdTarget → List ℕ → List ℕ
targets_line targets places = list_line (codes "  - targets:         [ ") (map (name_at targets) places)

-- what stands before the first name of a list; an umbrella isn't in brackets
abbrev pub list_start : NameList → List ℕ
list_start lists.Symbols = codes "    symbols:         [ "
list_start lists.ObjcClasses = codes "    objc-classes:    [ "
list_start lists.ObjcEhTypes = codes "    objc-eh-types:   [ "
list_start lists.ObjcIvars = codes "    objc-ivars:      [ "
list_start lists.WeakSymbols = codes "    weak-symbols:    [ "
list_start lists.ThreadLocalSymbols = codes "    thread-local-symbols: [ "
list_start lists.Umbrellas = codes "    umbrella:        "
list_start lists.Clients = codes "    clients:         [ "
list_start lists.Libraries = codes "    libraries:       [ "

abbrev pub is_in : NameList → Listed → Bool
is_in list e = list_rank e.list == list_rank list

abbrev pub names_in : NameList → List Listed → List (List ℕ)
names_in list group = map (λ e. e.name) (filter (is_in list) group)

-- the line of a list of a group, if a name is in it
unfoldable pub line_of : List Listed → NameList → List ℕ
line_of group list =
    if list_any (is_in list) group then list_line (list_start list) (names_in list group) else []

unfoldable pub symbol_lines : List Listed → List ℕ
symbol_lines group =
    line_of group lists.Symbols
    ++ line_of group lists.ObjcClasses
    ++ line_of group lists.ObjcEhTypes
    ++ line_of group lists.ObjcIvars
    ++ line_of group lists.WeakSymbols
    ++ line_of group lists.ThreadLocalSymbols

-- the targets of names that are equal
abbrev pub common_targets : List Listed → List ℕ
common_targets [] = []
common_targets (e ∷ es) = e.targets

-- a group: its targets, and its lists in the order of their keys
unfoldable pub group_lines : List TbdTarget → List Listed → List ℕ
group_lines targets group =
    targets_line targets (common_targets group)
    ++ symbol_lines group ++ line_of group lists.Clients ++ line_of group lists.Libraries

-- an umbrella is a group by itself
unfoldable pub umbrella_lines : List TbdTarget → Listed → List ℕ
umbrella_lines targets e = targets_line targets e.targets ++ scalar_line (list_start lists.Umbrellas) e.name

-- the groups of equal targets
abbrev pub group_text : Bool → List TbdTarget → List Listed → List ℕ
group_text alone targets group =
    if alone then flat_map (umbrella_lines targets) group else group_lines targets group

unfoldable pub groups_text : Bool → List TbdTarget → List Listed → List ℕ
groups_text alone targets entries = flat_map (group_text alone targets) (groups entries)

-- a key and its groups, if there are some; alone: each name is a group by itself
unfoldable pub groups_of_key : List ℕ → Bool → List TbdTarget → List Listed → List ℕ
groups_of_key key alone targets entries =
    if length entries == 0 then [] else line key ++ groups_text alone targets entries
