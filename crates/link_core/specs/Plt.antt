-- .plt and .got.plt (psABI x86-64, "Procedure Linkage Table"; AArch64 System V ABI, "Procedure linkage
-- table").
use Rattle.std.specs.Prelude.{List, codes, flat_map, if◌then◌else◌, length, map, ℕ, ◌++◌, ◌+◌, ◌==◌, ◌∷◌}
use Rattle.ifs_bytes.specs.Places.{places}
use Rattle.link_core.specs.declared.constants.TheConstants.{EM_X86_64}
use Rattle.link_core.specs.declared.layout.Layout.{Layout}
use Rattle.link_core.specs.Got.{words_bytes}
use Rattle.link_core.specs.Places.{table_address}
use Rattle.link_core.specs.Planned.{Planned}
use Rattle.link_core.specs.Relocations.{plt_slot_address}
use Rattle.link_core.specs.Value.{plt_entry_address}

-- an entry, by its position
unfoldable pub plt_entry : Planned → Layout → ℕ → List ℕ
plt_entry j l i =
    j.rules.plt_entry (plt_entry_address j l i) (plt_slot_address j l i) (table_address j l (codes ".plt")) i

-- the header, and an entry for each name
unfoldable pub plt_bytes : Planned → Layout → List ℕ
plt_bytes j l =
    j.rules.plt_header (table_address j l (codes ".plt")) (table_address j l (codes ".got.plt"))
    ++ flat_map (plt_entry j l) (places 0 (length j.plan.plt))

-- where a slot of .got.plt leads before its function is found: on x86-64 behind the first instruction of its
-- entry, on AArch64 to the header
abbrev pub first_target : Planned → Layout → ℕ → ℕ
first_target j l i =
    if j.rules.number == EM_X86_64 then plt_entry_address j l i + 6 else table_address j l (codes ".plt")

-- the address of .dynamic, two words for the loader, and a slot for each entry
unfoldable pub got_plt_bytes : Planned → Layout → List ℕ
got_plt_bytes j l =
    words_bytes
    (table_address j l (codes ".dynamic") ∷ 0 ∷ 0 ∷ map (first_target j l) (places 0 (length j.plan.plt)))
