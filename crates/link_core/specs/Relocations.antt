-- .rela.dyn and .rela.plt (gABI, "Relocation").
use Rattle.std.specs.List.{enumerate_from}
use Rattle.std.specs.Option.{option_map_or}
use Rattle.std.specs.Prelude.{Bool, List, Option, codes, find, flat_map, if◌then◌else◌, map, option_to_list, pos, ℕ, ◌&&◌, ◌*◌, ◌++◌, ◌+ℤ◌, ◌+◌, ◌==◌, ◌^◌}
use Rattle.ifs_bytes.specs.Field.{number_bytes}
use Rattle.ifs_bytes.specs.declared.form.Order.TheVariants.{Little}
use Rattle.link_core.specs.declared.layout.Layout.{Layout}
use Rattle.link_core.specs.declared.plan.DynReloc.{DynReloc}
use Rattle.link_core.specs.declared.plan.GotSlot.{GotSlot}
use Rattle.link_core.specs.declared.plan.SymbolId.{SymbolId}
use Rattle.link_core.specs.declared.plan.SymbolId.TheVariants as ids
use Rattle.link_core.specs.declared.refusal.At.{At}
use Rattle.link_core.specs.Got.{word_of, word_value}
use Rattle.link_core.specs.Places.{table_address}
use Rattle.link_core.specs.Planned.{Planned, need_in, uses_by}
use Rattle.link_core.specs.References.{Use, at_of}
use Rattle.link_core.specs.Slots.{Fill, slots_by}
use Rattle.link_core.specs.Symbols.{symbol_index}
use Rattle.link_core.specs.Value.{field_address, slot_address, symbol_value}

-- offset: the address of what is filled; symbol: the row of .dynsym, or 0; addend: modulo 2^64
pub record Rela : Type 0 where
  pub offset : ℕ
  pub kind : ℕ
  pub symbol : ℕ
  pub addend : ℕ

abbrev pub rela_bytes : Rela → List ℕ
rela_bytes rela =
    number_bytes 8 rela.offset Little
    ++ number_bytes 8 (rela.symbol * 2 ^ 32 + rela.kind) Little
    ++ number_bytes 8 rela.addend Little

-- ---- .rela.dyn: what fills slots, in order of the slots, and then what fills fields of sections

abbrev pub symbol_row : Planned → SymbolId → ℕ
symbol_row j (ids.Name n) = symbol_index j.plan n
symbol_row j (ids.Local object row) = 0
symbol_row j ids.Module = 0

abbrev pub fill_rela : Planned → Layout → ℕ → SymbolId → Fill → Rela
fill_rela j l at id fill = record {
  offset = at + 8 * fill.word;
  kind = fill.kind;
  symbol = if fill.named then symbol_row j id else 0;
  addend = word_value j l id fill.addend;
}

unfoldable pub slot_relas : Planned → Layout → ℕ × GotSlot → List Rela
slot_relas j l place =
    map (fill_rela j l (slot_address j l place.0) place.1.symbol) (slots_by j place.1).fills

abbrev pub same_place : At → At → Bool
same_place a b = a.object == b.object && a.section == b.section && a.index == b.index

-- the reference that a relocation stands for
unfoldable pub use_at : Planned → At → Option Use
use_at j at = find (λ u. same_place (at_of u) at) (uses_by j)

-- the base is added to the address of the symbol, or the address of a name to the addend
abbrev pub move_addend : Planned → Layout → DynReloc → Use → ℕ
move_addend j l move u =
    if move.relative then word_of (pos (symbol_value j l (need_in j u).symbol) +ℤ u.reference.addend)
    else word_of u.reference.addend

abbrev pub move_rela : Planned → Layout → DynReloc → Use → Rela
move_rela j l move u = record {
  offset = field_address l u;
  kind = if move.relative then j.rules.dynamic.relative else j.rules.dynamic.abs64;
  symbol = option_map_or (symbol_index j.plan) move.symbol 0;
  addend = move_addend j l move u;
}

unfoldable pub move_relas : Planned → Layout → DynReloc → List Rela
move_relas j l move = map (move_rela j l move) (option_to_list (use_at j move.at))

unfoldable pub rela_dyn_bytes : Planned → Layout → List ℕ
rela_dyn_bytes j l =
    flat_map rela_bytes
    (flat_map (slot_relas j l) (enumerate_from 0 j.plan.got) ++ flat_map (move_relas j l) j.plan.moves)

-- ---- .rela.plt: the slot of each entry of .plt, in order

-- .got.plt has three words before the first
unfoldable pub plt_slot_address : Planned → Layout → ℕ → ℕ
plt_slot_address j l i = table_address j l (codes ".got.plt") + 8 * (3 + i)

abbrev pub plt_rela : Planned → Layout → ℕ × ℕ → Rela
plt_rela j l place = record {
  offset = plt_slot_address j l place.0;
  kind = j.rules.dynamic.jump_slot;
  symbol = symbol_index j.plan place.1;
  addend = 0;
}

unfoldable pub rela_plt_bytes : Planned → Layout → List ℕ
rela_plt_bytes j l = flat_map (λ place. rela_bytes (plt_rela j l place)) (enumerate_from 0 j.plan.plt)
