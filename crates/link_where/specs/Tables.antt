-- The positions of the tables among the sections of a layout.
use Rattle.std.specs.Prelude.{Bool, Ok, codes, if◌then◌else◌, nat_lt, not, ℕ, ◌&&◌, ◌+◌, ◌==◌, ◌≡◌}
use Rattle.link_core.specs.declared.layout.Layout.{Layout}
use Rattle.link_core.specs.declared.options.OutKind.{OutKind}
use Rattle.link_core.specs.declared.plan.Plan.{Plan}
use Rattle.link_core.specs.Contents.{code_flags, read_flags, thread_flags}
use Rattle.link_core.specs.Entries.{rela_dyn_count}
use Rattle.link_core.specs.Exports.{is_shared}
use Rattle.link_core.specs.Layout.{layout_in}
use Rattle.link_core.specs.Places.{table_position}
use Rattle.link_core.specs.Planned.{Planned}
use Rattle.link_core.specs.Slots.{word_count}
use Rattle.link_where.specs.declared.tables.TablePositions.{TablePositions}
use Rattle.link_where.specs.declared.tables.There.{There}

unfoldable pub positions : Planned → TablePositions
positions j = record {
  interp = table_position j (codes ".interp");
  dynsym = table_position j (codes ".dynsym");
  dynstr = table_position j (codes ".dynstr");
  hash = table_position j (codes ".hash");
  rela_dyn = table_position j (codes ".rela.dyn");
  rela_plt = table_position j (codes ".rela.plt");
  plt = table_position j (codes ".plt");
  dynamic = table_position j (codes ".dynamic");
  got = table_position j (codes ".got");
  got_plt = table_position j (codes ".got.plt");
}

-- the link has this kind, this plan and this layout, and whether its .rela.dyn and its .got are there
pub record IsOf (j : Planned) (kind : OutKind) (p : Plan) (moves words : Bool) (l : Layout) : Type 0 where
  pub kind_is : j.options.kind ≡ kind
  pub plan_is : j.plan ≡ p
  pub moves_are : nat_lt 0 (rela_dyn_count j) ≡ moves
  pub words_are : nat_lt 0 (word_count j) ≡ words
  pub layout_is : layout_in j ≡ Ok l

-- ---- by what is there, and where code and data start

abbrev pub is_program : OutKind → Bool
is_program kind = not (is_shared kind)

abbrev pub is_code : ℕ → Bool
is_code flags = flags == code_flags

abbrev pub is_data : ℕ → Bool
is_data flags = not (flags == read_flags) && (not (flags == code_flags) && not (flags == thread_flags))

abbrev pub count_if : Bool → ℕ
count_if there = if there then 1 else 0

abbrev pub at_if : Bool → ℕ → ℕ → ℕ
at_if there at count = if there then at else count

unfoldable pub positions_by : There → ℕ → ℕ → ℕ → TablePositions
positions_by there count code written = record {
  interp = at_if there.program 0 count;
  dynsym = count_if there.program;
  dynstr = count_if there.program + 1;
  hash = count_if there.program + 2;
  rela_dyn = at_if there.moves (count_if there.program + 3) count;
  rela_plt = at_if there.calls (count_if there.program + 3 + count_if there.moves) count;
  plt = at_if there.calls code count;
  dynamic = written;
  got = at_if there.words (written + 1) count;
  got_plt = written + 1 + count_if there.words;
}
