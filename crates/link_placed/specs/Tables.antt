-- The tables of the made file, by their names.
use Rattle.std.specs.Prelude.{List, codes, ℕ}
use Rattle.link_placed.specs.declared.table.Table.{Table}
use Rattle.link_placed.specs.declared.table.Table.TheVariants as tables

abbrev pub table_name : Table → List ℕ
table_name tables.Interp = codes ".interp"
table_name tables.Dynsym = codes ".dynsym"
table_name tables.Dynstr = codes ".dynstr"
table_name tables.Hash = codes ".hash"
table_name tables.RelaDyn = codes ".rela.dyn"
table_name tables.RelaPlt = codes ".rela.plt"
table_name tables.Plt = codes ".plt"
table_name tables.Dynamic = codes ".dynamic"
table_name tables.Got = codes ".got"
table_name tables.GotPlt = codes ".got.plt"
