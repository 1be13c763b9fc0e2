-- What a relocatable object stands for, once its file was read: plain data, with the bytes of the file.
use Rattle.std.specs.Prelude.{ℕ, List}
use Rattle.elf_object.specs.declared.section.ObjSection.{ObjSection}
use Rattle.elf_object.specs.declared.symbol.ObjSymbol.{ObjSymbol}
use Rattle.elf_object.specs.declared.reference.Reference.{Reference}
use Rattle.elf_object.specs.declared.group.Group.{Group}

-- machine is e_machine; sections and symbols are the entries of the file's tables, entry 0 included;
-- references are those of loadable sections, in order of section and index
pub record ObjectRecord : Type 0 where
  pub machine : ℕ
  pub bytes : List ℕ
  pub sections : List ObjSection
  pub symbols : List ObjSymbol
  pub references : List Reference
  pub groups : List Group
