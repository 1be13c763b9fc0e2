use Rattle.ifs_edit.proofs.Whole.{stripped_is}
use Rattle.ifs_edit.proofs.strip.strip_target.Goals as goal

pub from_sorted-requires : goal.from_sorted-requires
from_sorted-requires c =
    let whole = stripped_is c.args.interface.now c.args.options.now c.symbols.ensures.interface in
    rw (c.in_ok-copied_soname.ensures, c.in_ok-target_left.ensures, c.in_ok-copied_texts.ensures, c.in_ok-copied_symbols.ensures, c.soname.ensures, c.target.ensures, c.needed_list.ensures, c.symbols.ensures.value) whole
