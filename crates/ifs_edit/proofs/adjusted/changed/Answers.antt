use Rattle.ifs_edit.specs.Adjusted.{changed}
use Rattle.ifs_edit.proofs.Whole.{changed_is}
use Rattle.ifs_edit.proofs.adjusted.changed.Goals as goal

pub from_sorted-requires : goal.from_sorted-requires
unfolding changed
from_sorted-requires c =
    let whole = changed_is c.args.interface.now c.args.options.now c.symbols.ensures.interface c.requires.soname c.requires.target in
    rw (c.in_ok-changed_soname.ensures, c.in_ok-filled.ensures, c.in_ok-left_needed.ensures, c.in_ok-kept_symbols.ensures, c.as_ref.ensures.value, c.soname.ensures, c.target.ensures, c.needed_list.ensures, c.symbols.ensures.value) whole
