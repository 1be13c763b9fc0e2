use Rattle.std.proofs.Common.{[], ◌∷◌}
use Rattle.std.specs.Prelude.{codes}
use Rattle.ifs_text.specs.Printed.{parts_line, part_entries}
use Rattle.ifs_text.proofs.Joins.{three_joined}
use Rattle.ifs_text.proofs.printed.append_parts.Goals as goal

pub returns : goal.returns
unfolding parts_line
returns c =
    three_joined c.args.out.now (codes "Target:          { ObjectFormat: ELF") (part_entries c.args.target.now) (codes " }") (10 ∷ []) _ _ _ c.in_ok-append.ensures c.in_ok-append_part_entries.ensures c.in_ok-append-2.ensures
