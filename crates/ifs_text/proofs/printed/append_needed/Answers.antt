use Rattle.std.proofs.Common.{◌≡◌, Bool, cond, [], ◌++◌, sym, ◌∙◌, subst}
use Rattle.std.specs.Prelude.{codes}
use Rattle.std.specs.List.{flat_map}
use Rattle.ifs_text.specs.Printed.{line, needed_line}
use Rattle.ifs_text.proofs.Joins.{two_joined}
use Rattle.ifs_text.proofs.printed.append_needed.Goals as goal

pub returns : goal.returns
returns c =
    let old = c.args.out.now in
    let start = line (codes "NeededLibs:") in
    let names = flat_map needed_line c.args.names.now in
    let new = c.append_needed_names.new.out in
    let P : Bool → Type 0 = λ b. new ≡ old ++ cond b [] (start ++ names) in
    subst P (sym (sym c.is_empty.ensures ∙ c.if-is_empty.false)) (two_joined old start names _ new c.in_ok-append.ensures c.in_ok-append_needed_names.ensures)
