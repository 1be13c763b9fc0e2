use Rattle.std.proofs.Common.{◌≡◌, ◌++◌, Some, length, refl, sym, ap, ◌∙◌, rules}
use Rattle.std.specs.List.{slice_get}
use Rattle.std.specs.Option.{option_to_list}
use Rattle.std.proofs.lemmas.List.{append-nil}
use Rattle.std.proofs.lemmas.Option.{slice_get_past, slice_get_read}
use Rattle.ifs_stub.specs.Rows.{pointed}
use Rattle.ifs_stub.proofs.Pointed.{pushed_at}
use Rattle.ifs_stub.proofs.collapse.push_row_at.Goals as goal

pub returns-in_ok-push-in-Some : goal.returns-in_ok-push-in-Some
returns-in_ok-push-in-Some c =
    let rows = c.args.rows.now in
    let row = c.in-Some.row in
    let found : slice_get rows c.args.place ≡ Some row.now = slice_get_read rows (length rows) c.args.place row.now refl (search rules) (search rules) in
    pushed_at c.args.sorted.now.items c.push.new.self.items row _ c.in_ok-push-in-Some.ensures.items (sym found)

pub returns-in-None : goal.returns-in-None
returns-in-None c =
    let none = slice_get_past c.args.rows.now c.args.place (search rules) in
    sym (append-nil (pointed c.args.sorted.now.items)) ∙ ap (λ o. pointed c.args.sorted.now.items ++ option_to_list o) (sym none)
