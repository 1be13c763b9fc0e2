use Rattle.std.proofs.Common.{◌≡◌, if◌then◌else◌, ap, ◌∙◌}
use Rattle.link_commons.specs.Asked.{asked_in, more}
use Rattle.ifs_interface.specs.Triple.{same_name}
use Rattle.link_commons.proofs.Noted.{noted}
use Rattle.link_commons.proofs.asked.note.Goals as goal

pub returns : goal.returns
returns c =
    let row = c.args.row.now in
    let now_is : c.more-now.result ≡ more (asked_in c.args.asked.now c.as_bytes-name.result.now) row = c.more-now.ensures ∙ ap (λ a. more a row) c.asked_for.ensures in
    let put = noted c.as_bytes-name.result.now c.args.asked.now c.insert.new.self c.more-now.result row c.in_ok-insert.ensures.updates now_is in
    λ q. put q ∙ ap (λ name. if same_name name q then more (asked_in c.args.asked.now q) row else asked_in c.args.asked.now q) c.as_bytes-name.ensures
