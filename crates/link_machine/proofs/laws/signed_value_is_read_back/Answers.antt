-- What is read back is the value modulo a power of 2, and the value's range makes that the value.
use Rattle.std.proofs.Common.{◌≡◌, ◌^◌}
use Rattle.std.proofs.lemmas.Bool.{eqb-true}
use Rattle.link_machine.specs.Laws.{lowest}
use Rattle.link_machine.specs.Patch.{modulo}
use Rattle.link_machine.proofs.ReadBack.{read_back}
use Rattle.link_machine.proofs.Sign.{signed_read}
use Rattle.link_machine.proofs.laws.signed_value_is_read_back.Goals as goal

pub returns : goal.returns
returns c =
    let f = c.args.field in
    let z = c.args.value in
    let whole : modulo c.args.value (2 ^ lowest c.args.field) ≡ 0 =
    eqb-true (modulo c.args.value (2 ^ lowest c.args.field)) 0 c.requires.whole in
    signed_read f z c.args.old (read_back f z c.args.old c.requires.sound c.requires.joined whole) c.requires.some c.requires.fits
