use Rattle.std.proofs.Common.{ap, sym, ◌∙◌}
use Rattle.std.specs.Option.{option_copied}
use Rattle.link_index.proofs.Noted.{noted, kept}
use Rattle.link_index.proofs.places.note.Goals as goal

pub returns-in_ok-insert-in-None : goal.returns-in_ok-insert-in-None
returns-in_ok-insert-in-None g c = λ before long are. noted g.K.PartialEq.eq g.met.K.Eq.laws before c.args.item c.args.place c.args.places.now c.insert.new.self long are (sym c.get.ensures.value ∙ ap option_copied c.in-None.is) c.in_ok-insert-in-None.ensures.updates

pub returns-in-Some : goal.returns-in-Some
returns-in-Some g c = λ before long are. kept g.K.PartialEq.eq g.met.K.Eq.laws before c.args.item _ c.args.places.now are (sym c.get.ensures.value ∙ ap option_copied c.in-Some.is)
