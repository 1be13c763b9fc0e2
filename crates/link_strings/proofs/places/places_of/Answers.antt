use Rattle.std.proofs.Common.{◌+◌, sym, arith}
use Rattle.link_strings.proofs.Tables.{blank, starts_first, start_more, start_within, starts_more}
use Rattle.link_strings.proofs.places.places_of.Goals as goal

pub loop-name-init : goal.loop-name-init
loop-name-init c = record {
  here = sym (starts_first c.args.names.now);
  before = c.new-starts.ensures.items;
}

pub overflow_cast-at : goal.overflow_cast-at
overflow_cast-at c =
    let names = c.args.names.now in
    let i = c.loop-name.name-index in
    let more = start_more names i blank c.loop-name-test.true in
    let within = start_within names (i + 1) in
    omega (arith, more, within, c.requires)

pub overflow_add-at : goal.overflow_add-at
overflow_add-at c =
    let names = c.args.names.now in
    let i = c.loop-name.name-index in
    let more = start_more names i blank c.loop-name-test.true in
    let within = start_within names (i + 1) in
    omega (arith, more, within, c.requires)

pub overflow_add-at-in-loop-name : goal.overflow_add-at-in-loop-name
overflow_add-at-in-loop-name c =
    let names = c.args.names.now in
    let i = c.loop-name.name-index in
    let more = start_more names i blank c.loop-name-test.true in
    let within = start_within names (i + 1) in
    omega (arith, more, within, c.requires, c.loop-name.invariant.here)

pub loop-name-preserved : goal.loop-name-preserved
loop-name-preserved c =
    let names = c.args.names.now in
    let i = c.loop-name.name-index in
    let more = start_more names i blank c.loop-name-test.true in
    record {
      here = omega (arith, more, c.loop-name.invariant.here);
      before =
          starts_more names i c.loop-name.at c.loop-name.starts.items c.push.new.self.items c.loop-name.invariant.here
          c.loop-name.invariant.before c.in_ok-push.ensures.items;
    }
