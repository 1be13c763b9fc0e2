use Rattle.std.proofs.Common.{take, Some, None}
use Rattle.std.proofs.lemmas.Bool.Decides.{Decides-eqb}
use Rattle.std.proofs.lemmas.Slice.Eq.{strip_prefix_is}
use Rattle.ifs_outside.proofs.Compared.{same_piece, other_piece, not_same}
use Rattle.ifs_outside.proofs.std_files.holds_just.Goals as goal

pub loop-count-preserved : goal.loop-count-preserved
loop-count-preserved g c =
    let rest = c.loop-count.rest.now in
    let piece = take c.in_ok-count.count c.read_once.new.into in
    let front = strip_prefix_is Decides-eqb rest piece (Some c.in-Some.others) c.in-Some.ensures.cases in
    same_piece _ _ _ _ rest piece _ c.loop-count.invariant c.in_ok-count.ensures.bytes.0 front

pub returns-in-None : goal.returns-in-None
returns-in-None g c =
    let rest = c.loop-count.rest.now in
    let piece = take c.in_ok-count.count c.read_once.new.into in
    let apart = strip_prefix_is Decides-eqb rest piece None c.in-None.ensures.cases in
    not_same _ _ (other_piece _ _ _ _ rest piece c.loop-count.invariant c.in_ok-count.ensures.bytes.0 apart)
