use Rattle.std.proofs.Common.{◌≡◌, ℕ, Bool, List, [], false, take, sym, ap, ◌∙◌}
use Rattle.std.specs.Ordering.{nat_cmp}
use Rattle.std.specs.Cmp.Lexicographic.{slice_cmp}
use Rattle.std.specs.BTreeSet as tree
use denote.Ref.{Bor}
use Rattle.ifs_interface.specs.Interface.{names_of}
use Rattle.ifs_text.specs.Maps.{is_among}
use Rattle.ifs_text.specs.Text.{second_after}
use Rattle.ifs_text.proofs.Seen.{set_more, goes_on, was_new}
use Rattle.ifs_text.proofs.second.second.Goals as goal

pub loop-symbol-preserved : goal.loop-symbol-preserved
loop-symbol-preserved c =
    let i = c.loop-symbol.symbol-index in
    let ss = c.args.symbols.now in
    let x = c.symbol-item.result in
    let key = c.as_bytes.result in
    let old : Bor (List ℕ) → Bool = λ q. tree.contains (λ x y. slice_cmp nat_cmp x.now y.now) c.loop-symbol.seen q in
    let among : old key ≡ is_among x.name (names_of (take i ss)) = c.loop-symbol.invariant.seen key ∙ ap (λ n. is_among n (names_of (take i ss))) c.as_bytes.ensures in
    let unseen : old key ≡ false = was_new c.in_ok-insert.field-0 (old key) c.in_ok-insert.ensures.added c.if-not-branch.false in
    let fresh : is_among x.name (names_of (take i ss)) ≡ false = sym among ∙ unseen in
    record {
      seen = λ q. set_more i ss x c.loop-symbol-test.true c.symbol-item.is (old q) _ key.now q.now c.as_bytes.ensures (c.in_ok-insert.ensures.updates.0 q) (c.loop-symbol.invariant.seen q);
      left = goes_on i ss x c.loop-symbol-test.true c.symbol-item.is (second_after [] (names_of ss)) fresh c.loop-symbol.invariant.left;
    }
