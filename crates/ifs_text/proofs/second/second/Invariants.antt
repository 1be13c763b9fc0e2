use Rattle.std.proofs.Common.{◌≡◌, List, [], take, drop, ℕ}
use Rattle.std.specs.Ordering.{nat_cmp}
use Rattle.std.specs.Cmp.Lexicographic.{slice_cmp}
use Rattle.std.specs.BTreeSet as tree
use denote.Ref.{Bor}
use Rattle.ifs_interface.specs.Interface.{names_of}
use Rattle.ifs_text.specs.Maps.{is_among}
use Rattle.ifs_text.specs.Text.{second_after}
use Rattle.ifs_text.proofs.second.second.Given as goal

abbrev pub invariant-loop-symbol : goal.invariant-loop-symbol
invariant-loop-symbol l = record {
  seen : (q : Bor (List ℕ)) → tree.contains (λ x y. slice_cmp nat_cmp x.now y.now) l.seen q ≡ is_among q.now (names_of (take l.symbol-index l.symbols));
  left : second_after (names_of (take l.symbol-index l.symbols)) (names_of (drop l.symbol-index l.symbols)) ≡ second_after [] (names_of l.symbols);
}
