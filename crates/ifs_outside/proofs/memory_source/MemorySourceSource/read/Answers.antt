use Rattle.std.proofs.Common.{length, ap, ◌∙◌, sym, Some, arith}
use Rattle.ifs_outside.specs.MemorySource.{SourceState}
use Rattle.ifs_outside.proofs.Taken.{taken, none_left}
use Rattle.ifs_outside.proofs.memory_source.MemorySourceSource.read.Goals as goal

pub returns-clause-takes : goal.returns-clause-takes
returns-clause-takes c =
    let inside = c.self.inside in
    let n = c.copy_front-count.result in
    let left = ap (λ (s : SourceState). s.left) (sym c.self.view_is) in
    let rest = rw c.as_slice.ensures.value at c.split_at.ensures.back in
    let most = rw rest at c.copy_front-count.ensures.most in (
      omega arith,
      ap Some (left ∙ rw (c.copy_front-count.ensures.copied, rest) (taken inside.bytes.items inside.at n)),
      λ none some. none_left inside.bytes.items inside.at n (length c.args.into.now) most none (omega (arith, some)),
    )
