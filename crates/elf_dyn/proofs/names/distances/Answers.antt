use Rattle.std.proofs.Common.{◌≡◌, ◌+◌, ◌-◌, ◌*◌, length, ap, arith}
use Rattle.elf_dyn.specs.NameEnds.{distance}
use Rattle.elf_dyn.proofs.Distances.{still_found, one_more, all_far}
use Rattle.elf_dyn.proofs.names.distances.Goals as goal

pub loop-k-init : goal.loop-k-init
unfolding distance
loop-k-init c = record {
  so_far = λ j lt. absurd (omega (arith, lt));
  as_many = ap length c.in_ok-far.ensures.items;
  found = λ le. omega (arith, c.nul_or_end-found.ensures.place);
}

pub loop-k-preserved : goal.loop-k-preserved
loop-k-preserved c =
    let table = c.args.table.now in
    let k = c.loop-k.k in
    let found = c.next_nul-found.result in
    let item : found - 64 * k ≡ distance table (64 * k) = omega (arith, c.next_nul-found.ensures.place) in
    let long = ap length c.push.ensures.items in
    record {
      so_far = one_more table c.loop-k.far.items c.push.new.self.items k (found - 64 * k) c.in_ok-push.ensures.items c.loop-k.invariant.as_many item c.loop-k.invariant.so_far;
      as_many = omega (arith, c.in_ok-push.ensures.len, c.loop-k.invariant.as_many, c.loop-k.far.ok, c.push.new.self.ok);
      found = λ le. still_found table (64 * k) (64 * (k + 1)) found (omega arith) c.next_nul-found.ensures.place le;
    }

pub returns : goal.returns
returns c =
    all_far c.args.table.now c.loop-k.far.items c.loop-k.k c.loop-k.invariant.as_many (omega arith) c.loop-k.invariant.so_far
