use Rattle.std.proofs.Common.{◌≡◌, ◌-◌, nat_lt}
use Rattle.std.specs.Prelude.{◌&&◌, Ok, max}
use Rattle.std.specs.List.{fold, list_all}
use Rattle.ifs_bytes.specs.Outcome.{◌>>=◌}
use Rattle.elf_dyn.specs.Hash.{words_in, buckets_in}
use Rattle.elf_dyn.proofs.hash.buckets.Given as goal

abbrev pub invariant-loop-turn : goal.invariant-loop-turn
invariant-loop-turn l =
    let more = words_in l.bytes l.order l.place (l.count - l._turn) in
    (more >>= λ words. Ok (fold max l.greatest words, l.all_below && list_all (λ b. nat_lt b l.first) words))
    ≡ buckets_in l.bytes l.order l.at l.count l.first
