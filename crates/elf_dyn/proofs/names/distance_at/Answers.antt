use Rattle.std.proofs.Common.{◌≡◌, ◌+◌, ◌-◌, ◌*◌, ◌/◌, length, min, take, drop, ap, ◌∙◌, arith}
use Rattle.elf_dyn.specs.NameEnds.{distance}
use Rattle.elf_dyn.proofs.Distances.{found_near, found_behind, distance_within}
use Rattle.elf_dyn.proofs.names.distance_at.Goals as goal

total_is : (c : goal.After-far_at) → c.nul_or_end-found.result + c.far_at.result ≡ distance c.args.table.now c.args.at
total_is c =
    let table = c.args.table.now in
    let at = c.args.at in
    let next = at / 64 + 1 in
    let near = c.split_at-2.result.0.now in
    let front : near ≡ take c.min.result (drop at table) = c.split_at-2.ensures.front ∙ ap (take c.min.result) c.split_at.ensures.back in
    let min_is = c.min.ensures ∙ ap (λ xs. min (length xs) (64 * next - at)) c.split_at.ensures.back in
    found_behind table near at next c.nul_or_end-found.result c.far_at.result c.requires.within (omega arith) (front ∙ ap (λ n. take n (drop at table)) min_is) c.nul_or_end-found.ensures.place c.if-found-near.false (c.far_at.ensures ∙ c.requires.far next)

pub overflow_add-result : goal.overflow_add-result
overflow_add-result c =
    let within = distance_within c.args.table.now c.args.at c.requires.within in
    let total = total_is c in
    omega (arith, within, total)

pub returns-then-found-near : goal.returns-then-found-near
returns-then-found-near c =
    found_near c.args.table.now c.split_at-2.result.0.now c.args.at c.min.result c.nul_or_end-found.result (c.split_at-2.ensures.front ∙ ap (take c.min.result) c.split_at.ensures.back) c.nul_or_end-found.ensures.place c.if-found-near.true

pub returns-else-found-near : goal.returns-else-found-near
returns-else-found-near c = total_is c
