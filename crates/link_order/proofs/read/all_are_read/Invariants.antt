use Rattle.std.proofs.Common.{ℕ, ◌<◌, get_or}
use Rattle.elf_object.specs.Object.{IsRead}
use Rattle.link_order.proofs.read.all_are_read.Given as goal

abbrev pub invariant-loop-object : goal.invariant-loop-object
invariant-loop-object l = (k : ℕ) (d : _) → k < l.object-index → IsRead (get_or l.objects k d)
