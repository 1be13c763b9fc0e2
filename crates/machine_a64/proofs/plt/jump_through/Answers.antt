-- The bytes are those of the instructions.
use Rattle.machine_a64.proofs.Words.{three_and_jump}
use Rattle.machine_a64.proofs.plt.jump_through.Goals as goal

pub returns : goal.returns
returns c =
    three_and_jump c.to_le_bytes.result c.to_le_bytes-2.result c.to_le_bytes-3.result
    c.load_page.result c.load_slot.result c.add_place.result _ _ _
    c.to_le_bytes.ensures c.to_le_bytes-2.ensures c.to_le_bytes-3.ensures
    c.load_page.ensures c.load_slot.ensures c.add_place.ensures
