use Rattle.std.proofs.Common.{subst}
use Rattle.elf_object.specs.Object as meant
use Rattle.elf_object.proofs.Room.{has_room}
use Rattle.elf_object.proofs.object.read.Goals as goal

pub returns-clause-room : goal.returns-clause-room
returns-clause-room c =
    let elf = c.in_ok-elf.elf in
    let read = c.in_ok-read_all.field-0 in
    subst (λ b. meant.HasRoom (meant.with_bytes b read)) c.in_ok-elf.ensures.bytes
    (has_room elf.bytes elf.header c.in_ok-parts.parts (meant.with_bytes elf.bytes read) c.in_ok-elf.ensures.wide c.in_ok-elf.ensures.fits c.in_ok-parts.ensures.lie c.in_ok-read_all.ensures)
