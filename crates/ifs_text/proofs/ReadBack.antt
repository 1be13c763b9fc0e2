-- The text of an interface is read as the interface.
use Rattle.std.proofs.Common.{◌≡◌, List, ℕ, Result, Ok, Err, ap, ◌∙◌}
use Rattle.std.specs.Prelude.{IfOk, OnOk}
use Rattle.ifs_bytes.specs.declared.memory.Memory.{Memory}
use Rattle.ifs_interface.specs.Interface.{InterfaceRecord}
use Rattle.ifs_text.specs.Printed.{printed_interface}
use Rattle.ifs_text.specs.ReadBack.{CanBePrinted, PrintedIsReadBack}
use Rattle.ifs_text.specs.Text.{interface_of_text}
use Rattle.ifs_text.proofs.DocumentBack.Whole.{texts_are_interfaces}
use Rattle.ifs_text.proofs.PrintedDocument.{printed_is_its_document}

pub printed_is_read_back : PrintedIsReadBack
printed_is_read_back i can = texts_are_interfaces i (printed_interface i) can.interface can.numbers (printed_is_its_document i)

-- so what a call printed is read as the interface
pub answer_is_read_back : (i : InterfaceRecord) (result : Result (List ℕ) Memory) → IfOk result (λ text. text ≡ printed_interface i) → OnOk result (CanBePrinted i)
    → IfOk result (λ text. interface_of_text text ≡ Ok i)
answer_is_read_back i (Ok text) is can = ap interface_of_text is ∙ printed_is_read_back i can
answer_is_read_back i (Err memory) is can = tt
