-- What `stub` answers, by its words and what its inputs hold.
use Rattle.std.specs.Prelude.{ℕ, Bool, List, [], ◌∷◌, ◌++◌, codes, Option, Some, None, Result, Ok}
use Rattle.ifs_bytes.specs.Outcome.{◌>>=◌}
use Rattle.ifs_interface.specs.Interface.{InterfaceRecord}
use Rattle.ifs_edit.specs.Adjusted.{adjusted}
use Rattle.ifs_edit.specs.Merged.{merged}
use Rattle.ifs_edit.specs.Printed.{printed_adjust_cause, printed_merge_cause}
use Rattle.ifs_edit.specs.Stripped.{stripped}
use Rattle.ifs_stub.specs.Printed.{printed_stub_cause}
use Rattle.ifs_stub.specs.Stub.{stub_of}
use Rattle.ifs_stub.specs.declared.cause.StubCause.{StubCause}
use Rattle.ifs_text.specs.Printed.{printed_interface}
use Rattle.ifs_words.specs.declared.command.StubWords.{StubWords}
use Rattle.ifs_top.specs.declared.inputs.Input.{Input}
use Rattle.ifs_top.specs.declared.refusal.Refusal.{Refusal}
use Rattle.ifs_top.specs.declared.reply.Output.{Output}
use Rattle.ifs_top.specs.declared.reply.Reply.{Reply}
use Rattle.ifs_top.specs.Inputs.{interface_in}
use Rattle.ifs_top.specs.Refused.{each, or_refused}

-- an output at a path, where there is one
abbrev pub output_at : Option (List ℕ) → Bool → List ℕ → List Output
output_at None if_changed bytes = []
output_at (Some path) if_changed bytes = record { path = path; bytes = bytes; if_changed = if_changed } ∷ []

-- where the text goes: to standard output where no output is asked for
abbrev pub text_path : Option (List ℕ) → Option (List ℕ) → Option (List ℕ)
text_path None None = Some (codes "-")
text_path None (Some elf) = None
text_path (Some ifs) elf = Some ifs

-- a stub library is made where it is asked for
abbrev pub stub_for : Option (List ℕ) → InterfaceRecord → Result (List ℕ) StubCause
stub_for None interface = Ok []
stub_for (Some path) interface = stub_of interface

abbrev pub text_output : StubWords → InterfaceRecord → List Output
text_output words interface = output_at (text_path words.output_ifs words.output_elf) words.write_if_changed (printed_interface (stripped interface words.strip))

-- the text of the interface with what is left of its target, then the stub library, each where it is asked for
unfoldable pub outputs_of : StubWords → InterfaceRecord → List ℕ → Reply
outputs_of words interface stub = record {
  outputs = text_output words interface ++ output_at words.output_elf words.write_if_changed stub;
  line = [];
  status = 0;
}

-- the inputs are parsed one by one, merged and adjusted, and the outputs are made
unfoldable pub stub_of_inputs : StubWords → List Input → Result Reply Refusal
stub_of_inputs words inputs = do
  interfaces ← each (interface_in words.input_format) inputs
  whole ← or_refused (codes "merge") printed_merge_cause (merged interfaces)
  interface ← or_refused (codes "adjust") printed_adjust_cause (adjusted whole words.adjust)
  stub ← or_refused (codes "stub") printed_stub_cause (stub_for words.output_elf interface)
  Ok (outputs_of words interface stub)
