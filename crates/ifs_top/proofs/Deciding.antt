-- What `stub` answers, from what its inputs gave.
use Rattle.std.proofs.Common.{◌≡◌, ℕ, ◌<◌, Bool, true, false, List, [], ◌∷◌, Option, Some, None, Result, Ok, Err, ap, sym, subst, ◌∙◌, inl, inr, lit<, arith}
use Rattle.std.specs.Prelude.{⊤, codes, IfSome, if◌then◌else◌}
use Rattle.ifs_bytes.specs.Outcome.{◌>>=◌, UnlessMemory}
use Rattle.ifs_outside.specs.Files.{FileMap}
use Rattle.ifs_outside.specs.declared.counts.FileCounts.{FileCounts}
use Rattle.elf_dyn.specs.Library.{library_of}
use Rattle.elf_file.specs.Printed.{printed_elf_cause}
use Rattle.ifs_edit.specs.Adjusted.{adjusted}
use Rattle.ifs_edit.specs.Merged.{merged}
use Rattle.ifs_edit.specs.Printed.{printed_adjust_cause, printed_merge_cause}
use Rattle.ifs_interface.specs.Interface.{InterfaceRecord}
use Rattle.ifs_stub.specs.Printed.{printed_stub_cause}
use Rattle.ifs_text.specs.Cause.{printed_text_cause}
use Rattle.ifs_text.specs.Text.{interface_of_text}
use Rattle.ifs_words.specs.declared.command.InputFormat.{InputFormat}
use Rattle.ifs_words.specs.declared.command.StubWords.{StubWords}
use Rattle.ifs_top.specs.declared.inputs.Input.{Input}
use Rattle.ifs_top.specs.declared.refusal.Refusal.{Refusal}
use Rattle.ifs_top.specs.declared.refusal.Refusal.TheVariants as refusals
use Rattle.ifs_top.specs.declared.refusal.Stop.{Stop}
use Rattle.ifs_top.specs.declared.refusal.Stop.TheVariants as stops
use Rattle.ifs_top.specs.declared.reply.Reply.{Reply}
use Rattle.ifs_top.specs.Inputs.{interface_in, is_library, library_in, read_inputs, text_in}
use Rattle.ifs_top.specs.Outcome.{settled, stub_reply}
use Rattle.ifs_top.specs.Refused.{each, or_refused}
use Rattle.ifs_top.specs.Steps.{DecidesStub, ReadsInputs, SaysMiss, Settles}
use Rattle.ifs_top.specs.Stub.{outputs_of, stub_for, stub_of_inputs}

-- ---- once all inputs are read, the status is below 3

abbrev LowRefusal : {X : Type 0} → Result X Refusal → Type 0
LowRefusal (Ok x) = ⊤
LowRefusal (Err (refusals.Fault reply)) = reply.status < 3
LowRefusal (Err refusals.Memory) = ⊤

abbrev Low : Result Reply Refusal → Type 0
Low (Ok reply) = reply.status < 3
Low (Err (refusals.Fault reply)) = reply.status < 3
Low (Err refusals.Memory) = ⊤

low_then : {X : Type 0} (r : Result X Refusal) (f : X → Result Reply Refusal) → LowRefusal r → ((x : X) → Low (f x)) → Low (r >>= f)
low_then (Ok x) f h g = g x
low_then (Err (refusals.Fault reply)) f h g = h
low_then (Err refusals.Memory) f h g = tt

refusal_then : {X Y : Type 0} (r : Result X Refusal) (f : X → Result Y Refusal) → LowRefusal r → ((x : X) → LowRefusal (f x)) → LowRefusal (r >>= f)
refusal_then (Ok x) f h g = g x
refusal_then (Err (refusals.Fault reply)) f h g = h
refusal_then (Err refusals.Memory) f h g = tt

low_or_refused : {X C : Type 0} (subject : List ℕ) (printed : C → List ℕ) (r : Result X C) → LowRefusal (or_refused subject printed r)
low_or_refused subject printed (Ok x) = tt
low_or_refused subject printed (Err cause) = lit< tt

low_each : {X Y : Type 0} (f : X → Result Y Refusal) → ((x : X) → LowRefusal (f x)) → (xs : List X) → LowRefusal (each f xs)
low_each f h [] = tt
low_each f h (x ∷ xs) = refusal_then (f x) _ (h x) (λ y. refusal_then (each f xs) _ (low_each f h xs) (λ ys. tt))

low_by : {X : Type 0} (b : Bool) (x y : Result X Refusal) → LowRefusal x → LowRefusal y → LowRefusal (if b then x else y)
low_by true x y p q = p
low_by false x y p q = q

low_input : (format : Option InputFormat) (input : Input) → LowRefusal (interface_in format input)
unfolding interface_in
low_input format input =
    low_by (is_library format input.bytes) (library_in input) (text_in input)
    (refusal_then (or_refused input.path printed_elf_cause (library_of input.bytes)) _ (low_or_refused input.path printed_elf_cause (library_of input.bytes)) (λ library. tt))
    (low_or_refused input.path printed_text_cause (interface_of_text input.bytes))

low_outputs : (words : StubWords) (interface : InterfaceRecord) (stub : List ℕ) → (outputs_of words interface stub).status < 3
unfolding outputs_of
low_outputs words interface stub = lit< tt

low_reply : (words : StubWords) (inputs : List Input) → Low (stub_of_inputs words inputs)
unfolding stub_of_inputs
low_reply words inputs =
    low_then (each (interface_in words.input_format) inputs) _ (low_each (interface_in words.input_format) (low_input words.input_format) inputs) (λ interfaces.
    low_then (or_refused (codes "merge") printed_merge_cause (merged interfaces)) _ (low_or_refused (codes "merge") printed_merge_cause (merged interfaces)) (λ whole.
    low_then (or_refused (codes "adjust") printed_adjust_cause (adjusted whole words.adjust)) _ (low_or_refused (codes "adjust") printed_adjust_cause (adjusted whole words.adjust)) (λ interface.
    low_then (or_refused (codes "stub") printed_stub_cause (stub_for words.output_elf interface)) _ (low_or_refused (codes "stub") printed_stub_cause (stub_for words.output_elf interface)) (λ stub.
    low_outputs words interface stub))))

-- ---- the answer

same_counts : (old new : FileCounts) → new ≡ old → new ≡ record old { read_faults = new.read_faults; misses = new.misses }
same_counts old new h = h ∙ ap (λ (x : FileCounts). record old { read_faults = x.read_faults; misses = x.misses }) (sym h)

no_memory : (words : StubWords) (files : Option FileMap) (old new : FileCounts) → new ≡ record old { read_faults = new.read_faults; misses = new.misses } → DecidesStub words (Err stops.Memory) files old new
no_memory words files old new counts = record { reply = tt; miss = tt; line = tt; counts = counts }

told_reply : (words : StubWords) (inputs : List Input) (reply : Reply) (files : Option FileMap) → IfSome files (λ held. Ok inputs ≡ read_inputs held words.inputs) → reply ≡ settled (stub_of_inputs words inputs)
    → IfSome files (λ held. reply ≡ stub_reply words held)
told_reply words inputs reply None read is = tt
told_reply words inputs reply (Some held) read is = is ∙ ap (λ (r : Result (List Input) Refusal). settled (r >>= stub_of_inputs words)) read

replied : (words : StubWords) (inputs : List Input) (reply : Reply) (files : Option FileMap) (old new : FileCounts) → IfSome files (λ held. Ok inputs ≡ read_inputs held words.inputs) → new ≡ old
    → reply.status < 3 → reply ≡ settled (stub_of_inputs words inputs) → DecidesStub words (Ok reply) files old new
replied words inputs reply files old new read counts low is = record {
  reply = told_reply words inputs reply files read is;
  miss = λ three. absurd (omega (arith, three, low));
  line = tt;
  counts = inl (low, counts);
}

by_meant : (words : StubWords) (inputs : List Input) (files : Option FileMap) (old new : FileCounts) (meant : Result Reply Refusal) (result : Result Reply Stop)
    → IfSome files (λ held. Ok inputs ≡ read_inputs held words.inputs) → new ≡ old → Low meant → meant ≡ stub_of_inputs words inputs → Settles meant result → DecidesStub words result files old new
by_meant words inputs files old new (Ok reply) result read counts low is settles = rw settles (replied words inputs reply files old new read counts low (ap settled is))
by_meant words inputs files old new (Err (refusals.Fault reply)) result read counts low is settles = rw settles (replied words inputs reply files old new read counts low (ap settled is))
by_meant words inputs files old new (Err refusals.Memory) result read counts low is settles = rw settles (no_memory words files old new (same_counts old new counts))

after_reading : (words : StubWords) (inputs : List Input) (files : Option FileMap) (old new : FileCounts) (made : Result Reply Refusal) (result : Result Reply Stop)
    → IfSome files (λ held. Ok inputs ≡ read_inputs held words.inputs) → new ≡ old → UnlessMemory refusals.Memory made (stub_of_inputs words inputs) → Settles made result → DecidesStub words result files old new
after_reading words inputs files old new made result read counts (inl memory) settles =
    let end : result ≡ Err stops.Memory = subst (λ (m : Result Reply Refusal). Settles m result) memory settles in
    rw end (no_memory words files old new (same_counts old new counts))
after_reading words inputs files old new made result read counts (inr meant) settles =
    by_meant words inputs files old new made result read counts (subst Low (sym meant) (low_reply words inputs)) meant settles

told_miss : (words : StubWords) (reply : Reply) (files : Option FileMap) → IfSome files (λ held. Err (refusals.Fault reply) ≡ read_inputs held words.inputs) → IfSome files (λ held. reply ≡ stub_reply words held)
told_miss words reply None read = tt
told_miss words reply (Some held) read = ap (λ (r : Result (List Input) Refusal). settled (r >>= stub_of_inputs words)) read

is_fault : (path : List ℕ) (reply : Reply) (files : Option FileMap) → SaysMiss path reply files → (reply.status ≡ 3) × (reply.outputs ≡ [])
is_fault path reply files (inl missing) = (ap (λ (r : Reply). r.status) missing.0, ap (λ (r : Reply). r.outputs) missing.0)
is_fault path reply files (inr large) = (ap (λ (r : Reply). r.status) large.0, ap (λ (r : Reply). r.outputs) large.0)

after_miss : (words : StubWords) (refusal : Refusal) (files : Option FileMap) (old new : FileCounts) (result : Result Reply Stop)
    → IfSome files (λ held. Err refusal ≡ read_inputs held words.inputs) → ReadsInputs {X = List Input} words.inputs (Ok (Err refusal)) files old new → Settles (Err refusal) result → DecidesStub words result files old new
after_miss words (refusals.Fault reply) files old new result read counts settles =
    let is = is_fault counts.0.0 reply files counts.0.2 in
    rw settles (record {
      reply = told_miss words reply files read;
      miss = λ _. counts.0;
      line = tt;
      counts = inr (is.0, is.1, counts.1, counts.2);
    })
after_miss words refusals.Memory files old new result read counts settles = absurd counts

-- what was read of the paths
record HasRead (words : StubWords) (paths : List (List ℕ)) (read : Result (List Input) Refusal) (files : Option FileMap) (old new : FileCounts) : Type 0 where
  pub paths_are : paths ≡ words.inputs
  pub value : IfSome files (λ held. read ≡ read_inputs held paths)
  pub counts : ReadsInputs {X = List Input} paths (Ok read) files old new

at_inputs : (words : StubWords) (paths : List (List ℕ)) (read : Result (List Input) Refusal) (files : Option FileMap) (old new : FileCounts) → HasRead words paths read files old new → HasRead words words.inputs read files old new
at_inputs words paths read files old new h = subst (λ ps. HasRead words ps read files old new) h.paths_are h

-- the inputs were read
pub answers_read : (words : StubWords) (paths : List (List ℕ)) (read : Result (List Input) Refusal) (files : Option FileMap) (old new : FileCounts) (inputs : List Input) (made : Result Reply Refusal) (result : Result Reply Stop)
    → paths ≡ words.inputs → IfSome files (λ held. read ≡ read_inputs held paths) → ReadsInputs {X = List Input} paths (Ok read) files old new
    → read ≡ Ok inputs → UnlessMemory refusals.Memory made (stub_of_inputs words inputs) → Settles made result → DecidesStub words result files old new
answers_read words paths read files old new inputs made result same value counts is meant settles =
    let all : HasRead words paths read files old new = record { paths_are = same; value = value; counts = counts } in
    let h = subst (λ (r : Result (List Input) Refusal). HasRead words words.inputs r files old new) is (at_inputs words paths read files old new all) in
    after_reading words inputs files old new made result h.value h.counts meant settles

-- an input was missed
pub answers_missed : (words : StubWords) (paths : List (List ℕ)) (read : Result (List Input) Refusal) (files : Option FileMap) (old new : FileCounts) (refusal : Refusal) (result : Result Reply Stop)
    → paths ≡ words.inputs → IfSome files (λ held. read ≡ read_inputs held paths) → ReadsInputs {X = List Input} paths (Ok read) files old new
    → read ≡ Err refusal → Settles (Err refusal) result → DecidesStub words result files old new
answers_missed words paths read files old new refusal result same value counts is settles =
    let all : HasRead words paths read files old new = record { paths_are = same; value = value; counts = counts } in
    let h = subst (λ (r : Result (List Input) Refusal). HasRead words words.inputs r files old new) is (at_inputs words paths read files old new all) in
    after_miss words refusal files old new result h.value h.counts settles
