use Rattle.ifs_top.proofs.Deciding.{answers_missed, answers_read}
use Rattle.ifs_top.proofs.stub.stub.Goals as goal

pub returns-in-Ok-clause-answers : goal.returns-in-Ok-clause-answers
returns-in-Ok-clause-answers g c =
    answers_read c.args.words.now c.as_slice.result.now c.in_ok-inputs.field-0 (g.F.Files.map c.args.files.now) (g.F.Files.counts c.args.files.now) (g.F.Files.counts c.read_inputs.new.files)
    c.in-Ok.inputs c.stub_of_inputs.result c.settled.result c.as_slice.ensures c.in_ok-inputs.ensures.value c.in_ok-inputs.ensures.counts c.in-Ok.is c.stub_of_inputs.ensures c.settled.ensures

pub returns-in-Err-clause-answers : goal.returns-in-Err-clause-answers
returns-in-Err-clause-answers g c =
    answers_missed c.args.words.now c.as_slice.result.now c.in_ok-inputs.field-0 (g.F.Files.map c.args.files.now) (g.F.Files.counts c.args.files.now) (g.F.Files.counts c.read_inputs.new.files)
    c.in-Err.refusal c.settled-in-Err.result c.as_slice.ensures c.in_ok-inputs.ensures.value c.in_ok-inputs.ensures.counts c.in-Err.is c.settled-in-Err.ensures
