use Rattle.std.proofs.Common.{[], ◌∷◌, subst}
use Rattle.ifs_top.specs.Steps.{ReadsInputs}
use Rattle.ifs_top.proofs.Reading.{named_alone, too_large}
use Rattle.ifs_top.proofs.inputs.read_input.Goals as goal

pub returns-in-Err-TooLarge-clause-counts : goal.returns-in-Err-TooLarge-clause-counts
returns-in-Err-TooLarge-clause-counts g c =
    let name = c.as_bytes-name.result.now in
    subst (λ path. ReadsInputs (path ∷ []) c.missed-in-Err-TooLarge.result (g.F.Files.map c.args.files.now) (g.F.Files.counts c.args.files.now) (g.F.Files.counts c.read.new.self)) c.as_bytes-name.ensures
    (too_large name c.missed-in-Err-TooLarge.result (g.F.Files.map c.args.files.now) (g.F.Files.counts c.args.files.now) (g.F.Files.counts c.read.new.self) c.in-Err-TooLarge.field-0 c.in-Err-TooLarge.field-0-is (named_alone name) c.missed-in-Err-TooLarge.ensures c.in-Err-TooLarge.ensures.tells c.in-Err-TooLarge.ensures.counted)
