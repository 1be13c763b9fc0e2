use Rattle.std.specs.Prelude.{map, string_bytes}
use Rattle.ifs_words.specs.Words.{words_of}
use Rattle.ifs_top.proofs.Sentences.{replied, stopped_run}
use Rattle.ifs_top.proofs.top.run.Goals as goal

pub returns-in-Ok : goal.returns-in-Ok
returns-in-Ok g c =
    replied (words_of (map string_bytes c.args.words.now)) c.in-Ok.reply c.deliver.result
    (g.S.Source.left c.args.input.now) (g.S.Source.faults c.args.input.now)
    (g.K.Sink.written c.args.out.now) (g.K.Sink.faults c.args.out.now)
    (g.F.Files.map c.args.files.now) (g.F.Files.map c.decide.new.files)
    (g.F.Files.counts c.args.files.now) (g.F.Files.counts c.decide.new.files) _
    (g.E.Sink.written c.args.err.now) (g.E.Sink.written c.deliver.new.err)
    (g.E.Sink.faults c.args.err.now) (g.E.Sink.faults c.deliver.new.err)
    c.in-Ok.ensures.answers c.in-Ok.ensures.keeps c.deliver.ensures

pub returns-in-Err : goal.returns-in-Err
returns-in-Err g c =
    stopped_run (words_of (map string_bytes c.args.words.now)) c.in-Err.stop c.stopped.result
    (g.S.Source.left c.args.input.now) (g.S.Source.faults c.args.input.now)
    (g.K.Sink.written c.args.out.now) (g.K.Sink.faults c.args.out.now)
    (g.F.Files.map c.args.files.now) (g.F.Files.map c.decide.new.files)
    (g.F.Files.counts c.args.files.now) (g.F.Files.counts c.decide.new.files)
    (g.E.Sink.written c.args.err.now) (g.E.Sink.written c.stopped.new.err)
    (g.E.Sink.faults c.args.err.now) (g.E.Sink.faults c.stopped.new.err)
    c.in-Err.ensures.answers c.in-Err.ensures.keeps c.stopped.ensures
