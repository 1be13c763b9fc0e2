use Rattle.std.proofs.lemmas.Result.{err_from_is_err_and}
use Rattle.link_core.specs.Link.{objects_of}
use Rattle.link_objects.specs.Files.{bytes_of}
use Rattle.link_objects.proofs.Reading.{handed, read_done, read_ends}
use Rattle.link_objects.proofs.objects.objects_in.Goals as goal

pub returns-in_err-push_object : goal.returns-in_err-push_object
returns-in_err-push_object c =
    let r = c.from_residual in
    let stop = c.in_err-push_object.field-0.0 in
    handed r.result stop (objects_of (bytes_of c.args.files.now)) (err_from_is_err_and r.result r.ensures.1)
    (read_ends c.args.files.now c.loop-i.i c.index-files-i.result c.loop-i.objects.items stop
    c.loop-i-test.true c.index-files-i.is c.in_err-push_object.ensures c.loop-i.invariant)

pub returns : goal.returns
returns c =
    read_done c.from_vec.result c.loop-i.objects.items c.args.files.now c.loop-i.i c.from_vec.ensures
    c.loop-i-test.false c.loop-i.invariant
