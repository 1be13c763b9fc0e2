use Rattle.link_objects.proofs.Owned.{read_count, read_own, read_small}
use Rattle.link_objects.proofs.objects.read_objects.Goals as goal

pub returns-clause-bytes : goal.returns-clause-bytes
returns-clause-bytes c = read_own c.objects_in.result c.args.files.now c.objects_in.ensures

pub returns-clause-count : goal.returns-clause-count
returns-clause-count c = read_count c.objects_in.result c.args.files.now c.objects_in.ensures

pub returns-clause-small : goal.returns-clause-small
returns-clause-small c = read_small c.objects_in.result c.args.files.now c.objects_in.ensures c.requires.small
