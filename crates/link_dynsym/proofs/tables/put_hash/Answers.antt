use Rattle.link_dynsym.proofs.TableBytes.{hash_fits}
use Rattle.link_dynsym.specs.Made.{link_of}
use Rattle.link_dynsym.proofs.tables.put_hash.Goals as goal

pub hash_words-requires : goal.hash_words-requires
hash_words-requires g c =
    hash_fits (link_of g.M.Machine.rules c.args.p.now) c.args.p.now.layout c.names.result.now c.plan.result.now c.in_ok-names.names.items
    c.as_slice.result.now c.is_made.ensures c.names.ensures c.plan.ensures c.in_ok-names.ensures c.as_slice.ensures.value
