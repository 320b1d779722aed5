use Rattle.value_store.proofs.Viewed.{digest_is}
use Rattle.value_store.proofs.packed.Packed.digest_with.Goals as goal

pub returns : goal.returns
returns c = digest_is c.args.self.now.digests.items c.args.number c.index.result.now c.requires c.index.ensures
