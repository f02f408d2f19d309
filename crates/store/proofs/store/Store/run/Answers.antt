use Rattle.std.proofs.Common.{vec_items}
use Rattle.store.proofs.Ordered.{ran}
use Rattle.store.proofs.store.Store.run.Goals as goal

pub invariant_of-self : goal.invariant_of-self
invariant_of-self g c = ran g.N.Nvm.meaning g.D.Disk.meaning _ _ vec_items _ _ c.run.result c.run.ensures.promise c.self.invariant
