use Rattle.std.proofs.Common.{arith, refl}
use Rattle.managed_table.proofs.Locking.{looks}
use Rattle.managed_table.proofs.locks.Locks.is_free.Goals as goal

pub load-requires : goal.load-requires
load-requires g c =
    let free = c.requires.free in
    let inside = c.requires.inside in
    let wide = c.args.self.now.words_are in (
      free.0,
      omega arith,
      looks _ _ _ _ _ _ _ _ free.2.0 c.args.lock,
    )

pub returns-clause-told : goal.returns-clause-told
returns-clause-told g c = c.load.ensures.2 c.args.lock refl
