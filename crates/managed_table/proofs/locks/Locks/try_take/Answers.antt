use Rattle.std.proofs.Common.{arith, refl}
use Rattle.managed_table.proofs.Locking.{tries}
use Rattle.managed_table.proofs.locks.Locks.try_take.Goals as goal

pub compare_exchange-requires : goal.compare_exchange-requires
compare_exchange-requires g c =
    let free = c.requires.free in
    let inside = c.requires.inside in
    let wide = c.args.self.now.words_are in (
      free.0,
      omega arith,
      tries _ _ _ _ _ _ _ _ free.2.0 c.args.lock 1 free.2.2 free.2.1 inside (λ q. omega arith),
    )

pub returns-clause-told : goal.returns-clause-told
returns-clause-told g c = c.compare_exchange.ensures.2 c.args.lock refl
