use Rattle.std.proofs.Common.{arith}
use Rattle.managed_table.proofs.Locking.{releases}
use Rattle.managed_table.proofs.locks.Locks.let_go.Goals as goal

pub swap-requires : goal.swap-requires
swap-requires g c =
    let inside = c.requires.inside in
    let wide = c.args.self.now.words_are in
    let h = c.requires.holds in (
      c.requires.id,
      omega arith,
      releases _ _ _ _ _ _ _ _ h.view c.args.lock h.value h.before h.steps h.hand h.has h.fit h.grows c.args.self.now.slots_are,
    )
