use Rattle.std.proofs.Common.{arith}
use Rattle.managed_table.proofs.Locking.{drops}
use Rattle.managed_table.proofs.locks.Locks.try_let_go.Goals as goal

pub fetch_sub-requires : goal.fetch_sub-requires
fetch_sub-requires g c =
    let inside = c.requires.inside in
    let wide = c.args.self.now.words_are in
    let h = c.requires.holds in (
      c.requires.id,
      omega arith,
      drops _ _ _ _ _ _ _ _ h.view c.args.lock h.value h.before h.steps h.hand h.has h.fit h.grows c.args.self.now.slots_are,
    )

pub returns-clause-told : goal.returns-clause-told
returns-clause-told g c = c.fetch_sub.ensures.2
