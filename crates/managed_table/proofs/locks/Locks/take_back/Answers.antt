use Rattle.std.proofs.Common.{arith}
use Rattle.managed_table.proofs.Pairing.{takes_back}
use Rattle.managed_table.proofs.locks.Locks.take_back.Goals as goal

pub join_seat-requires : goal.join_seat-requires
join_seat-requires g c =
    let wide = c.args.self.now.words_are in
    let one = c.requires.free in
    let two = c.requires.further_free in (
      one.0,
      two.0,
      two.2.2,
      omega arith,
      takes_back _ _ _ _ _ _ _ _ _ one.2.0 two.2.0 c.requires.last,
    )
