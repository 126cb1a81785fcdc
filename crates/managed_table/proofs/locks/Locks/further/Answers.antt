use Rattle.std.proofs.Common.{arith}
use Rattle.managed_table.proofs.Pairing.{comes}
use Rattle.managed_table.proofs.locks.Locks.further.Goals as goal

pub split_seat-requires : goal.split_seat-requires
split_seat-requires g c =
    let wide = c.args.self.now.words_are in
    let free = c.requires.free in (
      free.0,
      omega arith,
      comes _ _ _ _ _ _ _ free.2.0,
    )
