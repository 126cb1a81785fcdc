use Rattle.std.proofs.Common.{◌∙◌, arith}
use Rattle.managed_table.specs.Turns.{pass_of}
use Rattle.managed_table.specs.Meeting.{both}
use Rattle.managed_table.proofs.Pairing.{joins, splits, tells_apart}
use Rattle.managed_table.proofs.locks.Locks.compare.Goals as goal

pub join_seat-requires : goal.join_seat-requires
join_seat-requires g c =
    let wide = c.args.self.now.words_are in
    let one = c.requires.first in
    let two = c.requires.second in (
      one.0,
      two.0,
      two.2.2,
      omega arith,
      joins _ _ _ _ _ _ _ _ _ one.2.0 two.2.0,
    )

pub load-requires : goal.load-requires
load-requires g c =
    let wide = c.args.self.now.words_are in (
      c.join_seat.ensures.0 ∙ c.requires.first.0,
      omega arith,
      tells_apart _ _ _ _ _ _ _ _,
    )

pub split_seat-second-requires : goal.split_seat-second-requires
split_seat-second-requires g c =
    let wide = c.args.self.now.words_are in
    let one = c.requires.first in
    let two = c.requires.second in (
      c.load.ensures.0 ∙ c.join_seat.ensures.0 ∙ one.0,
      omega arith,
      splits _ _ _ _ _ _ _ (pass_of c.args.first.me.0) (pass_of c.args.second.me.0)
          (c.load.ensures.2.0 ∙ (λ i. (c.join_seat.ensures.2 i).0) ∙ (λ i. both (one.2.0 i) (two.2.0 i))),
    )

pub returns-clause-apart : goal.returns-clause-apart
returns-clause-apart g c =
    let one = c.requires.first in
    let two = c.requires.second in
    c.load.ensures.2.2 (pass_of c.args.first.me.0) (pass_of c.args.second.me.0)
    ((λ i. (c.join_seat.ensures.2 i).0) ∙ (λ i. both (one.2.0 i) (two.2.0 i)))
