use Rattle.std.proofs.Common.{◌∙◌, ap, arith, length, not, eqb}
use Rattle.dep_index.specs.Table.Ordered.{slots_in}
use Rattle.dep_index.proofs.OrderLemmas.{no_gap_left, slots_of_filtered}
use Rattle.dep_index.proofs.table.order.make_room.Goals as goal

pub returns-then-len-clause-slots : goal.returns-then-len-clause-slots
returns-then-len-clause-slots c =
    ap slots_in c.pack.ensures.after ∙ slots_of_filtered (λ s. not (eqb s 65535)) c.args.entries.now.items ∙ no_gap_left c.args.entries.now.items

pub returns-then-len-clause-room : goal.returns-then-len-clause-room
returns-then-len-clause-room c =
    omega (arith, ap length (c.pack.ensures.after ∙ no_gap_left c.args.entries.now.items), c.requires.free, c.pack.ensures.places)
