use Rattle.std.proofs.Common.{◌<◌, sym, subst, arith}
use Rattle.root_row.specs.Seats.{RowIs}
use Rattle.root_row.specs.World.{slots}
use Rattle.managed_table.proofs.Trying.{in_range}
use Rattle.managed_table.proofs.table.ManagedTable.try_slot_turn.Goals as goal

pub try_book_turn-requires-clause-may : goal.try_book_turn-requires-clause-may
try_book_turn-requires-clause-may g c =
    let inside = c.if-slot-slots.false in
    let count = c.slots.ensures in
    c.requires.may (omega arith)

pub returns-clause-turn : goal.returns-clause-turn
returns-clause-turn g c =
    let outside = c.if-slot-slots.false in
    let count = c.slots.ensures in
    let inside : c.args.slot < slots c.args.self.now.row.world = omega arith in
    in_range c.args.slot c.args.tries _ c.args.caller.now c.try_book_turn.new.caller c.try_book_turn.result
    (subst (λ (k : RowIs). c.args.slot < slots k.world) (sym c.requires.own.1) inside) c.try_book_turn.ensures.turn
