use Rattle.std.proofs.Common.{subst, arith}
use Rattle.held_table.specs.Held.{HeldOver}
use Rattle.hold_turns.specs.Lines.{MayMake}
use Rattle.hold_machine.specs.Table.{view_of_held}
use Rattle.hold_machine.proofs.TableLemmas.{may_make}
use Rattle.hold_machine.proofs.table.MemoryTableTable.make.Goals as goal

pub returns-clause-may : goal.returns-clause-may
returns-clause-may c =
    let table = c.line.new.self.table in
    subst (λ (t : HeldOver). MayMake c.args.half c.args.slot (view_of_held t.held) (view_of_held c.perform.new.table.held)) c.line.ensures
    (may_make table.catalogue table.held c.perform.new.table.held c.args.half c.args.slot (omega (arith, c.if-slot-slots.false, c.slots.ensures.all)) c.laws.ensures.shaped c.laws.ensures.lawful
    c.perform.ensures.becomes c.perform.ensures.names)
