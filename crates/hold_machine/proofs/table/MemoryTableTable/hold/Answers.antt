use Rattle.held_table.specs.Names.{name_bytes}
use Rattle.hold_machine.proofs.TableLemmas.{hold_is, hold_all}
use Rattle.hold_machine.proofs.table.MemoryTableTable.hold.Goals as goal

pub returns-in_err-take_all-clause-may : goal.returns-in_err-take_all-clause-may
returns-in_err-take_all-clause-may c =
    hold_is c.args.holder.now c.args.modules.now (name_bytes c.in_ok-name.name) c.in_ok-number.number c.args.self.now.table c.line.new.self.table c.enter.new.table c.take_all.new.table
    c.line.ensures c.in_ok-name.ensures c.holder_laws.ensures.named c.in_ok-number.ensures.enters c.in_ok-number.ensures.number c.in_ok-number.ensures.below c.take_all.ensures.takes
    (c.are_live.ensures c.if-not-are_live.false)

pub returns-clause-may : goal.returns-clause-may
returns-clause-may c =
    hold_is c.args.holder.now c.args.modules.now (name_bytes c.in_ok-name.name) c.in_ok-number.number c.args.self.now.table c.line.new.self.table c.enter.new.table c.take_all.new.table
    c.line.ensures c.in_ok-name.ensures c.holder_laws.ensures.named c.in_ok-number.ensures.enters c.in_ok-number.ensures.number c.in_ok-number.ensures.below c.take_all.ensures.takes
    (c.are_live.ensures c.if-not-are_live.false)

pub returns-clause-all : goal.returns-clause-all
returns-clause-all c = λ held.
    hold_all c.args.holder.now c.args.modules.now (name_bytes c.in_ok-name.name) c.in_ok-number.number c.line.new.self.table c.enter.new.table c.take_all.new.table
    c.in_ok-name.ensures c.holder_laws.ensures.named c.in_ok-number.ensures.enters c.in_ok-number.ensures.number c.take_all.ensures.takes c.in_ok-take_all.ensures.taken
