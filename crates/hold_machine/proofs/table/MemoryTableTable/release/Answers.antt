use Rattle.std.proofs.Common.{sym, subst, ◌∙◌}
use Rattle.held_table.specs.Names.{name_bytes}
use Rattle.hold_turns.specs.Lines.{MayRelease}
use Rattle.hold_machine.specs.declared.table.MemoryTable.{MemoryTable}
use Rattle.hold_machine.specs.Table.{view_of}
use Rattle.hold_machine.proofs.TableLemmas.{release_is, none_released}
use Rattle.hold_machine.proofs.table.MemoryTableTable.release.Goals as goal
use Rattle.hold_machine.proofs.table.MemoryTableTable.release.Goals.{in-Some, in_default}

pub returns-clause-may : goal.returns-clause-may
returns-clause-may c = elim c.match-number.branch [
  | in-Some w ↦ subst (λ (s : MemoryTable). MayRelease c.args.holder.now c.args.modules.now (view_of c.args.self.now) (view_of s)) (sym w.self-is)
      (release_is c.args.holder.now c.args.modules.now (name_bytes c.in_ok-name.name) w.in-Some.number c.args.self.now.table c.line.new.self.table w.give_all.new.table
      c.line.ensures c.in_ok-name.ensures (sym c.number.ensures ∙ w.in-Some.is) w.give_all.ensures.gives)
  | in_default w ↦ subst (λ (s : MemoryTable). MayRelease c.args.holder.now c.args.modules.now (view_of c.args.self.now) (view_of s)) (sym w.self-is)
      (none_released c.args.holder.now c.args.modules.now c.args.self.now.table c.line.new.self.table c.line.ensures)
]
