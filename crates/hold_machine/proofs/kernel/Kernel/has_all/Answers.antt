use Rattle.std.proofs.Common.{ℕ, List, All, subst}
use Rattle.std.proofs.lemmas.List.{take_all}
use Rattle.std.proofs.lemmas.List.Elements.{All-more}
use Rattle.hold_turns.specs.Events.{IsIn}
use Rattle.hold_machine.proofs.kernel.Kernel.has_all.Goals as goal

pub loop-slot-preserved : goal.loop-slot-preserved
loop-slot-preserved c = All-more (λ (m : ℕ). IsIn c.args.self.now m) c.args.slots.now c.loop-slot.slot-index 0 c.loop-slot-test.true c.loop-slot.invariant (c.has.ensures.there c.if-not-has.false)

pub returns : goal.returns
returns c = λ all. subst (λ (slots : List ℕ). All (λ (m : ℕ). IsIn c.args.self.now m) slots) (take_all c.loop-slot.slot-index c.args.slots.now c.loop-slot-test.false) c.loop-slot.invariant
