use Rattle.std.proofs.Common.{List, drop}
use Rattle.hold_turns.specs.Course.{AreMade}
use Rattle.hold_turns.specs.declared.call.Call.{Call}
use Rattle.hold_turns.specs.Rule.{AreOne, AllKnow}
use Rattle.hold_turns.proofs.run.holds_keep_modules.Given as goal

abbrev pub invariant-loop-choice : goal.invariant-loop-choice
invariant-loop-choice g l = record {
  one : AreOne (g.T.Table.view l.table) (g.H.Hands.view l.hands);
  made : (new : List Call) → AreMade l.calls (drop l.choice-index l.choices) new → AreMade l.fn.calls l.choices new;
  know : AllKnow l.calls (g.T.Table.view l.table) (g.H.Hands.view l.hands);
}
