use Rattle.hold_turns.specs.Acts.{IsQuiet}
use Rattle.hold_turns.specs.Rule.{IsTurn}
use Rattle.hold_turns.proofs.bring.bring_all.Given as goal

abbrev pub invariant-loop-slot : goal.invariant-loop-slot
invariant-loop-slot g l = record {
  turn : IsTurn l.number (g.T.Table.view l.fn.table) (g.H.Hands.view l.fn.hands) (g.T.Table.view l.table) (g.H.Hands.view l.hands);
  quiet : IsQuiet (g.H.Hands.view l.fn.hands) (g.H.Hands.view l.hands);
}
