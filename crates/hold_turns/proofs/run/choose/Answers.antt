use Rattle.std.proofs.Common.{refl, sym, subst}
use Rattle.hold_turns.proofs.KnowLemmas.{all_cut}
use Rattle.hold_turns.specs.declared.run.Choice.{Choice}
use Rattle.hold_turns.specs.Course.{IsChosen}
use Rattle.hold_turns.proofs.run.choose.Goals as goal

pub take_turn-requires-clause-one : goal.take_turn-requires-clause-one
take_turn-requires-clause-one g c = c.requires.one

pub take_turn-requires-clause-know : goal.take_turn-requires-clause-know
take_turn-requires-clause-know g c = c.requires.know

pub go_on-requires-clause-one : goal.go_on-requires-clause-one
go_on-requires-clause-one g c = c.requires.one

pub go_on-requires-clause-know : goal.go_on-requires-clause-know
go_on-requires-clause-know g c = c.requires.know

pub returns-in-Next-clause-one : goal.returns-in-Next-clause-one
returns-in-Next-clause-one g c = c.take_turn.ensures.one

pub returns-in-Next-clause-know : goal.returns-in-Next-clause-know
returns-in-Next-clause-know g c = c.take_turn.ensures.know

pub returns-in-Next-clause-chosen : goal.returns-in-Next-clause-chosen
returns-in-Next-clause-chosen g c = subst (λ (it : Choice). IsChosen it c.args.calls.now c.take_turn.new.calls) (sym c.in-Next.is) c.take_turn.ensures.turns

pub returns-in-Cut-clause-one : goal.returns-in-Cut-clause-one
returns-in-Cut-clause-one g c = c.requires.one

pub returns-in-Cut-clause-know : goal.returns-in-Cut-clause-know
returns-in-Cut-clause-know g c = all_cut _ _ _ (g.T.Table.view c.args.table.now) (g.H.Hands.view c.args.hands.now) c.requires.know c.cut_off.ensures

pub returns-in-Cut-clause-chosen : goal.returns-in-Cut-clause-chosen
returns-in-Cut-clause-chosen g c = subst (λ (it : Choice). IsChosen it c.args.calls.now c.cut_off.new.calls) (sym c.in-Cut.is) c.cut_off.ensures

pub returns-in-Ends-clause-one : goal.returns-in-Ends-clause-one
returns-in-Ends-clause-one g c = c.go_on.ensures.one

pub returns-in-Ends-clause-know : goal.returns-in-Ends-clause-know
returns-in-Ends-clause-know g c = c.go_on.ensures.know

pub returns-in-Ends-clause-chosen : goal.returns-in-Ends-clause-chosen
returns-in-Ends-clause-chosen g c = subst (λ (it : Choice). IsChosen it c.args.calls.now c.args.calls.now) (sym c.in-Ends.is) refl
