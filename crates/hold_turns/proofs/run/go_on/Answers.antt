use Rattle.std.proofs.Common.{true}
use Rattle.hold_turns.proofs.HandsLemmas.{let_go_turn, go_on_turn}
use Rattle.hold_turns.proofs.KnowLemmas.{all_go_on, all_let_go}
use Rattle.hold_turns.proofs.run.go_on.Goals as goal

pub returns-then-is_over_at-clause-one : goal.returns-then-is_over_at-clause-one
returns-then-is_over_at-clause-one g c = (let_go_turn c.args.number (g.T.Table.view c.args.table.now) (g.H.Hands.view c.go_on.new.self) (g.H.Hands.view c.let_go.new.self) (go_on_turn c.args.number (g.T.Table.view c.args.table.now) (g.H.Hands.view c.args.hands.now) (g.H.Hands.view c.go_on.new.self) c.requires.one c.go_on.ensures).one c.let_go.ensures).one

pub returns-then-is_over_at-clause-know : goal.returns-then-is_over_at-clause-know
returns-then-is_over_at-clause-know g c = all_let_go c.args.calls.now c.args.number (g.T.Table.view c.args.table.now) (g.H.Hands.view c.go_on.new.self) (g.H.Hands.view c.let_go.new.self) (all_go_on c.args.calls.now c.args.number (g.T.Table.view c.args.table.now) (g.H.Hands.view c.args.hands.now) (g.H.Hands.view c.go_on.new.self) c.requires.know (go_on_turn c.args.number (g.T.Table.view c.args.table.now) (g.H.Hands.view c.args.hands.now) (g.H.Hands.view c.go_on.new.self) c.requires.one c.go_on.ensures).others c.go_on.ensures) (let_go_turn c.args.number (g.T.Table.view c.args.table.now) (g.H.Hands.view c.go_on.new.self) (g.H.Hands.view c.let_go.new.self) (go_on_turn c.args.number (g.T.Table.view c.args.table.now) (g.H.Hands.view c.args.hands.now) (g.H.Hands.view c.go_on.new.self) c.requires.one c.go_on.ensures).one c.let_go.ensures).others (c.is_over_at.ensures c.if-is_over_at.true)

pub returns-else-number-calls-clause-one : goal.returns-else-number-calls-clause-one
returns-else-number-calls-clause-one g c = (go_on_turn c.args.number (g.T.Table.view c.args.table.now) (g.H.Hands.view c.args.hands.now) (g.H.Hands.view c.go_on.new.self) c.requires.one c.go_on.ensures).one

pub returns-else-number-calls-clause-know : goal.returns-else-number-calls-clause-know
returns-else-number-calls-clause-know g c = (all_go_on c.args.calls.now c.args.number (g.T.Table.view c.args.table.now) (g.H.Hands.view c.args.hands.now) (g.H.Hands.view c.go_on.new.self) c.requires.know (go_on_turn c.args.number (g.T.Table.view c.args.table.now) (g.H.Hands.view c.args.hands.now) (g.H.Hands.view c.go_on.new.self) c.requires.one c.go_on.ensures).others c.go_on.ensures)
