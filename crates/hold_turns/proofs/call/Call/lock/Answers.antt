use Rattle.std.proofs.Common.{◌∙◌, refl, subst, ℕ, List, true}
use Rattle.hold_turns.specs.Rule.{HasLocks}
use Rattle.hold_turns.proofs.TurnLemmas.{turn_then, ready_quiet}
use Rattle.hold_turns.proofs.HandsLemmas.{quiet_turn}
use Rattle.hold_turns.proofs.TableLemmas.{read_turn}
use Rattle.hold_turns.proofs.KnowLemmas.{free_knows}
use Rattle.hold_turns.proofs.call.Call.lock.Goals as goal

pub returns-in_err-slots-clause-turn : goal.returns-in_err-slots-clause-turn
returns-in_err-slots-clause-turn g c = (read_turn c.args.number (g.T.Table.view c.args.table.now) (g.T.Table.view c.missing_of.new.table) (g.H.Hands.view c.args.hands.now) c.missing_of.ensures c.requires.one)

pub returns-in_err-lock-clause-turn : goal.returns-in_err-lock-clause-turn
returns-in_err-lock-clause-turn g c = turn_then (read_turn c.args.number (g.T.Table.view c.args.table.now) (g.T.Table.view c.missing_of.new.table) (g.H.Hands.view c.args.hands.now) c.missing_of.ensures c.requires.one) (quiet_turn c.args.number (g.T.Table.view c.missing_of.new.table) (g.H.Hands.view c.args.hands.now) (g.H.Hands.view c.lock.new.self) (read_turn c.args.number (g.T.Table.view c.args.table.now) (g.T.Table.view c.missing_of.new.table) (g.H.Hands.view c.args.hands.now) c.missing_of.ensures c.requires.one).one c.lock.ensures.quiet)

pub returns-then-branch-clause-turn : goal.returns-then-branch-clause-turn
returns-then-branch-clause-turn g c = turn_then (read_turn c.args.number (g.T.Table.view c.args.table.now) (g.T.Table.view c.missing_of.new.table) (g.H.Hands.view c.args.hands.now) c.missing_of.ensures c.requires.one) (quiet_turn c.args.number (g.T.Table.view c.missing_of.new.table) (g.H.Hands.view c.args.hands.now) (g.H.Hands.view c.lock.new.self) (read_turn c.args.number (g.T.Table.view c.args.table.now) (g.T.Table.view c.missing_of.new.table) (g.H.Hands.view c.args.hands.now) c.missing_of.ensures c.requires.one).one c.lock.ensures.quiet)

pub returns-then-branch-clause-knows : goal.returns-then-branch-clause-knows
returns-then-branch-clause-knows g c = record { locks = subst (λ (xs : List ℕ). HasLocks c.args.number xs (g.H.Hands.view c.lock.new.self)) c.deref.ensures.value (c.in_ok-lock.ensures.had c.if-branch.true); idle = c.lock.ensures.quiet.acts c.args.number ∙ c.requires.ready.idle }

pub returns-clause-turn : goal.returns-clause-turn
returns-clause-turn g c = turn_then (read_turn c.args.number (g.T.Table.view c.args.table.now) (g.T.Table.view c.missing_of.new.table) (g.H.Hands.view c.args.hands.now) c.missing_of.ensures c.requires.one) (quiet_turn c.args.number (g.T.Table.view c.missing_of.new.table) (g.H.Hands.view c.args.hands.now) (g.H.Hands.view c.lock.new.self) (read_turn c.args.number (g.T.Table.view c.args.table.now) (g.T.Table.view c.missing_of.new.table) (g.H.Hands.view c.args.hands.now) c.missing_of.ensures c.requires.one).one c.lock.ensures.quiet)

pub returns-clause-knows : goal.returns-clause-knows
returns-clause-knows g c = free_knows c.anew-self.result c.args.number _ _ (g.H.Hands.view c.lock.new.self) c.anew-self.ensures.free refl (ready_quiet _ c.requires.ready c.lock.ensures.quiet)

pub returns-then-branch-clause-goes : goal.returns-then-branch-clause-goes
returns-then-branch-clause-goes g c = refl

pub returns-clause-goes : goal.returns-clause-goes
returns-clause-goes g c = c.anew-self.ensures.from_lock
