use Rattle.std.proofs.Common.{refl, sym, ap, subst, true}
use Rattle.hold_turns.specs.declared.call.State.{State}
use Rattle.hold_turns.specs.declared.call.State.TheVariants as state
use Rattle.hold_turns.specs.Rule.{KnowsIn}
use Rattle.hold_turns.proofs.HandsLemmas.{quiet_turn}
use Rattle.hold_turns.specs.Course.{may_come}
use Rattle.hold_turns.proofs.call.Call.wait.Goals as goal

pub returns-in_err-has_ended-clause-turn : goal.returns-in_err-has_ended-clause-turn
returns-in_err-has_ended-clause-turn g c = quiet_turn c.args.number (g.T.Table.view c.args.table.now) (g.H.Hands.view c.args.hands.now) (g.H.Hands.view c.has_ended.new.self) c.requires.one c.has_ended.ensures.quiet

pub returns-then-branch-clause-turn : goal.returns-then-branch-clause-turn
returns-then-branch-clause-turn g c = quiet_turn c.args.number (g.T.Table.view c.args.table.now) (g.H.Hands.view c.args.hands.now) (g.H.Hands.view c.has_ended.new.self) c.requires.one c.has_ended.ensures.quiet

pub returns-else-branch-clause-turn : goal.returns-else-branch-clause-turn
returns-else-branch-clause-turn g c = quiet_turn c.args.number (g.T.Table.view c.args.table.now) (g.H.Hands.view c.args.hands.now) (g.H.Hands.view c.has_ended.new.self) c.requires.one c.has_ended.ensures.quiet

pub returns-then-branch-clause-knows : goal.returns-then-branch-clause-knows
returns-then-branch-clause-knows g c = record { locks = λ k d lt. c.has_ended.ensures.quiet.locks _ _ (c.requires.acting k d lt); idle = c.in_ok-has_ended.ensures.ended c.if-branch.true }

pub returns-else-branch-clause-knows : goal.returns-else-branch-clause-knows
returns-else-branch-clause-knows g c = subst (λ (s : State). KnowsIn s c.args.number c.args.self.now (g.T.Table.view c.args.table.now) (g.H.Hands.view c.has_ended.new.self)) (sym c.requires.state) (λ k d lt. c.has_ended.ensures.quiet.locks _ _ (c.requires.acting k d lt))

pub returns-then-branch-clause-goes : goal.returns-then-branch-clause-goes
returns-then-branch-clause-goes g c = refl

pub returns-else-branch-clause-goes : goal.returns-else-branch-clause-goes
returns-else-branch-clause-goes g c = ap (may_come state.Acting) c.requires.state
