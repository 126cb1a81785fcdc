use Rattle.std.proofs.Common.{refl}
use Rattle.hold_turns.specs.Events.{Asked}
use Rattle.hold_turns.proofs.TurnLemmas.{turn_stay}
use Rattle.hold_turns.proofs.HandsLemmas.{asked_turn, release_turn}
use Rattle.hold_turns.proofs.KnowLemmas.{ready_noted}
use Rattle.hold_turns.proofs.call.Call.begin.Goals as goal

pub returns-in_err-release-in-Put-clause-turn : goal.returns-in_err-release-in-Put-clause-turn
returns-in_err-release-in-Put-clause-turn g c = release_turn c.args.number c.args.self.now.holder.now c.args.self.now.modules.now (g.T.Table.view c.args.table.now) (g.T.Table.view c.release.new.self) (g.H.Hands.view c.args.hands.now) (g.H.Hands.view c.note_put.new.self) c.requires.one c.note_put.ensures c.release.ensures.may

pub returns-in_ok-release-in-Put-clause-turn : goal.returns-in_ok-release-in-Put-clause-turn
returns-in_ok-release-in-Put-clause-turn g c = release_turn c.args.number c.args.self.now.holder.now c.args.self.now.modules.now (g.T.Table.view c.args.table.now) (g.T.Table.view c.release.new.self) (g.H.Hands.view c.args.hands.now) (g.H.Hands.view c.note_put.new.self) c.requires.one c.note_put.ensures c.release.ensures.may

pub returns-in-Get-clause-turn : goal.returns-in-Get-clause-turn
returns-in-Get-clause-turn g c = asked_turn c.args.number c.args.self.now.holder.now c.args.self.now.modules.now (g.T.Table.view c.args.table.now) (g.H.Hands.view c.args.hands.now) (g.H.Hands.view c.note_asked.new.self) c.requires.one c.note_asked.ensures

pub returns-in-Get-clause-knows : goal.returns-in-Get-clause-knows
returns-in-Get-clause-knows g c = ready_noted c.args.number (Asked c.args.number c.args.self.now.holder.now c.args.self.now.modules.now) _ (g.H.Hands.view c.args.hands.now) (g.H.Hands.view c.note_asked.new.self) c.requires.ready c.note_asked.ensures

pub returns-in-Remove-clause-turn : goal.returns-in-Remove-clause-turn
returns-in-Remove-clause-turn g c = turn_stay c.args.number (g.T.Table.view c.args.table.now) (g.H.Hands.view c.args.hands.now) c.requires.one

pub returns-in-Remove-clause-knows : goal.returns-in-Remove-clause-knows
returns-in-Remove-clause-knows g c = c.requires.ready

pub returns-in-Get-clause-goes : goal.returns-in-Get-clause-goes
returns-in-Get-clause-goes g c = refl

pub returns-in_ok-release-in-Put-clause-goes : goal.returns-in_ok-release-in-Put-clause-goes
returns-in_ok-release-in-Put-clause-goes g c = refl

pub returns-in-Remove-clause-goes : goal.returns-in-Remove-clause-goes
returns-in-Remove-clause-goes g c = refl
