use Rattle.hold_turns.proofs.call.Call.begin_act.Goals as goal

pub begin_removal-requires-clause-one : goal.begin_removal-requires-clause-one
begin_removal-requires-clause-one g c = c.requires.one

pub begin_removal-requires-clause-ready : goal.begin_removal-requires-clause-ready
begin_removal-requires-clause-ready g c = c.requires.ready

pub begin_removal-requires-clause-locked : goal.begin_removal-requires-clause-locked
begin_removal-requires-clause-locked g c = c.requires.locked

pub begin_load-requires-clause-one : goal.begin_load-requires-clause-one
begin_load-requires-clause-one g c = c.requires.one

pub begin_load-requires-clause-ready : goal.begin_load-requires-clause-ready
begin_load-requires-clause-ready g c = c.requires.ready

pub begin_load-requires-clause-locked : goal.begin_load-requires-clause-locked
begin_load-requires-clause-locked g c = c.requires.locked

pub returns-in-Remove-clause-turn : goal.returns-in-Remove-clause-turn
returns-in-Remove-clause-turn g c = c.begin_removal.ensures.turn

pub returns-in-Remove-clause-knows : goal.returns-in-Remove-clause-knows
returns-in-Remove-clause-knows g c = c.begin_removal.ensures.knows

pub returns-in-Get-clause-turn : goal.returns-in-Get-clause-turn
returns-in-Get-clause-turn g c = c.begin_load.ensures.turn

pub returns-in-Get-clause-knows : goal.returns-in-Get-clause-knows
returns-in-Get-clause-knows g c = c.begin_load.ensures.knows

pub returns-in-Remove-clause-goes : goal.returns-in-Remove-clause-goes
returns-in-Remove-clause-goes g c = c.begin_removal.ensures.goes

pub returns-in-Get-clause-goes : goal.returns-in-Get-clause-goes
returns-in-Get-clause-goes g c = c.begin_load.ensures.goes
