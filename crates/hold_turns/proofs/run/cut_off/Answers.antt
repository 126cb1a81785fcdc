use Rattle.std.proofs.Common.{true, false}
use Rattle.hold_turns.proofs.KnowLemmas.{cut_is}
use Rattle.hold_turns.proofs.CourseLemmas.{cut_none}
use Rattle.hold_turns.proofs.run.cut_off.Goals as goal

pub returns-then-number-calls : goal.returns-then-number-calls
returns-then-number-calls c = cut_is c.args.calls.now c.args.number c.cut.new.self c.if-number-calls.true c.cut.ensures

pub returns-else-number-calls : goal.returns-else-number-calls
returns-else-number-calls c = cut_none c.args.calls.now c.args.number c.if-number-calls.false
