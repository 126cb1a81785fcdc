use Rattle.std.proofs.Common.{sym}
use Rattle.step_core.proofs.Premises.{in_range_of_locks, exchange_below, can_write, word_small, departs_from}
use Rattle.step_core.proofs.state.State.go.Goals as goal

pub lock-requires-clause-range : goal.lock-requires-clause-range
lock-requires-clause-range c = in_range_of_locks c.args.slots.now _ c.args.self.now c.args.thread c.in-Some.activity c.requires.sound (sym c.in-Some.ensures)

pub word_step-found-requires-clause-range : goal.word_step-found-requires-clause-range
word_step-found-requires-clause-range c = (c.requires.sound.placed c.args.thread c.in-Some.activity (sym c.in-Some.ensures)).range

pub word_step-found-requires-clause-small : goal.word_step-found-requires-clause-small
word_step-found-requires-clause-small c = word_small c.args.slots.now _ c.args.self.now _ c.requires.sound ((c.requires.sound.placed c.args.thread c.in-Some.activity (sym c.in-Some.ensures)).range.0)

pub word_step-found-requires-clause-held : goal.word_step-found-requires-clause-held
word_step-found-requires-clause-held c = λ w m call one. departs_from c.args.slots.now _ c.args.self.now c.args.thread c.in-Some.activity w m c.requires.sound (sym c.in-Some.ensures) c.in-Word.is call one

pub exchange-requires-clause-below : goal.exchange-requires-clause-below
exchange-requires-clause-below c = exchange_below c.args.slots.now _ c.args.self.now c.args.thread c.in-Some.activity _ c.requires.sound (sym c.in-Some.ensures) c.in-Exchange.is

pub write-requires-clause-write : goal.write-requires-clause-write
write-requires-clause-write c = can_write c.args.slots.now _ c.args.self.now c.args.thread c.in-Some.activity c.requires.sound (sym c.in-Some.ensures) c.in-Write.is

pub finish-requires-clause-range : goal.finish-requires-clause-range
finish-requires-clause-range c = in_range_of_locks c.args.slots.now _ c.args.self.now c.args.thread c.in-Some.activity c.requires.sound (sym c.in-Some.ensures)
