use Rattle.std.proofs.Common.{◌≡◌, ◌<◌, ◌∙◌, ℕ, not, eqb, true, ap, sym, length, subst, get_or, arith}
use Rattle.dep_index.specs.Table.Ordered.{slots_in, is_slot}
use Rattle.dep_index.proofs.OrderLemmas.{fill_room}
use Rattle.dep_index.proofs.table.order.refill.Goals as goal

pub append-requires-clause-room : goal.append-requires-clause-room
append-requires-clause-room c =
    let slot : is_slot (get_or c.args.from.now c.loop-entry.entry-index 0) ≡ true = sym c.is_slot.ensures ∙ c.if-is_slot.true in
    let fewer = fill_room (λ s. not (eqb s c.args.without)) c.args.from.now c.loop-entry.entry-index c.loop-entry-test.true slot in
    omega (arith, fewer, ap length c.loop-entry.invariant.after, c.loop-entry.invariant.capacity, c.requires.room)

pub append-requires-clause-short : goal.append-requires-clause-short
append-requires-clause-short c =
    let slot : is_slot (get_or c.args.from.now c.loop-entry.entry-index 0) ≡ true = sym c.is_slot.ensures ∙ c.if-is_slot.true in
    let fewer = fill_room (λ s. not (eqb s c.args.without)) c.args.from.now c.loop-entry.entry-index c.loop-entry-test.true slot in
    omega (arith, fewer, ap length c.loop-entry.invariant.after, c.requires.short)

pub append-requires-clause-block : goal.append-requires-clause-block
append-requires-clause-block c =
    let slot : is_slot (get_or c.args.from.now c.loop-entry.entry-index 0) ≡ true = sym c.is_slot.ensures ∙ c.if-is_slot.true in
    let fewer = fill_room (λ s. not (eqb s c.args.without)) c.args.from.now c.loop-entry.entry-index c.loop-entry-test.true slot in
    omega (arith, fewer, ap length c.loop-entry.invariant.after, c.loop-entry.invariant.counts, c.requires.blocks)
