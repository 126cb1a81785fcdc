use Rattle.std.proofs.Common.{◌≡◌, ◌+◌, ◌-◌, ◌<◌, ◌/◌, get_or, length, refl, arith}
use Rattle.std.proofs.lemmas.List.{get_or_read}
use Rattle.dep_index.proofs.OrderLemmas.{counted_some, counted_gap}
use Rattle.dep_index.proofs.table.order.vacate.Goals as goal

pub overflow_sub-index_mut : goal.overflow_sub-index_mut
overflow_sub-index_mut c =
    let some : 0 < get_or c.args.counts.now.items (c.args.place / 256) 0 = counted_some c.args.counts.now.items c.args.entries.now.items c.args.place (c.args.place / 256) c.requires.counted c.requires.within c.requires.slot refl in
    let within : c.args.place / 256 < length c.args.counts.now.items = omega (arith, c.requires.within, c.requires.blocks) in
    let read : c.index_mut-2.result.now ≡ get_or c.args.counts.now.items (c.args.place / 256) 0 = get_or_read c.args.counts.now.items (c.args.place / 256) c.index_mut-2.result.now within c.index_mut-2.ensures.value 0 in
    omega (arith, some, read)

pub returns-clause-counted : goal.returns-clause-counted
returns-clause-counted c =
    let some : 0 < get_or c.args.counts.now.items (c.args.place / 256) 0 = counted_some c.args.counts.now.items c.args.entries.now.items c.args.place (c.args.place / 256) c.requires.counted c.requires.within c.requires.slot refl in
    let within : c.args.place / 256 < length c.args.counts.now.items = omega (arith, c.requires.within, c.requires.blocks) in
    let read : c.index_mut-2.result.now ≡ get_or c.args.counts.now.items (c.args.place / 256) 0 = get_or_read c.args.counts.now.items (c.args.place / 256) c.index_mut-2.result.now within c.index_mut-2.ensures.value 0 in
    let one : (c.index_mut-2.result.now - 1) + 1 ≡ get_or c.args.counts.now.items (c.args.place / 256) 0 = omega (arith, some, read) in
    counted_gap c.args.counts.now.items c.args.entries.now.items c.args.place (c.args.place / 256) (c.index_mut-2.result.now - 1) c.requires.counted c.requires.within c.requires.slot refl one c.requires.blocks
