use Rattle.std.proofs.Common.{◌≡◌, ◌≢◌, ◌∙◌, true, sym, length, get_or, refl, arith}
use Rattle.std.proofs.lemmas.Bool.{le-ltb}
use Rattle.dep_index.specs.Table.Ordered.{is_slot}
use Rattle.dep_index.proofs.OrderLemmas.{none_past, any_slot, slot_below, place_tells, place_past}
use Rattle.dep_index.proofs.table.order.holds.Goals as goal

pub returns-then-slot-places : goal.returns-then-slot-places
returns-then-slot-places c = sym (none_past (length c.args.places.now) c.args.slot c.args.entries.now c.requires.within (omega arith))

pub returns-then-place : goal.returns-then-place
returns-then-place c =
    let slot : is_slot c.args.slot ≡ true = slot_below c.args.slot (length c.args.places.now) (omega arith) c.requires.few in
    c.contains.ensures.value ∙ sym (any_slot c.args.slot c.args.entries.now slot)

pub returns-then-place-entries : goal.returns-then-place-entries
returns-then-place-entries c =
    let slot : is_slot c.args.slot ≡ true = slot_below c.args.slot (length c.args.places.now) (omega arith) c.requires.few in
    let free : get_or c.args.places.now c.args.slot 0 ≢ 4294967295 = λ e. omega (arith, e) in
    place_tells c.args.places.now c.args.entries.now c.args.slot (get_or c.args.places.now c.args.slot 0) c.requires.placed slot refl free (omega arith)

pub returns-else-place-entries : goal.returns-else-place-entries
returns-else-place-entries c =
    let slot : is_slot c.args.slot ≡ true = slot_below c.args.slot (length c.args.places.now) (omega arith) c.requires.few in
    let free : get_or c.args.places.now c.args.slot 0 ≢ 4294967295 = λ e. omega (arith, e) in
    le-ltb (get_or c.args.places.now c.args.slot 0) (length c.args.entries.now) (omega arith)
    ∙ sym (place_past c.args.places.now c.args.entries.now c.args.slot (get_or c.args.places.now c.args.slot 0) c.requires.placed slot refl free (omega arith))
