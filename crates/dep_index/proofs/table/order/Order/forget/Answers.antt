use Rattle.std.proofs.Common.{◌≡◌, ◌≢◌, ◌∙◌, ◌<◌, ◌+◌, ◌-◌, ◌≤◌, not, eqb, true, false, refl, List, ℕ, ap, sym, length, get_or, subst, set, arith}
use Rattle.std.specs.List.{filter, list_any}
use Rattle.std.proofs.lemmas.List.{length-set, get_or_read}
use Rattle.dep_index.specs.Table.Ordered.{Ordered, slots_in, is_slot, AreWithin, IsPlaced}
use Rattle.dep_index.proofs.OrderLemmas.{slots_of_filtered, slot_below, ordered_is, some_slot, one_slot_less, within_gap, placed_gap, slots_gap, filter_unmissed, Stands, stands}
use Rattle.dep_index.proofs.table.order.Order.forget.Goals as goal

pub invariant_of-self : goal.invariant_of-self
invariant_of-self c =
    let same : slots_in c.pack.new.entries.items ≡ c.pack.new.entries.items = ap slots_in c.pack.ensures.after ∙ slots_of_filtered (λ s. not (eqb s c.args.slot)) c.self.inside.entries.items ∙ sym c.pack.ensures.after in
    record { kept = c.pack.ensures.kept; len_is = omega (arith, ap length same) }

pub returns-then-place : goal.returns-then-place
returns-then-place c =
    ordered_is _ _ _ _
    (ap slots_in c.pack.ensures.after
    ∙ slots_of_filtered (λ s. not (eqb s c.args.slot)) c.self.inside.entries.items
    ∙ ap (λ (ys : List ℕ). filter (λ s. not (eqb s c.args.slot)) ys) (ap (λ (o : Ordered). o.slots) c.self.view_is))
    (c.pack.ensures.places ∙ ap (λ (o : Ordered). o.room) c.self.view_is)

pub vacate-requires-clause-within : goal.vacate-requires-clause-within
vacate-requires-clause-within c =
    let room : length c.self.inside.places.items ≡ c.args.self.now.room = ap (λ (o : Ordered). o.room) c.self.view_is in
    let below : c.args.slot < length c.self.inside.places.items = omega (arith, room) in
    let slot : is_slot c.args.slot ≡ true = slot_below c.args.slot (length c.self.inside.places.items) below c.self.invariant.kept.few in
    let read : c.index-place.result.now ≡ get_or c.self.inside.places.items c.args.slot 0 = get_or_read c.self.inside.places.items c.args.slot c.index-place.result.now below c.index-place.ensures 0 in
    let free : c.index-place.result.now ≢ 4294967295 = λ e. c.if-place.false e in
    let any : list_any (λ s. eqb s c.args.slot) (slots_in c.self.inside.entries.items) ≡ true =
    sym (c.holds.ensures ∙ ap (λ (ys : List ℕ). list_any (λ s. eqb s c.args.slot) (slots_in ys)) c.deref.ensures.value) ∙ c.if-holds.true in
    let s : Stands c.self.inside.entries.items c.args.slot c.index-place.result.now = stands c.self.inside.places.items c.self.inside.entries.items c.args.slot c.index-place.result.now c.self.invariant.kept.sound.placed slot read free any in
    s.within

pub vacate-requires-clause-slot : goal.vacate-requires-clause-slot
vacate-requires-clause-slot c =
    let room : length c.self.inside.places.items ≡ c.args.self.now.room = ap (λ (o : Ordered). o.room) c.self.view_is in
    let below : c.args.slot < length c.self.inside.places.items = omega (arith, room) in
    let slot : is_slot c.args.slot ≡ true = slot_below c.args.slot (length c.self.inside.places.items) below c.self.invariant.kept.few in
    let read : c.index-place.result.now ≡ get_or c.self.inside.places.items c.args.slot 0 = get_or_read c.self.inside.places.items c.args.slot c.index-place.result.now below c.index-place.ensures 0 in
    let free : c.index-place.result.now ≢ 4294967295 = λ e. c.if-place.false e in
    let any : list_any (λ s. eqb s c.args.slot) (slots_in c.self.inside.entries.items) ≡ true =
    sym (c.holds.ensures ∙ ap (λ (ys : List ℕ). list_any (λ s. eqb s c.args.slot) (slots_in ys)) c.deref.ensures.value) ∙ c.if-holds.true in
    let s : Stands c.self.inside.entries.items c.args.slot c.index-place.result.now = stands c.self.inside.places.items c.self.inside.entries.items c.args.slot c.index-place.result.now c.self.invariant.kept.sound.placed slot read free any in
    s.slot

pub overflow_sub-self : goal.overflow_sub-self
overflow_sub-self c =
    let room : length c.self.inside.places.items ≡ c.args.self.now.room = ap (λ (o : Ordered). o.room) c.self.view_is in
    let below : c.args.slot < length c.self.inside.places.items = omega (arith, room) in
    let slot : is_slot c.args.slot ≡ true = slot_below c.args.slot (length c.self.inside.places.items) below c.self.invariant.kept.few in
    let read : c.index-place.result.now ≡ get_or c.self.inside.places.items c.args.slot 0 = get_or_read c.self.inside.places.items c.args.slot c.index-place.result.now below c.index-place.ensures 0 in
    let free : c.index-place.result.now ≢ 4294967295 = λ e. c.if-place.false e in
    let any : list_any (λ s. eqb s c.args.slot) (slots_in c.self.inside.entries.items) ≡ true =
    sym (c.holds.ensures ∙ ap (λ (ys : List ℕ). list_any (λ s. eqb s c.args.slot) (slots_in ys)) c.deref.ensures.value) ∙ c.if-holds.true in
    let s : Stands c.self.inside.entries.items c.args.slot c.index-place.result.now = stands c.self.inside.places.items c.self.inside.entries.items c.args.slot c.index-place.result.now c.self.invariant.kept.sound.placed slot read free any in
    omega (arith, some_slot c.self.inside.entries.items c.index-place.result.now s.within s.slot, c.self.invariant.len_is)

pub invariant_of-self-then-holds : goal.invariant_of-self-then-holds
invariant_of-self-then-holds c =
    let room : length c.self.inside.places.items ≡ c.args.self.now.room = ap (λ (o : Ordered). o.room) c.self.view_is in
    let below : c.args.slot < length c.self.inside.places.items = omega (arith, room) in
    let slot : is_slot c.args.slot ≡ true = slot_below c.args.slot (length c.self.inside.places.items) below c.self.invariant.kept.few in
    let read : c.index-place.result.now ≡ get_or c.self.inside.places.items c.args.slot 0 = get_or_read c.self.inside.places.items c.args.slot c.index-place.result.now below c.index-place.ensures 0 in
    let free : c.index-place.result.now ≢ 4294967295 = λ e. c.if-place.false e in
    let any : list_any (λ s. eqb s c.args.slot) (slots_in c.self.inside.entries.items) ≡ true =
    sym (c.holds.ensures ∙ ap (λ (ys : List ℕ). list_any (λ s. eqb s c.args.slot) (slots_in ys)) c.deref.ensures.value) ∙ c.if-holds.true in
    let s : Stands c.self.inside.entries.items c.args.slot c.index-place.result.now = stands c.self.inside.places.items c.self.inside.entries.items c.args.slot c.index-place.result.now c.self.invariant.kept.sound.placed slot read free any in
    let after : c.vacate.new.entries.items ≡ set c.self.inside.entries.items c.index-place.result.now 65535 = c.vacate.ensures.after in
    let less : length (slots_in (set c.self.inside.entries.items c.index-place.result.now 65535)) + 1 ≡ length (slots_in c.self.inside.entries.items) = one_slot_less c.self.inside.entries.items c.index-place.result.now s.within s.slot in
    record {
      kept = record {
        sound = record {
          within = subst (λ (ys : List ℕ). AreWithin (length c.self.inside.places.items) ys) (sym after) (within_gap (length c.self.inside.places.items) c.self.inside.entries.items c.index-place.result.now c.self.invariant.kept.sound.within s.within);
          placed = subst (λ (ys : List ℕ). IsPlaced c.self.inside.places.items ys) (sym after) (placed_gap c.self.inside.places.items c.self.inside.entries.items c.index-place.result.now c.self.invariant.kept.sound.placed s.within);
          counted = c.vacate.ensures.counted;
        };
        few = c.self.invariant.kept.few;
        room = omega (arith, c.self.invariant.kept.room, c.vacate.ensures.capacity);
        spare_room = c.self.invariant.kept.spare_room;
        blocks = omega (arith, c.self.invariant.kept.blocks, c.vacate.ensures.counts);
        used = omega (arith, c.self.invariant.kept.used, ap length after, length-set c.self.inside.entries.items c.index-place.result.now 65535);
      };
      len_is = omega (arith, less, ap (λ (ys : List ℕ). length (slots_in ys)) after, c.self.invariant.len_is);
    }

pub returns-then-holds : goal.returns-then-holds
returns-then-holds c =
    let room : length c.self.inside.places.items ≡ c.args.self.now.room = ap (λ (o : Ordered). o.room) c.self.view_is in
    let below : c.args.slot < length c.self.inside.places.items = omega (arith, room) in
    let slot : is_slot c.args.slot ≡ true = slot_below c.args.slot (length c.self.inside.places.items) below c.self.invariant.kept.few in
    let read : c.index-place.result.now ≡ get_or c.self.inside.places.items c.args.slot 0 = get_or_read c.self.inside.places.items c.args.slot c.index-place.result.now below c.index-place.ensures 0 in
    let free : c.index-place.result.now ≢ 4294967295 = λ e. c.if-place.false e in
    let any : list_any (λ s. eqb s c.args.slot) (slots_in c.self.inside.entries.items) ≡ true =
    sym (c.holds.ensures ∙ ap (λ (ys : List ℕ). list_any (λ s. eqb s c.args.slot) (slots_in ys)) c.deref.ensures.value) ∙ c.if-holds.true in
    let s : Stands c.self.inside.entries.items c.args.slot c.index-place.result.now = stands c.self.inside.places.items c.self.inside.entries.items c.args.slot c.index-place.result.now c.self.invariant.kept.sound.placed slot read free any in
    let after : c.vacate.new.entries.items ≡ set c.self.inside.entries.items c.index-place.result.now 65535 = c.vacate.ensures.after in
    ordered_is _ _ _ _
    (ap slots_in after
    ∙ slots_gap c.args.slot c.index-place.result.now c.self.inside.entries.items s.within s.here slot s.only
    ∙ ap (λ (o : Ordered). filter (λ s. not (eqb s c.args.slot)) o.slots) c.self.view_is)
    room

pub returns-else-holds : goal.returns-else-holds
returns-else-holds c =
    let none : list_any (λ s. eqb s c.args.slot) c.args.self.now.slots ≡ false =
    sym (c.holds.ensures ∙ ap (λ (ys : List ℕ). list_any (λ s. eqb s c.args.slot) (slots_in ys)) c.deref.ensures.value ∙ ap (λ (o : Ordered). list_any (λ s. eqb s c.args.slot) o.slots) c.self.view_is) ∙ c.if-holds.false in
    ordered_is _ _ _ _ (sym (filter_unmissed c.args.slot c.args.self.now.slots none)) refl
