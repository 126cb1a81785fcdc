use Rattle.std.proofs.Common.{◌≡◌, ◌∙◌, ◌++◌, ◌∷◌, [], ◌+◌, true, List, ℕ, ap, sym, length, arith}
use Rattle.std.proofs.lemmas.List.{length-append}
use Rattle.dep_index.specs.Table.Ordered.{Ordered, slots_in, is_slot}
use Rattle.dep_index.proofs.OrderLemmas.{slots_push, slot_below, ordered_is}
use Rattle.dep_index.proofs.table.order.Order.push.Goals as goal

pub invariant_of-self : goal.invariant_of-self
invariant_of-self c =
    let room : length c.self.inside.places.items ≡ c.args.self.now.room = ap (λ (o : Ordered). o.room) c.self.view_is in
    let slot : is_slot c.args.slot ≡ true = slot_below c.args.slot c.args.self.now.room c.requires.slot (omega (arith, room)) in
    let slots : slots_in c.append.new.entries.items ≡ slots_in c.make_room.new.entries.items ++ c.args.slot ∷ [] = ap slots_in c.append.ensures.after ∙ slots_push c.make_room.new.entries.items c.args.slot slot in
    let longer : length (slots_in c.append.new.entries.items) ≡ length (slots_in c.make_room.new.entries.items) + 1 = ap length slots ∙ length-append (slots_in c.make_room.new.entries.items) (c.args.slot ∷ []) in
    let used : length c.append.new.entries.items ≡ length c.make_room.new.entries.items + 1 = ap length c.append.ensures.after ∙ length-append c.make_room.new.entries.items (c.args.slot ∷ []) in
    record {
      kept = record {
        sound = c.append.ensures.sound;
        few = omega arith;
        room = omega arith;
        spare_room = omega arith;
        blocks = omega arith;
        used = omega (arith, used);
      };
      len_is = omega (arith, longer, ap length c.make_room.ensures.slots, c.self.invariant.len_is);
    }

pub returns : goal.returns
returns c =
    let room : length c.self.inside.places.items ≡ c.args.self.now.room = ap (λ (o : Ordered). o.room) c.self.view_is in
    let slot : is_slot c.args.slot ≡ true = slot_below c.args.slot c.args.self.now.room c.requires.slot (omega (arith, room)) in
    ordered_is _ _ _ _
    (ap slots_in c.append.ensures.after
    ∙ slots_push c.make_room.new.entries.items c.args.slot slot
    ∙ ap (λ (ys : List ℕ). ys ++ c.args.slot ∷ []) (c.make_room.ensures.slots ∙ ap (λ (o : Ordered). o.slots) c.self.view_is))
    (c.append.ensures.places ∙ c.make_room.ensures.places ∙ room)
