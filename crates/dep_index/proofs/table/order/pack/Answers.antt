use Rattle.std.proofs.Common.{◌≡◌, ◌*◌, ◌≤◌, ◌∙◌, ℕ, Vec, ap, sym, length, subst, List, arith, not, eqb}
use Rattle.std.specs.declared.alloc.Global.{Global}
use Rattle.std.specs.Vec.{vec_capacity}
use Rattle.dep_index.specs.Table.Ordered.{slots_in, IsSound}
use Rattle.dep_index.proofs.OrderLemmas.{few_slots, filter_short}
use Rattle.dep_index.proofs.table.order.pack.Goals as goal

pub refill-requires-clause-short : goal.refill-requires-clause-short
refill-requires-clause-short c =
    let from : length c.deref.result.now ≡ length c.args.entries.now.items = ap length c.deref.ensures.value ∙ ap (λ (v : Vec ℕ Global). length v.items) c.swap.ensures.y_after in
    few_slots c.deref.result.now 131070 (omega (arith, from))

pub refill-requires-clause-room : goal.refill-requires-clause-room
refill-requires-clause-room c =
    let from : length c.deref.result.now ≡ length c.args.entries.now.items = ap length c.deref.ensures.value ∙ ap (λ (v : Vec ℕ Global). length v.items) c.swap.ensures.y_after in
    let room : vec_capacity c.clear.new.self ≡ vec_capacity c.args.spare.now = c.clear.ensures.capacity ∙ ap vec_capacity c.swap.ensures.x_after in
    few_slots c.deref.result.now _ (omega (arith, from, room))

pub refill-requires-clause-blocks : goal.refill-requires-clause-blocks
refill-requires-clause-blocks c =
    let from : length c.deref.result.now ≡ length c.args.entries.now.items = ap length c.deref.ensures.value ∙ ap (λ (v : Vec ℕ Global). length v.items) c.swap.ensures.y_after in
    few_slots c.deref.result.now _ (omega (arith, from))

pub returns-clause-kept : goal.returns-clause-kept
returns-clause-kept c =
    let from : length c.deref.result.now ≡ length c.args.entries.now.items = ap length c.deref.ensures.value ∙ ap (λ (v : Vec ℕ Global). length v.items) c.swap.ensures.y_after in
    let room : vec_capacity c.clear.new.self ≡ vec_capacity c.args.spare.now = c.clear.ensures.capacity ∙ ap vec_capacity c.swap.ensures.x_after in
    let spare_room : vec_capacity c.swap.new.y ≡ vec_capacity c.args.entries.now = ap vec_capacity c.swap.ensures.y_after in
    let short : length (slots_in c.deref.result.now) ≤ length c.args.entries.now.items = few_slots c.deref.result.now _ (omega (arith, from)) in
    let less : length c.refill.new.entries.items ≤ length (slots_in c.deref.result.now) =
    subst (λ (n : ℕ). n ≤ length (slots_in c.deref.result.now)) (sym (ap length c.refill.ensures.after)) (filter_short (λ s. not (eqb s c.args.without)) (slots_in c.deref.result.now)) in
    record {
      sound = c.refill.ensures.sound;
      few = omega arith;
      room = omega (arith, room);
      spare_room = omega (arith, spare_room);
      blocks = omega arith;
      used = omega (arith, short, less);
    }
