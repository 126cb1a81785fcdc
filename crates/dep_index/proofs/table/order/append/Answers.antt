use Rattle.std.proofs.Common.{◌≡◌, ◌+◌, ◌++◌, ◌∷◌, [], ◌∙◌, ◌<◌, ◌≤◌, ◌*◌, ◌/◌, true, ap, sym, length, set, get_or, subst, ℕ, refl, arith}
use Rattle.std.proofs.lemmas.List.{length-set, get_or_read}
use Rattle.dep_index.specs.Table.Ordered.{is_slot, AreWithin}
use Rattle.dep_index.proofs.OrderLemmas.{counts_small, counted_push, within_push, placed_push, slot_below}
use Rattle.dep_index.proofs.table.order.append.Goals as goal

pub overflow_add-index_mut : goal.overflow_add-index_mut
overflow_add-index_mut c =
    let end : c.len-place.result ≡ length c.args.entries.now.items = omega arith in
    let within : c.len-place.result / 256 < length c.args.counts.now.items = omega (arith, end, c.requires.block) in
    let read : c.index_mut-2.result.now ≡ get_or c.args.counts.now.items (c.len-place.result / 256) 0 = get_or_read c.args.counts.now.items (c.len-place.result / 256) c.index_mut-2.result.now within c.index_mut-2.ensures.value 0 in
    let small : get_or c.args.counts.now.items (c.len-place.result / 256) 0 ≤ 256 = counts_small c.args.counts.now.items c.args.entries.now.items c.requires.sound.counted (c.len-place.result / 256) in
    omega (arith, small, read)

pub returns-clause-sound : goal.returns-clause-sound
returns-clause-sound c =
    let slot : is_slot c.args.slot ≡ true = slot_below c.args.slot (length c.args.places.now.items) c.requires.slot c.requires.few in
    let end : c.len-place.result ≡ length c.args.entries.now.items = omega arith in
    let within : c.len-place.result / 256 < length c.args.counts.now.items = omega (arith, end, c.requires.block) in
    let read : c.index_mut-2.result.now ≡ get_or c.args.counts.now.items (c.len-place.result / 256) 0 = get_or_read c.args.counts.now.items (c.len-place.result / 256) c.index_mut-2.result.now within c.index_mut-2.ensures.value 0 in
    let block : c.len-place.result / 256 ≡ length c.args.entries.now.items / 256 = ap (λ (n : ℕ). n / 256) end in
    let one : c.index_mut-2.result.now + 1 ≡ get_or c.args.counts.now.items (c.len-place.result / 256) 0 + 1 = ap (λ (n : ℕ). n + 1) read in
    rw c.push_reserved.ensures.items (record {
      within =
          subst (λ (n : ℕ). AreWithin n (c.args.entries.now.items ++ c.args.slot ∷ [])) (sym (length-set c.args.places.now.items c.args.slot c.place_behind.result))
          (within_push (length c.args.places.now.items) c.args.entries.now.items c.args.slot c.requires.sound.within c.requires.slot);
      placed =
          placed_push c.args.places.now.items c.args.entries.now.items c.args.slot c.place_behind.result c.requires.sound.placed c.requires.slot
          (λ free. (c.place_behind.ensures.place free ∙ ap length c.deref.ensures.value, rw c.deref.ensures.value at (c.place_behind.ensures.new free)));
      counted = counted_push c.args.counts.now.items c.args.entries.now.items c.args.slot (c.len-place.result / 256) (c.index_mut-2.result.now + 1) c.requires.sound.counted slot block one c.requires.block;
    })
