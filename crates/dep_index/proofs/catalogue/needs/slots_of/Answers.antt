use Rattle.std.proofs.Common.{◌≡◌, ◌∙◌, ◌<◌, refl, ap, sym, length, Some, is_none, arith, take_all, ℕ, Vec}
use Rattle.std.specs.declared.alloc.Global.{Global}
use Rattle.std.specs.Map.Iter.{deref_pair}
use Rattle.std.specs.Option.{option_map}
use Rattle.std.specs.List.{slice_get, list_any}
use Rattle.std.proofs.lemmas.List.{length-map}
use Rattle.dep_index.specs.Catalogue.{modules_of}
use Rattle.dep_index.specs.Catalogue.Descriptions.{descriptions_in, description_of}
use Rattle.dep_index.specs.Catalogue.Exports.{slot_at}
use Rattle.dep_index.proofs.SlotLemmas.{length-modules_of}
use Rattle.dep_index.proofs.NeedLemmas.{slot_within, next_slot}
use Rattle.dep_index.proofs.catalogue.needs.slots_of.Goals as goal

pub needs_of-requires-clause-slots : goal.needs_of-requires-clause-slots
needs_of-requires-clause-slots c =
    slot_within (descriptions_in c.args.modules.now.entries) (length c.loop-slot.marks) c.args.exporters.now c.requires.links (c.loop-slot.invariant.len ∙ sym (length-map c.args.modules.now.entries description_of))

pub loop-slot-preserved : goal.loop-slot-preserved
loop-slot-preserved c =
    let entry = deref_pair c.unwrap.result in
    let here : slice_get c.args.modules.now.entries c.loop-slot.slot ≡ Some entry = sym c.get_index.ensures.entry ∙ ap (option_map deref_pair) c.unwrap.ensures in
    let below : c.loop-slot.slot < length c.args.modules.now.entries = omega arith in
    record {
      slots =
          c.in_ok-push.ensures.added
          ∙ next_slot c.args.modules.now.entries c.args.exporters.now c.loop-slot.slot entry c.loop-slot.slots entry.1.needed_symbols c.in_ok-needs.needs.slots.items c.in_ok-needs.needs.unknown_symbol
          c.requires.links here below refl c.loop-slot.invariant.slots c.in_ok-needs.ensures.needs
          c.in_ok-needs.ensures.unknown;
      len = omega arith;
      marks = c.in_ok-needs.ensures.marks;
    }

pub returns : goal.returns
returns c =
    let all : length (modules_of (descriptions_in c.args.modules.now.entries)) ≡ length c.args.modules.now.entries =
    length-modules_of (descriptions_in c.args.modules.now.entries) ∙ length-map c.args.modules.now.entries description_of in
    c.loop-slot.invariant.slots ∙ take_all c.loop-slot.slot (modules_of (descriptions_in c.args.modules.now.entries)) (omega (arith, all))
