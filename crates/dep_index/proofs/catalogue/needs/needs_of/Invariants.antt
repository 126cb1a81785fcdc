use Rattle.std.proofs.Common.{◌≡◌, ◌+◌, ◌||◌, [], is_none, length}
use Rattle.std.specs.List.{list_any}
use Rattle.dep_index.specs.Catalogue.Exports.{needs_by, slot_at}
use Rattle.dep_index.specs.Catalogue.Marks.{IsMarked}
use Rattle.dep_index.proofs.catalogue.needs.needs_of.Given as goal

-- the symbols that are left go on from the needs that are found, which are marked, and from what is known of the symbols
abbrev pub invariant-symbols : goal.invariant-symbols
invariant-symbols l = record {
  needs : needs_by l.exporters l.slot l.slots.items l.left ≡ needs_by l.exporters l.slot [] l.symbols;
  marked : IsMarked (l.slot + 1) l.marks l.slots.items;
  unknown : (l.unknown_symbol || list_any (λ s. is_none (slot_at l.exporters s)) l.left) ≡ list_any (λ s. is_none (slot_at l.exporters s)) l.symbols;
}

abbrev pub decreases-symbols : goal.decreases-symbols
decreases-symbols l = length l.left
