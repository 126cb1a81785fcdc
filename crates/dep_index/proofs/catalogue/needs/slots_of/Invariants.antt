use Rattle.std.proofs.Common.{◌≡◌, ◌≤◌, ℕ, take, length}
use Rattle.std.specs.Prelude.{slice_index}
use Rattle.dep_index.specs.Catalogue.{modules_of}
use Rattle.dep_index.specs.Catalogue.Descriptions.{descriptions_in}
use Rattle.dep_index.proofs.catalogue.needs.slots_of.Given as goal

-- the slots before this one are done, and no mark is of a later one
abbrev pub invariant-loop-slot : goal.invariant-loop-slot
invariant-loop-slot l = record {
  slots : l.slots ≡ take l.slot (modules_of (descriptions_in l.modules.entries));
  len : length l.marks ≡ length l.modules.entries;
  marks : (k : ℕ) → slice_index l.marks k ≤ l.slot;
}
