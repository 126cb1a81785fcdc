use Rattle.std.proofs.Common.{◌≡◌, ◌<◌, ℕ, take, length, All}
use Rattle.std.specs.Option.{unwrap_or}
use Rattle.held_lines.specs.Holds.{to_take}
use Rattle.held_lines.proofs.gets.to_take.Given as goal

abbrev pub invariant-loop-slot : goal.invariant-loop-slot
invariant-loop-slot g l = record {
  taken : l.taken.items ≡ to_take l.again (unwrap_or l.number (length (g.M.Modules.table l.table).rows)) (g.M.Modules.table l.table) (take l.slot-index l.slots);
  within : All (λ (slot : ℕ). slot < length (g.M.Modules.catalogue l.table)) l.taken.items;
}
