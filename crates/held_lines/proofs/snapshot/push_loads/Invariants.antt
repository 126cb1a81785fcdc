use Rattle.std.proofs.Common.{◌≡◌, ℕ, ◌++◌, take}
use Rattle.std.specs.List.{flat_map}
use Rattle.dep_index.specs.Table.{state_of}
use Rattle.modprobe.specs.Setup.{name_at}
use Rattle.held_lines.specs.Snapshots.{texts_in, load_lines}
use Rattle.held_lines.proofs.snapshot.push_loads.Given as goal

abbrev pub invariant-loop-place : goal.invariant-loop-place
invariant-loop-place g l =
    texts_in l.lines.items ≡ texts_in l.initial.lines.items
    ++ flat_map (λ (slot : ℕ). load_lines (name_at l.setup slot) (state_of (g.M.Modules.table l.table).book slot)) (take l.place (g.M.Modules.table l.table).book.order)
