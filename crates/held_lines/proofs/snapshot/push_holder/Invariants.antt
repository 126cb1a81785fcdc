use Rattle.std.proofs.Common.{◌≡◌, ℕ, ◌++◌, take}
use Rattle.std.specs.Prelude.{replicate}
use Rattle.std.specs.List.{flat_map}
use Rattle.dep_index.specs.Table.{count_of}
use Rattle.modprobe.specs.Setup.{name_at}
use Rattle.held_lines.specs.Snapshots.{texts_in, get_line}
use Rattle.held_lines.proofs.snapshot.push_holder.Given as goal

abbrev pub invariant-loop-place : goal.invariant-loop-place
invariant-loop-place l =
    texts_in l.lines.items ≡ texts_in l.initial.lines.items
    ++ flat_map (λ (slot : ℕ). replicate (count_of l.holders.held.table l.number slot) (get_line l.holder (name_at l.setup slot))) (take l.place l.holders.held.table.book.order)
