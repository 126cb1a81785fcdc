use Rattle.std.proofs.Common.{◌≡◌, ◌++◌, drop}
use Rattle.held_lines.specs.Listings.{each_line}
use Rattle.held_lines.specs.Snapshots.{texts_in, holder_lines}
use Rattle.held_lines.proofs.snapshot.push_holders.Given as goal

abbrev pub invariant-loop-number : goal.invariant-loop-number
invariant-loop-number l =
    texts_in l.lines.items ++ each_line (holder_lines l.setup l.holders.held.table) l.number (drop l.number l.holders.held.names)
    ≡ texts_in l.initial.lines.items ++ each_line (holder_lines l.setup l.holders.held.table) 0 l.holders.held.names
