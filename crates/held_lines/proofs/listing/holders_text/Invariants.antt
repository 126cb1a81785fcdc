use Rattle.std.proofs.Common.{◌≡◌, ℕ, List, ◌++◌, drop}
use Rattle.dep_index.specs.Table.{count_of}
use Rattle.held_lines.specs.Listings.{count_line, each_line, holders_text}
use Rattle.held_lines.proofs.listing.holders_text.Given as goal

abbrev pub invariant-loop-number : goal.invariant-loop-number
invariant-loop-number l =
    l.text.items ++ each_line (λ (number : ℕ) (holder : List ℕ). count_line holder (count_of l.holders.held.table number l.slot)) l.number (drop l.number l.holders.held.names)
    ≡ holders_text l.holders.held l.slot
