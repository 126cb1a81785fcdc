use Rattle.std.proofs.Common.{◌≡◌, ℕ, List, ◌++◌, drop}
use Rattle.std.specs.Prelude.{codes}
use Rattle.held_lines.specs.Listings.{each_line, rows_text, all_text}
use Rattle.held_lines.proofs.listing.all_text.Given as goal

abbrev pub invariant-loop-number : goal.invariant-loop-number
invariant-loop-number l =
    l.text.items ++ each_line (λ (number : ℕ) (holder : List ℕ). rows_text l.setup l.holders.held.table (holder ++ codes " ") number) l.number (drop l.number l.holders.held.names)
    ≡ all_text l.setup l.holders.held
