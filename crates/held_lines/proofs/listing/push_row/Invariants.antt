use Rattle.std.proofs.Common.{◌≡◌, ℕ, ◌++◌, drop}
use Rattle.dep_index.specs.Table.{count_of}
use Rattle.dep_index.specs.Catalogue.{Description}
use Rattle.held_lines.specs.Listings.{count_line, each_line, rows_text}
use Rattle.held_lines.proofs.listing.push_row.Given as goal

abbrev pub invariant-loop-slot : goal.invariant-loop-slot
invariant-loop-slot g l =
    l.text.items ++ each_line (λ (slot : ℕ) (described : Description). count_line (l.front ++ described.name) (count_of (g.M.Modules.table l.table) l.number slot)) l.slot (drop l.slot l.setup.catalogue)
    ≡ l.initial.text.items ++ rows_text l.setup (g.M.Modules.table l.table) l.front l.number
