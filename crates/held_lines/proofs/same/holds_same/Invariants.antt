use Rattle.std.proofs.Common.{◌≡◌, ℕ, ◌<◌, get_or}
use Rattle.dep_index.specs.Table.{count_of}
use Rattle.held_lines.proofs.same.holds_same.Given as goal

abbrev pub invariant-loop-place : goal.invariant-loop-place
invariant-loop-place g l =
    (p : ℕ) → p < l.place → count_of (g.M.Modules.table l.other) l.number (get_or (g.M.Modules.table l.table).book.order p 0)
    ≡ count_of (g.M.Modules.table l.table) l.number (get_or (g.M.Modules.table l.table).book.order p 0)
