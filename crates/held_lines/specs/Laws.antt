-- What no line does, and what a hold and a release do.
use Rattle.std.specs.Prelude.{◌≡◌, ℕ, ◌<◌, Bool, true, List, length, All}
use Rattle.dep_index.specs.Table.{Table, state_of, count_of, is_held, takes_references}
use Rattle.dep_index.specs.Laws.{IsShaped}
use Rattle.modprobe.specs.Setup.{Setup}
use Rattle.modprobe.specs.Outcomes.{says}
use Rattle.held_table.specs.Held.{Held, number_of}
use Rattle.held_lines.specs.Holds.{to_take}
use Rattle.held_lines.specs.Outcomes.{hold_outcome}

-- What anybody held is still in the table, and live or draining: it was not removed.
abbrev pub KeepsHeld : Table → Table → Type 0
KeepsHeld old new = (m : ℕ) → is_held old m ≡ true → takes_references (state_of new.book m) ≡ true

-- a table with a name and a row of so many slots for each holder
pub record IsOver (s : Setup) (h : Held) : Type 0 where
  pub shape : IsShaped (length s.catalogue) (length h.table.rows) h.table
  pub named : length h.names ≡ length h.table.rows

-- After a hold that is done its holder holds each of its modules.
abbrev pub HoldsAll : Type 0
HoldsAll =
    (s : Setup) (h new : Held) (holder : List ℕ) (again : Bool) (slots text : List ℕ) → IsOver s h → All (λ (m : ℕ). m < length s.catalogue) slots
    → hold_outcome s h holder slots (to_take again (number_of h.names holder) h.table slots) ≡ (says text, new)
    → All (λ (m : ℕ). 0 < count_of new.table (number_of h.names holder) m) slots
