-- New readers are of their row.
use Rattle.std.proofs.Common.{◌≡◌, inl, inr, ℕ, List, get_or, refl, sym, subst, arith, ◌∙◌}
use Rattle.std.specs.List.{All}
use Rattle.root_row.specs.Seats.{RowIs, Seated, IsOf}
use Rattle.root_row.specs.Made.{new_reader, AreNew}
use Rattle.root_row.proofs.Replay.{at_or_past, get_or_at}

reader_is_of : (row : RowIs) (k : ℕ) → IsOf row (new_reader row.id row.world k)
reader_is_of row k = (refl, refl)

pub readers_are_of : (row : RowIs) (count : ℕ) (readers : List Seated) → AreNew (new_reader row.id row.world) count readers → All (IsOf row) readers
readers_are_of row count readers are k d below = elim (at_or_past readers k) [
  | inl at ↦
      let is : new_reader row.id row.world k ≡ get_or readers k d = are.1 k at.0 at.1 ∙ sym (get_or_at readers k at.0 d at.1) in
      subst (IsOf row) is (reader_is_of row k)
  | inr past ↦ absurd (omega arith)
]
