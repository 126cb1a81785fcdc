-- Which slots are marked as needs already. These words serve proofs alone.
use Rattle.std.specs.Prelude.{◌≡◌, ℕ, ◌<◌, ◌≤◌, ◌==◌, nat_eq, List, length, slice_index}
use Rattle.std.specs.List.{list_any}

-- the mark of a slot is the turn if the slot was found, and else less
pub record IsMarked (turn : ℕ) (marks : List ℕ) (found : List ℕ) : Type 0 where
  pub told : (k : ℕ) → k < length marks → (slice_index marks k == turn) ≡ list_any (nat_eq k) found
  pub past : (k : ℕ) → slice_index marks k ≤ turn
