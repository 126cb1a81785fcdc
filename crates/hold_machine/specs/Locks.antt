-- Which call has the lock of each module.
use Rattle.std.specs.Prelude.{◌≡◌, ◌⊎◌, ◌<◌, ℕ, List, All, length, slice_index_or, Option, Some, None}

-- the call that has the lock of a module
abbrev pub owner_in : List (Option ℕ) → ℕ → Option ℕ
owner_in owners m = slice_index_or owners m None

-- there is such a lock, and no other call has it
abbrev pub CanHave : List (Option ℕ) → ℕ → ℕ → Type 0
CanHave owners call m = (m < length owners) × ((owner_in owners m ≡ None) ⊎ (owner_in owners m ≡ Some call))

-- each lock that a call has stays its own
abbrev pub AllKept : List (Option ℕ) → List (Option ℕ) → Type 0
AllKept old new = (m c : ℕ) → owner_in old m ≡ Some c → owner_in new m ≡ Some c

-- the call has all these locks
abbrev pub AllHad : ℕ → List ℕ → List (Option ℕ) → Type 0
AllHad call slots owners = All (λ (m : ℕ). owner_in owners m ≡ Some call) slots
