-- A pass between the steps of a turn.
use Rattle.std.specs.Prelude.{◌≡◌, ℕ, List, [], ◌∷◌, Some, None}
use Rattle.std.specs.Fn.{Once, FnOnceTakesAtMut, FnOnceReturnsAtMut}
use denote.Ref.{MutBor}
use Rattle.atomic_table.specs.Table.{Me}
use Rattle.atomic_table.specs.Seated.{TableId}
use Rattle.atomic_table.specs.declared.shared.Seat.{Seat}
use Rattle.root_row.specs.declared.view.SeatAnswer.{SeatAnswer}
use Rattle.root_row.specs.declared.view.AtomicStep.{AtomicStep}
use Rattle.root_row.specs.Seats.{RowIs, Seated}
use Rattle.root_row.specs.History.{StartsWith}
use Rattle.managed_table.specs.declared.view.Pass.{Pass}
use Rattle.managed_table.specs.declared.view.Passes.{Passes}
use Rattle.managed_table.specs.Kept.{seen}
use Rattle.managed_table.specs.Turns.{taken, alone, pass_of, with_further, further_of}

module _ {T : Type 0} where
  -- the seat has one pass, which has no lock
  abbrev pub IsIdle : Seat T Passes → Type 0
  IsIdle seat = (seat.me.0 ≡ alone (pass_of seat.me.0)) × ((pass_of seat.me.0).taken ≡ None) × (seat.me.1 ≡ [])

  -- and it is of these locks of this row
  abbrev pub IsFree : TableId → RowIs → Seat T Passes → Type 0
  IsFree id row seat = (seat.table_id ≡ id) × ((pass_of seat.me.0).row.value ≡ row) × IsIdle seat

-- the one pass is the last further one that came from the other, and has done nothing
pub record IsLastOf (p q : Pass) : Type 0 where
  pub before : Pass
  pub parent : p ≡ with_further before
  pub further : q ≡ further_of before

-- the pass has the lock's value in hand, which fits and begins with what was seen at first
pub record HasInHand {T : Type 0} (fits : RowIs → ℕ → T → Type 0) (shown : T → Seated)
    (lock : ℕ) (p : Pass) (me : Me T Passes) : Type 0 where
  pub value : T
  pub before : List SeatAnswer
  pub steps : List AtomicStep
  pub hand : me.1 ≡ (lock, value) ∷ []
  pub view : me.0 ≡ alone p
  pub has : p.taken ≡ Some (taken lock before steps)
  pub fit : fits p.row.value lock value
  pub grows : StartsWith (seen (shown value)) before

module _ {T F A : Type 0} (g : Once F (MutBor T × Unit {0}) (A × (MutBor T × Unit {0}))) (fits : RowIs → ℕ → T → Type 0)
    (shown : T → Seated) where
  -- f may be called at each value that fits, which then fits again, and begins with what it had seen
  abbrev pub MayActOn : RowIs → ℕ → F → Type 0
  MayActOn row lock f =
      (x : T) → fits row lock x → FnOnceTakesAtMut g f x
      × ((r : A) (y : T) → FnOnceReturnsAtMut g f x r y → fits row lock y × StartsWith (seen (shown y)) (seen (shown x)))

module _ {T F A : Type 0} where
  -- the value in hand was changed by a call of f, which answered r
  pub record ActedOn (g : Once F (MutBor T × Unit {0}) (A × (MutBor T × Unit {0})))
      (lock : ℕ) (f : F) (r : A) (hand hand' : List (ℕ × T)) : Type 0 where
    pub taken : T
    pub left : T
    pub was : hand ≡ (lock, taken) ∷ []
    pub is : hand' ≡ (lock, left) ∷ []
    pub did : FnOnceReturnsAtMut g f taken r left
