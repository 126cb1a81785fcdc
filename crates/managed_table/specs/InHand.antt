-- A caller's pass that has a worker's leaf in hand, and one that has let it go.
use Rattle.std.specs.Prelude.{◌≡◌, ℕ, List}
use Rattle.atomic_table.specs.declared.shared.Seat.{Seat}
use Rattle.dep_index.specs.declared.table.calls.Call.{Call}
use Rattle.dep_index.specs.declared.table.calls.Reply.{Reply}
use Rattle.root_row.specs.declared.view.AtomicStep.{AtomicStep}
use Rattle.root_row.specs.Seats.{Seated}
use Rattle.root_row.specs.declared.view.SeatName.TheVariants as name_is
use Rattle.managed_table.specs.declared.view.Pass.{Pass}
use Rattle.managed_table.specs.declared.view.Passes.{Passes}
use Rattle.managed_table.specs.Kept.{shown, leaf_fits}
use Rattle.managed_table.specs.Turns.{pass_of, HasTaken, MadeOneCall}
use Rattle.managed_table.specs.Passes.{IsFree}
use Rattle.managed_table.specs.Callers.{ManagedIs}

-- the pass p has taken the lock of the worker's leaf, of this table, and the leaf has made these steps since
pub record HasLeaf (table : ManagedIs) (worker : ℕ) (p : Pass) (seat : Seat Seated Passes) : Type 0 where
  pub id : seat.table_id ≡ table.leaves
  pub row : p.row.value ≡ table.row
  pub steps : List AtomicStep
  pub took : HasTaken leaf_fits shown worker steps p seat.me

-- the pass p has made one turn more, in which the worker's leaf made this one call, which was answered so
pub record LeafMadeIt (table : ManagedIs) (worker : ℕ) (call : Call) (reply : Reply) (p : Pass) (seat : Seat Seated Passes) : Type 0 where
  pub free : IsFree table.leaves table.row seat
  pub made : MadeOneCall table.row worker (name_is.Leaf worker) call reply p (pass_of seat.me.0)
