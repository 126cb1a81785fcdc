-- Two passes in one view, and a further pass that comes from one.
use Rattle.std.specs.Prelude.{◌≡◌, ◌≢◌, ℕ, List, [], ◌∷◌, ◌++◌}
use mathlib.Core.Option as core
use lib.ListN.{get_elem?}
use Rattle.atomic_table.specs.Table.{Me, Step}
use Rattle.root_row.specs.History.{SeatName}
use Rattle.managed_table.specs.declared.view.Turn.{Turn}
use Rattle.managed_table.specs.declared.view.Pass.{Pass}
use Rattle.managed_table.specs.declared.view.Passes.{Passes}
use Rattle.managed_table.specs.Locks.{IsIn}
use Rattle.managed_table.specs.Turns.{alone, pass_of, with_further, without_further, further_of, AreOrdered}

-- two views put together, and what the second seat is left with
abbrev pub both : Passes → Passes → Passes
both v w = record { passes = v.passes ++ w.passes }

abbrev pub spent : Passes
spent = record { passes = [] }

abbrev pub first_of : List Pass → List Pass
first_of [] = []
first_of (p ∷ ps) = p ∷ []

abbrev pub rest_of : List Pass → List Pass
rest_of [] = []
rest_of (p ∷ ps) = ps

-- the view is cut: the first pass stays, and the others go to a new seat
abbrev pub first_pass : Passes → Passes
first_pass v = record { passes = first_of v.passes }

abbrev pub other_passes : Passes → Passes
other_passes v = record { passes = rest_of v.passes }

-- one further pass comes from that of the view, which lists it, and goes to a new seat
abbrev pub parent : Passes → Passes
parent v = alone (with_further (pass_of v))

abbrev pub further : Passes → Passes
further v = alone (further_of (pass_of v))

-- the last further pass goes back, and its seat is spent
abbrev pub taken_back : Passes → Passes → Passes
taken_back v w = alone (without_further (pass_of v))

-- Two passes have two names. Of a turn of the one and a turn of the other at one lock, the later saw at its start all that
-- the earlier had seen at its end. No call was made in both
pub record AreApart (by : ℕ → SeatName) (p q : Pass) : Type 0 where
  pub names : p.name ≢ q.name
  pub ordered : (k i : ℕ) (t u : Turn) → get_elem? p.turns k ≡ core.some t → get_elem? q.turns i ≡ core.some u
      → t.lock ≡ u.lock → AreOrdered t u
  pub unshared : (k i : ℕ) (t u : Turn) → get_elem? p.turns k ≡ core.some t → get_elem? q.turns i ≡ core.some u
      → (lock c : ℕ) → IsIn by lock c t → IsIn by lock c u → ⊥

-- a load tells two passes of one view that they are apart
abbrev pub TellsApart : {T : Type 0} → (ℕ → SeatName) → Step T → Me T Passes → ℕ → Me T Passes → Type 0
TellsApart by st me found me' = (me'.0 ≡ me.0) × (me'.1 ≡ me.1) × ((p q : Pass) → me.0 ≡ both (alone p) (alone q) → AreApart by p q)
