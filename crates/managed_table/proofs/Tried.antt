-- A turn in which a leaf took all of several slots, or none.
use Rattle.std.proofs.Common.{◌≡◌, inl, ℕ, ◌<◌, List, ◌++◌, Result, length, refl, sym, ap, ◌∙◌, subst}
use Rattle.std.specs.Prelude.{IfErr}
use mathlib.Core.Option.{some}
use Rattle.root_row.specs.declared.view.SeatName.TheVariants as name_is
use Rattle.root_row.specs.Seats.{RowIs, Seated, KnowsTable}
use Rattle.root_row.specs.History.{own_answers}
use Rattle.root_row.specs.Views.{worker_of, counts_of}
use Rattle.root_row.specs.World.{slots}
use Rattle.managed_table.specs.declared.all_or_none.NotTaken.{NotTaken}
use Rattle.managed_table.specs.declared.attempt.Attempt.{Attempt}
use Rattle.managed_table.specs.declared.attempt.Attempt.TheVariants.{OutOfRange, LockBusy, Missed, Answered}
use Rattle.managed_table.specs.declared.view.Pass.{Pass}
use Rattle.managed_table.specs.Kept.{seen, shown, leaf_fits}
use Rattle.managed_table.specs.Turns.{since, MadeTurn}
use Rattle.managed_table.specs.Callers.{ManagedIs, CallerIs, IsCallerOf}
use Rattle.managed_table.specs.Owned.{row_of}
use Rattle.managed_table.specs.Holdings.{MadeInOrder, WorkerEnded}
use Rattle.managed_table.specs.AllOrNone.{tried_in_order, row_left, WasGivenUp, TookAllOrNone, AreBelow, AllOrNoneEnded}
use Rattle.managed_table.proofs.Holders.{LeafWas, knows_row, legal_of}

-- what a leaf did that took all or none
pub record Tried (row : RowIs) (wanted : List ℕ) (tries : ℕ) (taken : Result (Unit {0}) NotTaken) (x y : Seated) : Type 0 where
  pub knew : KnowsTable x.view
  pub fits : leaf_fits row (worker_of x.view) y
  pub made : MadeInOrder (tried_in_order (worker_of x.view) wanted taken) x y
  pub left : counts_of y.view ≡ row_left (counts_of x.view) wanted taken
  pub place : IfErr taken (λ failed. failed.place < length wanted)
  pub given_up : IfErr taken (WasGivenUp tries (counts_of x.view) wanted (since x.steps y))
  pub knows : KnowsTable y.view

module _ (row : RowIs) (worker : ℕ) (wanted : List ℕ) (tries : ℕ) (taken : Result (Unit {0}) NotTaken) (Did : Seated → Seated → Type 0) (old new : Pass) (same_row : old.row.value ≡ row)
    (t : MadeTurn leaf_fits shown worker Did old new) (d : Tried row wanted tries taken t.taken t.left) where
  fit : leaf_fits row worker t.taken
  fit = subst (λ (k : RowIs). leaf_fits k worker t.taken) same_row t.fit

  after : leaf_fits row worker t.left
  after = subst (λ w. leaf_fits row w t.left) fit.1 d.fits

  took : TookAllOrNone row worker wanted tries taken old new
  took = record {
    missed = t.missed;
    before = seen t.taken;
    after = seen t.left;
    steps = since t.taken.steps t.left;
    counts = counts_of t.taken.view;
    turned = t.turned;
    held = knows_row row worker t.taken fit d.knew;
    begins = d.made.begins;
    own = subst (λ w. own_answers (name_is.Leaf w) (seen t.left) ≡ own_answers (name_is.Leaf w) (seen t.taken) ++ tried_in_order w wanted taken) fit.1 d.made.own;
    legal = legal_of row t.left after.0 d.knows;
    left = knows_row row worker t.left after d.knows ∙ ap some d.left;
    place = d.place;
    given_up = d.given_up;
    follows = t.follows;
  }

-- a call by an own caller, which contracts see as `old`
module _ (table : ManagedIs) (before old after : CallerIs) (is : before ≡ old) (own : IsCallerOf table before) (worker tries : ℕ) (wanted : List ℕ)
    (Did : Result (Unit {0}) NotTaken → Seated → Seated → Type 0) (below : AreBelow (slots table.row.world) wanted)
    (told : (r : Result (Unit {0}) NotTaken) (x y : Seated) → Did r x y → Tried table.row wanted tries r x y) where
  within : AreBelow (slots (row_of before).world) wanted
  within = subst (λ (k : RowIs). AreBelow (slots k.world) wanted) (sym own.1) below

  by_ending : (ended : Attempt (Result (Unit {0}) NotTaken)) → WorkerEnded worker tries (λ r. LeafWas worker (Did r) before after) before ended after → AllOrNoneEnded worker wanted tries before ended after
  by_ending OutOfRange h = (inl h.0, h.1)
  by_ending LockBusy h = ((h.0, within), h.1)
  by_ending Missed h = absurd h.1
  by_ending (Answered r) h =
      let tried : Tried (row_of before) wanted tries r h.1.0.taken h.1.0.left = subst (λ (k : RowIs). Tried k wanted tries r h.1.0.taken h.1.0.left) (sym own.1) (told r h.1.0.taken h.1.0.left h.1.0.did) in
      ((h.0, within), (took (row_of before) worker wanted tries r (Did r) before.leaves.pass after.leaves.pass refl h.1.0 tried, h.1.1))

  pub all_or_none : (ended : Attempt (Result (Unit {0}) NotTaken)) → WorkerEnded worker tries (λ r. LeafWas worker (Did r) before after) before ended after → AllOrNoneEnded worker wanted tries old ended after
  all_or_none ended h = subst (λ (b : CallerIs). AllOrNoneEnded worker wanted tries b ended after) is (by_ending ended h)
