-- A turn in which a leaf gave back all that its worker held, or was looked through.
use Rattle.std.proofs.Common.{◌≡◌, ℕ, [], ◌∷◌, ◌++◌, Option, Some, None, refl, sym, ap, ◌∙◌, subst}
use mathlib.Core.Option.{some}
use lib.ListN.{get_elem?}
use Rattle.dep_index.specs.History.{IsLegal}
use Rattle.root_row.specs.declared.view.World.{World}
use Rattle.root_row.specs.declared.view.SeatName.TheVariants as name_is
use Rattle.root_row.specs.Seats.{RowIs, Seated, IsOf, KnowsTable}
use Rattle.root_row.specs.History.{answers_in, table_after, own_answers}
use Rattle.root_row.specs.Rule.{Agrees}
use Rattle.root_row.specs.Views.{part_of, part_in, seen_of, worker_of, counts_of}
use Rattle.root_row.specs.World.{slots}
use Rattle.managed_table.specs.declared.attempt.Attempt.{Attempt}
use Rattle.managed_table.specs.declared.attempt.Attempt.TheVariants.{OutOfRange, LockBusy, Missed, Answered}
use Rattle.managed_table.specs.declared.holdings.Holding.{Holding}
use Rattle.managed_table.specs.declared.view.Pass.{Pass}
use Rattle.managed_table.specs.Kept.{seen, shown, leaf_fits}
use Rattle.managed_table.specs.Turns.{turn, since, with_turns, with_misses, MadeTurn, MadeNoCall}
use Rattle.managed_table.specs.Callers.{ManagedIs, CallerIs, IsCallerOf, LeafTurned}
use Rattle.managed_table.specs.Owned.{row_of}
use Rattle.managed_table.specs.Attempts.{LeafShows}
use Rattle.managed_table.specs.Holdings.{puts_below, MadeInOrder, HasNone, GaveAllBack, IsFirstHeld, HasFirst, WorkerEnded, LeafGaveAllBack}

-- the row of a leaf's worker in the table is the leaf's counts
pub knows_row : (row : RowIs) (worker : ℕ) (x : Seated) → leaf_fits row worker x → KnowsTable x.view → get_elem? (table_after row.world (seen x)).rows worker ≡ some (counts_of x.view)
knows_row row worker x fit knows =
    let agrees : Agrees (table_after row.world (seen x)) (part_of x.view) = subst (λ (d : World). Agrees (table_after d (seen x)) (part_of x.view)) fit.0.1 knows.agrees in
    ap (λ w. get_elem? (table_after row.world (seen x)).rows w) (sym fit.1) ∙ subst (Agrees (table_after row.world (seen x))) (ap part_in fit.2) agrees

pub legal_of : (row : RowIs) (x : Seated) → IsOf row x → KnowsTable x.view → IsLegal row.world.catalogue row.world.workers (answers_in (seen x))
legal_of row x own knows = subst (λ (d : World). IsLegal d.catalogue d.workers (answers_in (seen x))) own.1 knows.legal

-- what a leaf did that gave all back
pub record GaveBack (row : RowIs) (x y : Seated) : Type 0 where
  pub knew : KnowsTable x.view
  pub fits : leaf_fits row (worker_of x.view) y
  pub made : MadeInOrder (puts_below (worker_of x.view) (counts_of x.view) (slots row.world)) x y
  pub none : HasNone y 0 (slots row.world)
  pub knows : KnowsTable y.view

-- what a leaf did that was looked through
pub record Looked (row : RowIs) (place : ℕ) (found : Option Holding) (x y : Seated) : Type 0 where
  pub knows : KnowsTable x.view
  pub same : y.view ≡ x.view
  pub first : HasFirst row x place found

module _ (row : RowIs) (worker : ℕ) (Did : Seated → Seated → Type 0) (old new : Pass) (same_row : old.row.value ≡ row) (t : MadeTurn leaf_fits shown worker Did old new) where
  fit : leaf_fits row worker t.taken
  fit = subst (λ (k : RowIs). leaf_fits k worker t.taken) same_row t.fit

  gave_all : GaveBack row t.taken t.left → GaveAllBack row worker old new
  gave_all d =
      let after : leaf_fits row worker t.left = subst (λ w. leaf_fits row w t.left) fit.1 d.fits in
      record {
        missed = t.missed;
        before = seen t.taken;
        after = seen t.left;
        steps = since t.taken.steps t.left;
        counts = counts_of t.taken.view;
        turned = t.turned;
        held = knows_row row worker t.taken fit d.knew;
        begins = d.made.begins;
        own = subst (λ w. own_answers (name_is.Leaf w) (seen t.left) ≡ own_answers (name_is.Leaf w) (seen t.taken) ++ puts_below w (counts_of t.taken.view) (slots row.world)) fit.1 d.made.own;
        legal = legal_of row t.left after.0 d.knows;
        none_left = λ slot from below. (counts_of t.left.view, knows_row row worker t.left after d.knows, d.none slot from below);
        follows = t.follows;
      }

  first_held : (place : ℕ) (found : Option Holding) → HasFirst row t.taken place found → KnowsTable t.taken.view → IsFirstHeld row worker place found (table_after row.world (seen t.taken))
  first_held place None first knows = λ slot from below. (counts_of t.taken.view, knows_row row worker t.taken fit knows, first slot from below)
  first_held place (Some found) first knows =
      let is = knows_row row worker t.taken fit knows in
      (first.0, first.1, first.2, (counts_of t.taken.view, is, first.3), (λ slot from below. (counts_of t.taken.view, is, first.4 slot from below)))

  looked : (place : ℕ) (found : Option Holding) → Looked row place found t.taken t.left → MadeNoCall row worker (IsFirstHeld row worker place found) old new
  looked place found d = record {
    missed = t.missed;
    seen = seen t.taken;
    steps = since t.taken.steps t.left;
    turned = t.turned ∙ ap (λ l. with_turns (with_misses old worker t.missed) (turn worker (seen t.taken) l (since t.taken.steps t.left) ∷ [])) (ap seen_of d.same);
    legal = legal_of row t.taken fit.0 d.knows;
    shows = first_held place found d.first d.knows;
    follows = t.follows;
  }

-- an ending of which more is known
ended_so : {R : Type 0} (worker tries : ℕ) (Did Does : R → Type 0) (before after : CallerIs) (ended : Attempt R)
    → WorkerEnded worker tries Did before ended after → ((r : R) → Did r → Does r) → WorkerEnded worker tries Does before ended after
ended_so worker tries Did Does before after OutOfRange h told = h
ended_so worker tries Did Does before after LockBusy h told = h
ended_so worker tries Did Does before after Missed h told = h
ended_so worker tries Did Does before after (Answered r) h told = (h.0, told r h.1)

abbrev pub LeafWas : ℕ → (Seated → Seated → Type 0) → CallerIs → CallerIs → Type 0
LeafWas worker Did before after = LeafTurned worker Did before after × (after.book ≡ before.book)

-- a call by an own caller, which contracts see as `old`
module _ {R : Type 0} (table : ManagedIs) (before old after : CallerIs) (is : before ≡ old) (own : IsCallerOf table before) (Did : R → Seated → Seated → Type 0) (ended : Attempt R)
    (worker tries : ℕ) (t : WorkerEnded worker tries (λ r. LeafWas worker (Did r) before after) before ended after) where
  pub all_given : ((r : R) (x y : Seated) → Did r x y → GaveBack table.row x y) → WorkerEnded worker tries (λ _. LeafGaveAllBack worker old after) old ended after
  all_given told =
      subst (λ (b : CallerIs). WorkerEnded worker tries (λ _. LeafGaveAllBack worker b after) b ended after) is
      (ended_so worker tries (λ r. LeafWas worker (Did r) before after) (λ _. LeafGaveAllBack worker before after) before after ended t (λ r h.
      (gave_all (row_of before) worker (Did r) before.leaves.pass after.leaves.pass refl h.0 (subst (λ (k : RowIs). GaveBack k h.0.taken h.0.left) (sym own.1) (told r h.0.taken h.0.left h.0.did)), h.1)))

module _ (table : ManagedIs) (before old after : CallerIs) (is : before ≡ old) (own : IsCallerOf table before) (Did : Option Holding → Seated → Seated → Type 0) (ended : Attempt (Option Holding))
    (worker tries place : ℕ) (t : WorkerEnded worker tries (λ r. LeafWas worker (Did r) before after) before ended after) where
  pub looked_through : ((r : Option Holding) (x y : Seated) → Did r x y → Looked table.row place r x y)
      → WorkerEnded worker tries (λ found. LeafShows worker (IsFirstHeld (row_of old) worker place found) old after) old ended after
  looked_through told =
      subst (λ (b : CallerIs). WorkerEnded worker tries (λ found. LeafShows worker (IsFirstHeld (row_of b) worker place found) b after) b ended after) is
      (ended_so worker tries (λ r. LeafWas worker (Did r) before after) (λ found. LeafShows worker (IsFirstHeld (row_of before) worker place found) before after) before after ended t (λ r h.
      (looked (row_of before) worker (Did r) before.leaves.pass after.leaves.pass refl h.0 place r (subst (λ (k : RowIs). Looked k place r h.0.taken h.0.left) (sym own.1) (told r h.0.taken h.0.left h.0.did)), h.1)))
