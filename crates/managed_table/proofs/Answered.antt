-- A turn in which the value made one call, or none.
use Rattle.std.proofs.Common.{◌≡◌, ℕ, [], ◌∷◌, ◌++◌, sym, ap, ◌∙◌, subst, append_assoc, append-nil}
use lib.ListN.{get_elem?}
use Rattle.dep_index.specs.declared.table.calls.Call.{Call}
use Rattle.dep_index.specs.declared.table.calls.Reply.{Reply}
use Rattle.dep_index.specs.History.{IsLegal}
use Rattle.dep_index.specs.Table.{Table}
use Rattle.root_row.specs.declared.view.World.{World}
use Rattle.root_row.specs.declared.view.SeatName.TheVariants as name_is
use Rattle.root_row.specs.declared.calls.BookCall.{BookCall}
use Rattle.root_row.specs.declared.calls.LeafCall.{LeafCall}
use Rattle.root_row.specs.Seats.{RowIs, Seated, IsOf, KnowsTable}
use Rattle.root_row.specs.History.{SeatName, seat_answer, answers_in, table_after, StartsWith}
use Rattle.root_row.specs.Views.{Part, seen_of, part_of, part_in, worker_of, worker_in, counts_of, count_of, book_of, IsLeaf, IsBook}
use Rattle.root_row.specs.Rule.{Agrees}
use Rattle.root_row.specs.Steps.{Answered, LeafAnswered, leaf_call}
use Rattle.root_row.specs.BookSteps.{BookAnswered, book_call}
use Rattle.root_row.proofs.LeafSteps.{leaf_parts}
use Rattle.root_row.proofs.BookSteps.{answered_book}
use Rattle.managed_table.specs.declared.view.Pass.{Pass}
use Rattle.managed_table.specs.Kept.{seen, shown, leaf_fits, book_fits}
use Rattle.managed_table.specs.Turns.{turn, since, with_turns, with_misses, MadeTurn, MadeOneCall, MadeNoCall}
use Rattle.managed_table.specs.Shown.{HoldsSoOften}

-- what was seen grows by an answer
answer_grows : (x y : Seated) (by : SeatName) (call : Call) (reply : Reply) (part : Part) → Answered x.view by call reply part y.view → StartsWith (seen y) (seen x)
answer_grows x y by call reply part t = (t.between ++ seat_answer by call reply ∷ [], t.seen ∙ append_assoc (seen_of x.view) t.between (seat_answer by call reply ∷ []))

pub same_seen : (x y : Seated) → y.view ≡ x.view → StartsWith (seen y) (seen x)
same_seen x y is = ([], ap seen_of is ∙ sym (append-nil (seen x)))

module _ (row : RowIs) (lock slot : ℕ) (x y : Seated) (fit : leaf_fits row lock x) (own : IsOf row y) where
  -- a leaf that made a call goes back behind its lock
  pub leaf_back : (kind : LeafCall) (reply : Reply) → LeafAnswered x.view slot kind reply y.view → leaf_fits row lock y × StartsWith (seen y) (seen x)
  leaf_back kind reply t = ((own, ap (λ ms. worker_in (part_in ms)) t.members ∙ fit.1, leaf_parts y.view (worker_of x.view) _ t.members), answer_grows x y _ _ reply _ t)

  -- and so does one that made none
  pub leaf_same : y.view ≡ x.view → leaf_fits row lock y × StartsWith (seen y) (seen x)
  leaf_same is = ((own, ap worker_of is ∙ fit.1, subst IsLeaf (sym is) fit.2), same_seen x y is)

module _ (row : RowIs) (slot : ℕ) (x y : Seated) (fit : book_fits row 0 x) (own : IsOf row y) where
  pub book_back : (kind : BookCall) (reply : Reply) → BookAnswered x.view slot kind reply y.view → book_fits row 0 y × StartsWith (seen y) (seen x)
  book_back kind reply t = ((own, answered_book slot kind reply x.view y.view t), answer_grows x y _ _ reply _ t)

  pub book_same : y.view ≡ x.view → book_fits row 0 y × StartsWith (seen y) (seen x)
  book_same is = ((own, subst IsBook (sym is) fit.1), same_seen x y is)

module _ (fits : RowIs → ℕ → Seated → Type 0) (row : RowIs) (lock : ℕ) (Did : Seated → Seated → Type 0) (old new : Pass) (t : MadeTurn fits shown lock Did old new) where
  one_call : (by : SeatName) (call : Call) (reply : Reply) (part : Part) → IsOf row t.left → Answered t.taken.view by call reply part t.left.view → MadeOneCall row lock by call reply old new
  one_call by call reply part own a = record {
    missed = t.missed;
    before = seen t.taken;
    between = a.between;
    after = seen t.left;
    steps = since t.taken.steps t.left;
    turned = t.turned;
    ends = a.seen;
    legal = subst (λ (d : World). IsLegal d.catalogue d.workers (answers_in (seen t.left))) own.1 a.legal;
    own = a.own;
    follows = t.follows;
  }

  no_call : (Shows : Table → Type 0) → IsOf row t.taken → KnowsTable t.taken.view → t.left.view ≡ t.taken.view → Shows (table_after row.world (seen t.taken)) → MadeNoCall row lock Shows old new
  no_call Shows own knows is shows = record {
    missed = t.missed;
    seen = seen t.taken;
    steps = since t.taken.steps t.left;
    turned = t.turned ∙ ap (λ l. with_turns (with_misses old lock t.missed) (turn lock (seen t.taken) l (since t.taken.steps t.left) ∷ [])) (ap seen_of is);
    legal = subst (λ (d : World). IsLegal d.catalogue d.workers (answers_in (seen t.taken))) own.1 knows.legal;
    shows = shows;
    follows = t.follows;
  }

  -- the part of the value is the table's
  agrees : IsOf row t.taken → KnowsTable t.taken.view → Agrees (table_after row.world (seen t.taken)) (part_of t.taken.view)
  agrees own knows = subst (λ (d : World). Agrees (table_after d (seen t.taken)) (part_of t.taken.view)) own.1 knows.agrees

module _ (row : RowIs) (lock slot : ℕ) (Did : Seated → Seated → Type 0) (old new : Pass) (same_row : old.row.value ≡ row) (t : MadeTurn leaf_fits shown lock Did old new) where
  fit : leaf_fits row lock t.taken
  fit = subst (λ (k : RowIs). leaf_fits k lock t.taken) same_row t.fit

  pub leaf_call_made : (kind : LeafCall) (reply : Reply) → IsOf row t.left → LeafAnswered t.taken.view slot kind reply t.left.view → MadeOneCall row lock (name_is.Leaf lock) (leaf_call kind lock slot) reply old new
  leaf_call_made kind reply own a =
      subst (λ i. MadeOneCall row lock (name_is.Leaf i) (leaf_call kind i slot) reply old new) fit.1
      (one_call leaf_fits row lock Did old new t (name_is.Leaf (worker_of t.taken.view)) (leaf_call kind (worker_of t.taken.view) slot) reply _ own a)

  pub leaf_shown : (count : ℕ) → KnowsTable t.taken.view → t.left.view ≡ t.taken.view → count_of t.taken.view slot ≡ count → MadeNoCall row lock (HoldsSoOften lock slot count) old new
  leaf_shown count knows is counted =
      no_call leaf_fits row lock Did old new t (HoldsSoOften lock slot count) fit.0 knows is
      (counts_of t.taken.view, ap (λ w. get_elem? (table_after row.world (seen t.taken)).rows w) (sym fit.1) ∙ subst (Agrees (table_after row.world (seen t.taken))) (ap part_in fit.2) (agrees leaf_fits row lock Did old new t fit.0 knows), counted)

module _ (row : RowIs) (slot : ℕ) (Did : Seated → Seated → Type 0) (old new : Pass) (same_row : old.row.value ≡ row) (t : MadeTurn book_fits shown 0 Did old new) where
  pub book_call_made : (kind : BookCall) (reply : Reply) → IsOf row t.left → BookAnswered t.taken.view slot kind reply t.left.view → MadeOneCall row 0 name_is.Book (book_call kind slot) reply old new
  book_call_made kind reply own a = one_call book_fits row 0 Did old new t name_is.Book (book_call kind slot) reply _ own a

  book_fit : book_fits row 0 t.taken
  book_fit = subst (λ (k : RowIs). book_fits k 0 t.taken) same_row t.fit

  pub book_shown : (Shows : Table → Type 0) → KnowsTable t.taken.view → t.left.view ≡ t.taken.view
      → ((table : Table) → table.book ≡ book_of t.taken.view → Shows table) → MadeNoCall row 0 Shows old new
  book_shown Shows knows is shows =
      no_call book_fits row 0 Did old new t Shows book_fit.0 knows is
      (shows (table_after row.world (seen t.taken)) (subst (Agrees (table_after row.world (seen t.taken))) (ap part_in book_fit.1) (agrees book_fits row 0 Did old new t book_fit.0 knows)))

-- a turn of which more is known
pub turn_shows : (fits : RowIs → ℕ → Seated → Type 0) (lock : ℕ) (Did Shows : Seated → Seated → Type 0) (old new : Pass) → MadeTurn fits shown lock Did old new
    → ((x y : Seated) → Did x y → Shows x y) → MadeTurn fits shown lock Shows old new
turn_shows fits lock Did Shows old new t told = record {
  missed = t.missed;
  taken = t.taken;
  left = t.left;
  turned = t.turned;
  fit = t.fit;
  did = told t.taken t.left t.did;
  follows = t.follows;
}
