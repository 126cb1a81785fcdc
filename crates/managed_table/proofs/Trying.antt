-- What a call did that never waits, by what was done in its turn.
use Rattle.std.proofs.Common.{◌≡◌, ℕ, ◌<◌, Option, Some, None, refl, sym, ◌∙◌, subst}
use Rattle.dep_index.specs.declared.table.calls.Reply.{Reply}
use Rattle.dep_index.specs.Table.{Table}
use Rattle.root_row.specs.declared.calls.BookCall.{BookCall}
use Rattle.root_row.specs.declared.calls.LeafCall.{LeafCall}
use Rattle.root_row.specs.declared.calls.LeafCall.TheVariants.{Get}
use Rattle.root_row.specs.World.{slots}
use Rattle.root_row.specs.Seats.{RowIs, Seated, IsOf, KnowsTable}
use Rattle.root_row.specs.Views.{book_of, count_of}
use Rattle.root_row.specs.Steps.{LeafAnswered, leaf_call}
use Rattle.root_row.specs.BookSteps.{BookAnswered, book_call}
use Rattle.managed_table.specs.declared.attempt.Attempt.{Attempt}
use Rattle.managed_table.specs.declared.attempt.Attempt.TheVariants.{OutOfRange, LockBusy, Missed, Answered}
use Rattle.managed_table.specs.Kept.{leaf_fits}
use Rattle.managed_table.specs.Shown.{HoldsSoOften}
use Rattle.managed_table.specs.Tries.{GaveUp, AnsweredWithin}
use Rattle.managed_table.specs.Callers.{ManagedIs, CallerIs, IsCallerOf, LeafTurned, BookTurned}
use Rattle.managed_table.specs.Owned.{row_of}
use Rattle.managed_table.specs.Attempts.{Ended, LeafEnded, BookEnded, LookEnded, LeafDid, BookDid, LeafShows, BookShows, GetGivenUp, GetDid, missed_or}
use Rattle.managed_table.proofs.Answered.{leaf_call_made, leaf_shown, book_call_made, book_shown, turn_shows}

-- an ending of which more is known
ended_so : {R : Type 0} (Outside Inside Busy GivenUp : Type 0) (Did Does : R → Type 0) (before after : CallerIs) (ended : Attempt R)
    → Ended Outside Inside Busy GivenUp Did before ended after → ((r : R) → Did r → Does r) → Ended Outside Inside Busy GivenUp Does before ended after
ended_so Outside Inside Busy GivenUp Did Does before after OutOfRange h told = h
ended_so Outside Inside Busy GivenUp Did Does before after LockBusy h told = h
ended_so Outside Inside Busy GivenUp Did Does before after Missed h told = h
ended_so Outside Inside Busy GivenUp Did Does before after (Answered r) h told = (h.0, told r h.1)

-- a turn of the book for a slot that is in range
pub in_range : {R : Type 0} (slot tries : ℕ) (Did : R → Type 0) (before after : CallerIs) (ended : Attempt R) → slot < slots (row_of before).world
    → LookEnded tries Did before ended after → BookEnded slot tries Did before ended after
in_range slot tries Did before after OutOfRange inside h = absurd h.0
in_range slot tries Did before after LockBusy inside h = (inside, h.1)
in_range slot tries Did before after Missed inside h = absurd h.1
in_range slot tries Did before after (Answered r) inside h = (inside, h.1)

abbrev LeafWas : ℕ → (Seated → Seated → Type 0) → CallerIs → CallerIs → Type 0
LeafWas worker Did before after = LeafTurned worker Did before after × (after.book ≡ before.book)

abbrev BookWas : (Seated → Seated → Type 0) → CallerIs → CallerIs → Type 0
BookWas Did before after = BookTurned Did before after × (after.leaves ≡ before.leaves)

-- a call by an own caller, which contracts see as `old`
module _ {R : Type 0} (table : ManagedIs) (before old after : CallerIs) (is : before ≡ old) (own : IsCallerOf table before) (Did : R → Seated → Seated → Type 0) (ended : Attempt R) where
  is_of : (y : Seated) → IsOf table.row y → IsOf (row_of before) y
  is_of y = subst (λ (k : RowIs). IsOf k y) (sym own.1)

  pub book_tried : (slot tries : ℕ) (kind : BookCall) (reply : R → Reply) → BookEnded slot tries (λ r. BookWas (Did r) before after) before ended after
      → ((r : R) (x y : Seated) → Did r x y → IsOf table.row y × BookAnswered x.view slot kind (reply r) y.view)
      → BookEnded slot tries (λ r. BookDid (book_call kind slot) old after (reply r)) old ended after
  book_tried slot tries kind reply t told =
      subst (λ (b : CallerIs). BookEnded slot tries (λ r. BookDid (book_call kind slot) b after (reply r)) b ended after) is
      (ended_so _ _ _ ⊥ (λ r. BookWas (Did r) before after) (λ r. BookDid (book_call kind slot) before after (reply r)) before after ended t (λ r h.
      let d = told r h.0.taken h.0.left h.0.did in
      (book_call_made (row_of before) slot (Did r) before.book.pass after.book.pass (own.3 ∙ sym own.1) h.0 kind (reply r) (is_of h.0.left d.0) d.1, h.1)))

  book_looks : (Shows : R → Table → Type 0) → ((r : R) (x y : Seated) → Did r x y → KnowsTable x.view × (y.view ≡ x.view) × ((t : Table) → t.book ≡ book_of x.view → Shows r t))
      → (r : R) → BookWas (Did r) before after → BookShows (Shows r) before after
  book_looks Shows told r h =
      let d = told r h.0.taken h.0.left h.0.did in
      (book_shown (row_of before) 0 (Did r) before.book.pass after.book.pass (own.3 ∙ sym own.1) h.0 (Shows r) d.0 d.1 d.2, h.1)

  pub slot_looked : (slot tries : ℕ) (Shows : R → Table → Type 0) → BookEnded slot tries (λ r. BookWas (Did r) before after) before ended after
      → ((r : R) (x y : Seated) → Did r x y → KnowsTable x.view × (y.view ≡ x.view) × ((t : Table) → t.book ≡ book_of x.view → Shows r t))
      → BookEnded slot tries (λ r. BookShows (Shows r) old after) old ended after
  slot_looked slot tries Shows t told =
      subst (λ (b : CallerIs). BookEnded slot tries (λ r. BookShows (Shows r) b after) b ended after) is
      (ended_so _ _ _ ⊥ (λ r. BookWas (Did r) before after) (λ r. BookShows (Shows r) before after) before after ended t (book_looks Shows told))

  pub book_looked : (tries : ℕ) (Shows : R → Table → Type 0) → LookEnded tries (λ r. BookWas (Did r) before after) before ended after
      → ((r : R) (x y : Seated) → Did r x y → KnowsTable x.view × (y.view ≡ x.view) × ((t : Table) → t.book ≡ book_of x.view → Shows r t))
      → LookEnded tries (λ r. BookShows (Shows r) old after) old ended after
  book_looked tries Shows t told =
      subst (λ (b : CallerIs). LookEnded tries (λ r. BookShows (Shows r) b after) b ended after) is
      (ended_so _ _ _ ⊥ (λ r. BookWas (Did r) before after) (λ r. BookShows (Shows r) before after) before after ended t (book_looks Shows told))

  pub leaf_tried : (worker slot tries : ℕ) (kind : LeafCall) (reply : R → Reply) → LeafEnded worker slot tries ⊥ (λ r. LeafWas worker (Did r) before after) before ended after
      → ((r : R) (x y : Seated) → Did r x y → IsOf table.row y × LeafAnswered x.view slot kind (reply r) y.view)
      → LeafEnded worker slot tries ⊥ (λ r. LeafDid worker (leaf_call kind worker slot) old after (reply r)) old ended after
  leaf_tried worker slot tries kind reply t told =
      subst (λ (b : CallerIs). LeafEnded worker slot tries ⊥ (λ r. LeafDid worker (leaf_call kind worker slot) b after (reply r)) b ended after) is
      (ended_so _ _ _ ⊥ (λ r. LeafWas worker (Did r) before after) (λ r. LeafDid worker (leaf_call kind worker slot) before after (reply r)) before after ended t (λ r h.
      let d = told r h.0.taken h.0.left h.0.did in
      (leaf_call_made (row_of before) worker slot (Did r) before.leaves.pass after.leaves.pass refl h.0 kind (reply r) (is_of h.0.left d.0) d.1, h.1)))

  pub leaf_looked : (worker slot tries : ℕ) (count : R → ℕ) → LeafEnded worker slot tries ⊥ (λ r. LeafWas worker (Did r) before after) before ended after
      → ((r : R) (x y : Seated) → Did r x y → KnowsTable x.view × (y.view ≡ x.view) × (count_of x.view slot ≡ count r))
      → LeafEnded worker slot tries ⊥ (λ r. LeafShows worker (HoldsSoOften worker slot (count r)) old after) old ended after
  leaf_looked worker slot tries count t told =
      subst (λ (b : CallerIs). LeafEnded worker slot tries ⊥ (λ r. LeafShows worker (HoldsSoOften worker slot (count r)) b after) b ended after) is
      (ended_so _ _ _ ⊥ (λ r. LeafWas worker (Did r) before after) (λ r. LeafShows worker (HoldsSoOften worker slot (count r)) before after) before after ended t (λ r h.
      let d = told r h.0.taken h.0.left h.0.did in
      (leaf_shown (row_of before) worker slot (Did r) before.leaves.pass after.leaves.pass refl h.0 (count r) d.0 d.1 d.2, h.1)))

-- a get that its leaf may give up
module _ {R : Type 0} (table : ManagedIs) (before after : CallerIs) (own : IsCallerOf table before) (worker slot tries : ℕ) (Did : Option R → Seated → Seated → Type 0)
    (gave : (x y : Seated) → Did None x y → KnowsTable x.view × (y.view ≡ x.view) × (count_of x.view slot ≡ 0) × GaveUp tries slot x y) where
  pub given_up : LeafWas worker (Did None) before after → GetGivenUp worker slot tries before after
  given_up h =
      let d = gave h.0.taken h.0.left h.0.did in (
        (leaf_shown (row_of before) worker slot (Did None) before.leaves.pass after.leaves.pass refl h.0 0 d.0 d.1 d.2, h.1),
        turn_shows leaf_fits worker (Did None) (GaveUp tries slot) before.leaves.pass after.leaves.pass h.0 (λ x y did. (gave x y did).3),
      )

  module _ (reply : R → Reply) (did : (r : R) (x y : Seated) → Did (Some r) x y → IsOf table.row y × LeafAnswered x.view slot Get (reply r) y.view × AnsweredWithin tries slot (reply r) x y) where
    pub got_so : (r : R) → LeafWas worker (Did (Some r)) before after → GetDid worker slot tries before after (reply r)
    got_so r h =
        let d = did r h.0.taken h.0.left h.0.did in
        let here = subst (λ (k : RowIs). IsOf k h.0.left) (sym own.1) d.0 in (
          (leaf_call_made (row_of before) worker slot (Did (Some r)) before.leaves.pass after.leaves.pass refl h.0 Get (reply r) here d.1, h.1),
          turn_shows leaf_fits worker (Did (Some r)) (AnsweredWithin tries slot (reply r)) before.leaves.pass after.leaves.pass h.0 (λ x y h. (did r x y h).2),
        )

    pub got : (ended : Attempt (Option R)) → LeafEnded worker slot tries ⊥ (λ o. LeafWas worker (Did o) before after) before ended after
        → LeafEnded worker slot tries (GetGivenUp worker slot tries before after) (λ r. GetDid worker slot tries before after (reply r)) before (missed_or ended) after
    got OutOfRange h = h
    got LockBusy h = h
    got Missed h = absurd h.1
    got (Answered None) h = (h.0, given_up h.1)
    got (Answered (Some r)) h = (h.0, got_so r h.1)
