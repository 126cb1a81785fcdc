-- What holds of every run from the start.
use Rattle.std.proofs.Common.{◌≡◌, ◌≢◌, ℕ, ◌<◌, ◌≤◌, List, [], ◌∷◌, length, get_or, Option, Some, None, refl, sym, ◌∙◌, ap, subst, arith, ◌⊎◌, inl, inr}
use Rattle.std.proofs.lemmas.Bool.{cases_lt}
use Rattle.std.proofs.lemmas.List.{get_or_past}
use Rattle.dep_index.specs.declared.table.calls.Call.{Call}
use Rattle.dep_index.specs.declared.table.calls.Call.TheVariants.{Get, Put, InUse as Query, BeginLoad, EndLoad, BeginDrain, BeginRemove, EndRemove, CancelRemove}
use Rattle.dep_index.specs.Table.{Module}
use Rattle.dep_index.specs.Calls.{row_effect, book_effect, worker_of, IsWorkerInRange}
use Rattle.step_core.specs.declared.steps.Step.{Step}
use Rattle.step_core.specs.declared.steps.Line.{Line}
use Rattle.step_core.specs.declared.steps.Line.TheVariants.{Lock, Word, Exchange, Write, Return}
use Rattle.step_core.specs.declared.steps.Activity.{Activity}
use Rattle.step_core.specs.Machine.{State, LockName, Leaf, TableLock, lock_of, holder, start, step}
use Rattle.step_core.specs.Shown.{shown, shown_row, written_row, writes_next, writing, writing_at, pending, row_after, book_after, ShowsPendingWrites}
use Rattle.step_core.specs.Run.{IsAccepted, state_after}
use Rattle.step_core.specs.StepLaw.{RunsObeyStepLaw, PendingWritesAreShown}
use Rattle.step_core.specs.Sound.{HasLock, Holds, IsPlacedAt, IsPlaced, IsInside, IsSound}
use Rattle.step_core.proofs.Shown.{pending_at, rows_after-at, length-rows_after}
use Rattle.step_core.proofs.WholeSteps.{steps_are_right, starts_sound}

-- after every run from a sound state the machine is sound
pub sound_run : (catalogue : List Module) (workers : ℕ) (s : State) (steps : List Step) → IsSound catalogue workers s → IsAccepted catalogue s steps
    → IsSound catalogue workers (state_after catalogue s steps)
sound_run catalogue workers s [] sound accepted = sound
sound_run catalogue workers s (x ∷ steps) sound accepted =
    sound_run catalogue workers (step catalogue s x).1 steps ((steps_are_right catalogue workers s x sound accepted.0).0) accepted.1

pub runs_obey_step_law : RunsObeyStepLaw
runs_obey_step_law catalogue workers threads calls steps few accepted =
    let sound : IsSound catalogue workers (state_after catalogue (start catalogue workers threads calls) steps) =
    sound_run catalogue workers (start catalogue workers threads calls) steps ((starts_sound catalogue workers threads calls few).0) accepted in
    (λ m h. sound.word m h, λ s allowed. (steps_are_right catalogue workers (state_after catalogue (start catalogue workers threads calls) steps) s sound allowed).1)

-- a thread at the line that writes holds its lock, and the lock shows its call
some_is : {A : Type 0} (a b : A) → Some a ≡ Some b → a ≡ b
some_is a b e = cc

at_write : (l : Line) (made call : Call) → writing_at l made ≡ Some call → (l ≡ Write) × (made ≡ call)
at_write Write made call e = (refl, some_is made call e)
at_write Lock made call e = cc
at_write Word made call e = cc
at_write (Exchange x) made call e = cc
at_write (Return r) made call e = cc

-- what a thread's standing at the line that writes says
pub record IsAtWrite (s : State) (t : ℕ) (call : Call) (workers : ℕ) : Type 0 where
  pub lock : HasLock (lock_of call)
  pub holds : Holds s.locks t (lock_of call)
  pub worker : IsWorkerInRange workers (worker_of call)

is_at_write : (catalogue : List Module) (workers : ℕ) (s : State) (t : ℕ) (call : Call) → IsSound catalogue workers s → writes_next s t ≡ Some call → IsAtWrite s t call workers
is_at_write catalogue workers s t call sound writes = at (get_or s.threads t None) refl where
  at : (o : Option Activity) → get_or s.threads t None ≡ o → IsAtWrite s t call workers
  at None e = let bad : None ≡ Some call = sym (ap writing e) ∙ writes in cc
  at (Some a) e =
      let both : (a.line ≡ Write) × (a.call ≡ call) = at_write a.line a.call call (sym (ap writing e) ∙ writes) in
      let placed : IsPlaced (length catalogue) workers s.invoked s.locks s.written t a = sound.placed t a e in
      let place : IsPlacedAt s.locks s.written t a.call Write = subst (λ (l : Line). IsPlacedAt s.locks s.written t a.call l) both.0 placed.place in
      let there : IsPlacedAt s.locks s.written t call Write = subst (λ (c : Call). IsPlacedAt s.locks s.written t c Write) both.1 place in
      record { lock = there.0; holds = there.1; worker = subst (λ (c : Call). IsWorkerInRange workers (worker_of c)) both.1 placed.range.1 }

-- the shown row is the row that the holder of the leaf's lock leaves
row_shown : (catalogue : List Module) (workers : ℕ) (s : State) (w : ℕ) → IsSound catalogue workers s → w < workers
    → shown_row s w ≡ row_after (pending_at s.threads s.locks.leaves w) (written_row s w)
row_shown catalogue workers s w sound h = rows_after-at s.threads s.locks.leaves s.written.rows w (omega (arith, sound.shape.rows))

row_of_writer : (catalogue : List Module) (workers : ℕ) (s : State) (t w : ℕ) (call : Call) → IsSound catalogue workers s → writes_next s t ≡ Some call
    → lock_of call ≡ Leaf w → IsAtWrite s t call workers → w < workers → shown_row s w ≡ row_effect (written_row s w) call
row_of_writer catalogue workers s t w call sound writes lock at h =
    let held : Holds s.locks t (Leaf w) = subst (λ (l : LockName). Holds s.locks t l) lock at.holds in
    row_shown catalogue workers s w sound h ∙ ap (λ (o : Option Call). row_after o (written_row s w)) (ap (pending s.threads) held ∙ writes)

book_of_writer : (s : State) (t : ℕ) (call : Call) → writes_next s t ≡ Some call → holder s.locks TableLock ≡ Some t → (shown s).book ≡ book_effect s.written.book call
book_of_writer s t call writes held = ap (λ (o : Option Call). book_after o s.written.book) (ap (pending s.threads) held ∙ writes)

worker_is : (v w : ℕ) → Some v ≡ Some w → v ≡ w
worker_is v w e = cc

leaf_of : (catalogue : List Module) (workers : ℕ) (s : State) (t w : ℕ) (call : Call) → IsSound catalogue workers s → writes_next s t ≡ Some call
    → worker_of call ≡ Some w → IsAtWrite s t call workers → shown_row s w ≡ row_effect (written_row s w) call
leaf_of catalogue workers s t w (Get v m) sound writes worker at =
    let is : v ≡ w = worker_is v w worker in
    row_of_writer catalogue workers s t w (Get v m) sound writes (ap Leaf is) at (omega (arith, at.worker, is))
leaf_of catalogue workers s t w (Put v m) sound writes worker at =
    let is : v ≡ w = worker_is v w worker in
    row_of_writer catalogue workers s t w (Put v m) sound writes (ap Leaf is) at (omega (arith, at.worker, is))
leaf_of catalogue workers s t w (Query m) sound writes worker at = cc
leaf_of catalogue workers s t w (BeginLoad m) sound writes worker at = cc
leaf_of catalogue workers s t w (EndLoad m ok) sound writes worker at = cc
leaf_of catalogue workers s t w (BeginDrain m) sound writes worker at = cc
leaf_of catalogue workers s t w (BeginRemove m) sound writes worker at = cc
leaf_of catalogue workers s t w (EndRemove m) sound writes worker at = cc
leaf_of catalogue workers s t w (CancelRemove m) sound writes worker at = cc

table_of_writer : (workers : ℕ) (s : State) (t : ℕ) (call : Call) → writes_next s t ≡ Some call → worker_of call ≡ None → IsAtWrite s t call workers
    → (shown s).book ≡ book_effect s.written.book call
table_of_writer workers s t (Get v m) writes worker at = cc
table_of_writer workers s t (Put v m) writes worker at = cc
table_of_writer workers s t (Query m) writes worker at = absurd at.lock
table_of_writer workers s t (BeginLoad m) writes worker at = book_of_writer s t (BeginLoad m) writes at.holds
table_of_writer workers s t (EndLoad m ok) writes worker at = book_of_writer s t (EndLoad m ok) writes at.holds
table_of_writer workers s t (BeginDrain m) writes worker at = book_of_writer s t (BeginDrain m) writes at.holds
table_of_writer workers s t (BeginRemove m) writes worker at = book_of_writer s t (BeginRemove m) writes at.holds
table_of_writer workers s t (EndRemove m) writes worker at = book_of_writer s t (EndRemove m) writes at.holds
table_of_writer workers s t (CancelRemove m) writes worker at = book_of_writer s t (CancelRemove m) writes at.holds

-- what the holder of a lock is about to write is a call under it
under : (catalogue : List Module) (workers : ℕ) (s : State) (l : LockName) (t : ℕ) (call : Call) → IsSound catalogue workers s → holder s.locks l ≡ Some t
    → writes_next s t ≡ Some call → lock_of call ≡ l
under catalogue workers s l t call sound held writes = at (get_or s.threads t None) refl where
  at : (o : Option Activity) → get_or s.threads t None ≡ o → lock_of call ≡ l
  at None e = let bad : None ≡ Some call = sym (ap writing e) ∙ writes in cc
  at (Some a) e =
      let both : (a.line ≡ Write) × (a.call ≡ call) = at_write a.line a.call call (sym (ap writing e) ∙ writes) in
      let inside : IsInside l (Some a) = subst (λ (o : Option Activity). IsInside l o) e (sound.inside l t held) in
      ap lock_of (sym both.1) ∙ inside.0

worker_under_leaf : (call : Call) (w : ℕ) → lock_of call ≡ Leaf w → worker_of call ≡ Some w
worker_under_leaf (Get v m) w e = let is : v ≡ w = leaf_is v w e in ap Some is where
  leaf_is : (v w : ℕ) → Leaf v ≡ Leaf w → v ≡ w
  leaf_is v w e = cc
worker_under_leaf (Put v m) w e = let is : v ≡ w = leaf_is v w e in ap Some is where
  leaf_is : (v w : ℕ) → Leaf v ≡ Leaf w → v ≡ w
  leaf_is v w e = cc
worker_under_leaf (Query m) w e = cc
worker_under_leaf (BeginLoad m) w e = cc
worker_under_leaf (EndLoad m ok) w e = cc
worker_under_leaf (BeginDrain m) w e = cc
worker_under_leaf (BeginRemove m) w e = cc
worker_under_leaf (EndRemove m) w e = cc
worker_under_leaf (CancelRemove m) w e = cc

worker_under_table : (call : Call) → lock_of call ≡ TableLock → worker_of call ≡ None
worker_under_table (Get v m) e = cc
worker_under_table (Put v m) e = cc
worker_under_table (Query m) e = refl
worker_under_table (BeginLoad m) e = refl
worker_under_table (EndLoad m ok) e = refl
worker_under_table (BeginDrain m) e = refl
worker_under_table (BeginRemove m) e = refl
worker_under_table (EndRemove m) e = refl
worker_under_table (CancelRemove m) e = refl

-- nothing is pending under a lock if no thread stands at the line that writes under it
quiet : (catalogue : List Module) (workers : ℕ) (s : State) (l : LockName) (o : Option ℕ) → IsSound catalogue workers s → holder s.locks l ≡ o
    → ((t : ℕ) (call : Call) → writes_next s t ≡ Some call → lock_of call ≡ l → ⊥) → pending s.threads o ≡ None
quiet catalogue workers s l None sound held none = refl
quiet catalogue workers s l (Some t) sound held none = at (writes_next s t) refl where
  at : (o : Option Call) → writes_next s t ≡ o → writes_next s t ≡ None
  at None e = e
  at (Some call) e = absurd (none t call e (under catalogue workers s l t call sound held e))

-- past the last worker there is no row
past_row : (catalogue : List Module) (workers : ℕ) (s : State) (w : ℕ) → IsSound catalogue workers s → workers ≤ w → shown_row s w ≡ written_row s w
past_row catalogue workers s w sound h =
    let rows : length (shown s).rows ≡ length s.written.rows = length-rows_after s.threads s.locks.leaves s.written.rows in
    get_or_past (shown s).rows w [] (omega (arith, rows, sound.shape.rows)) ∙ sym (get_or_past s.written.rows w [] (omega (arith, sound.shape.rows)))

pub shows_pending_writes : (catalogue : List Module) (workers : ℕ) (s : State) → IsSound catalogue workers s → ShowsPendingWrites s
shows_pending_writes catalogue workers s sound =
    record {
      row = λ t w call writes worker. leaf_of catalogue workers s t w call sound writes worker (is_at_write catalogue workers s t call sound writes);
      book = λ t call writes worker. table_of_writer workers s t call writes worker (is_at_write catalogue workers s t call sound writes);
      still_row = λ w none. still w none (cases_lt w workers);
      still_book = λ none. ap (λ (o : Option Call). book_after o s.written.book) (quiet catalogue workers s TableLock s.locks.table sound refl (λ t call writes lock. none t call writes (worker_under_table call lock)));
    } where
      still : (w : ℕ) → ((t : ℕ) (call : Call) → writes_next s t ≡ Some call → worker_of call ≢ Some w) → (w < workers) ⊎ (workers ≤ w) → shown_row s w ≡ written_row s w
      still w none (inl h) =
          row_shown catalogue workers s w sound h
          ∙ ap (λ (o : Option Call). row_after o (written_row s w)) (quiet catalogue workers s (Leaf w) (holder s.locks (Leaf w)) sound refl (λ t call writes lock. none t call writes (worker_under_leaf call w lock)))
      still w none (inr h) = past_row catalogue workers s w sound h

pub pending_writes_are_shown : PendingWritesAreShown
pending_writes_are_shown catalogue workers threads calls steps few accepted =
    shows_pending_writes catalogue workers (state_after catalogue (start catalogue workers threads calls) steps)
    (sound_run catalogue workers (start catalogue workers threads calls) steps ((starts_sound catalogue workers threads calls few).0) accepted)
