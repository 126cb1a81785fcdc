-- Each line of a call keeps the machine sound, and is right for the table that it shows.
use Rattle.std.proofs.Common.{◌≡◌, ◌≢◌, ℕ, ◌<◌, Bool, true, false, ◌⊎◌, cond, List, [], length, get_or, Option, Some, None, refl, sym, ◌∙◌, ap, subst, arith, inl, inr, get_or-set_same, get_or-set_other}
use Rattle.std.proofs.Math.ListN.{set, length-set}
use Rattle.std.proofs.lemmas.Bool.{cases_eq}
use Rattle.std.specs.Option.{is_some, unwrap_or}
use Rattle.dep_index.specs.declared.table.calls.Call.{Call}
use Rattle.dep_index.specs.declared.table.calls.Call.TheVariants.{Get, Put, InUse as Query, BeginLoad, EndLoad, BeginDrain, BeginRemove, EndRemove, CancelRemove}
use Rattle.dep_index.specs.declared.table.calls.Reply.{Reply}
use Rattle.dep_index.specs.declared.table.calls.Reply.TheVariants.{Done, Yes, No}
use Rattle.dep_index.specs.Table.{Module, Table, count_of, is_held}
use Rattle.dep_index.specs.Calls.{row_effect, effect, refusal, answer, reply, next, slot_of, IsInRange}
use Rattle.dep_index.specs.Laws.{IsShaped, IsLawful}
use Rattle.dep_index.specs.Words.{word_of, word_step, get_look, put_step}
use Rattle.dep_index.proofs.RunLaws.{accepted, effect_shaped, next_lawful}
use Rattle.dep_index.proofs.StepLaws.{word_steps_are_right}
use Rattle.step_core.specs.declared.steps.Line.{Line}
use Rattle.step_core.specs.declared.steps.Line.TheVariants.{Word, Write, Return}
use Rattle.step_core.specs.declared.steps.Activity.{Activity}
use Rattle.step_core.specs.Shown.{book_after, row_after, shown, pending, writing}
use Rattle.step_core.specs.Machine.{State, Locks, LockName, Leaf, TableLock, NoLock, lock_of, holder, with_holder, at_line, with_word, with_activity}
use Rattle.step_core.specs.Sound.{Holds, HasLock, IsPlacedAt, IsPlaced, IsPastLock, IsSound}
use Rattle.step_core.proofs.Shown.{pends, pending-own, active_in_range, lock_cases, holder-with_other, shown-same, shown-begun, shown-written, rows_after-at, length-rows_after, pending_at}
use Rattle.step_core.proofs.Soundness.{others_pend, holds_is, sound_after}

some_is : {A : Type 0} (a b : A) → Some a ≡ Some b → a ≡ b
some_is a b e = cc

holder-with_same : (slots : ℕ) (locks : Locks) (call : Call) (o : Option ℕ) → HasLock (lock_of call) → IsInRange slots (length locks.leaves) call → holder (with_holder locks (lock_of call) o) (lock_of call) ≡ o
holder-with_same slots locks (Get w m) o has range = get_or-set_same locks.leaves w o None range.1
holder-with_same slots locks (Put w m) o has range = get_or-set_same locks.leaves w o None range.1
holder-with_same slots locks (Query m) o has range = absurd has
holder-with_same slots locks (BeginLoad m) o has range = refl
holder-with_same slots locks (EndLoad m ok) o has range = refl
holder-with_same slots locks (BeginDrain m) o has range = refl
holder-with_same slots locks (BeginRemove m) o has range = refl
holder-with_same slots locks (EndRemove m) o has range = refl
holder-with_same slots locks (CancelRemove m) o has range = refl

length-with_holder : (locks : Locks) (l : LockName) (o : Option ℕ) → length (with_holder locks l o).leaves ≡ length locks.leaves
length-with_holder locks (Leaf w) o = length-set locks.leaves w o
length-with_holder locks TableLock o = refl
length-with_holder locks NoLock o = refl

holds_from : (locks : Locks) (t : ℕ) (l : LockName) → holder locks l ≡ Some t → Holds locks t l
holds_from locks t (Leaf w) e = e
holds_from locks t TableLock e = e
holds_from locks t NoLock e = tt

-- only the thread that holds the lock can be its holder
holds_only : (locks : Locks) (t u : ℕ) (l : LockName) → Holds locks t l → holder locks l ≡ Some u → u ≡ t
holds_only locks t u (Leaf w) held e = some_is u t (sym e ∙ held)
holds_only locks t u TableLock held e = some_is u t (sym e ∙ held)
holds_only locks t u NoLock held e = let bad : None ≡ Some u = e in cc

-- if a thread holds the lock, what is pending under it is what the thread writes
own_pends : (threads : List (Option Activity)) (locks : Locks) (t : ℕ) (l : LockName) → Holds locks t l → writing (get_or threads t None) ≡ None → pends threads locks l ≡ None
own_pends threads locks t (Leaf w) held none = rw held none
own_pends threads locks t TableLock held none = rw held none
own_pends threads locks t NoLock held none = refl

-- what is pending everywhere, from this lock and the others
all_pend : (threads threads' : List (Option Activity)) (locks locks' : Locks) (k : LockName) → pends threads' locks' k ≡ pends threads locks k
    → ((l : LockName) → (l ≡ k → ⊥) → pends threads' locks' l ≡ pends threads locks l)
    → (l : LockName) → pends threads' locks' l ≡ pends threads locks l
all_pend threads threads' locks locks' k own others l = at (lock_cases l k) where
  at : (l ≡ k) ⊎ (l ≡ k → ⊥) → pends threads' locks' l ≡ pends threads locks l
  at (inl e) = subst (λ (i : LockName). pends threads' locks' i ≡ pends threads locks i) (sym e) own
  at (inr ne) = others l ne

-- the words of a state that shows the same table
word_still : (catalogue : List Module) (workers : ℕ) (old new : State) → IsSound catalogue workers old → new.words ≡ old.words → shown new ≡ shown old
    → (m : ℕ) → m < length catalogue → get_or new.words m 0 ≡ word_of (shown new) m
word_still catalogue workers old new sound words same m h =
    ap (λ (ws : List ℕ). get_or ws m 0) words ∙ sound.word m h ∙ ap (λ (x : Table). word_of x m) (sym same)

-- the lock is taken
pub lock_line : (catalogue : List Module) (workers : ℕ) (s : State) (t : ℕ) (a : Activity) → IsSound catalogue workers s
    → get_or s.threads t None ≡ Some a → HasLock (lock_of a.call) → holder s.locks (lock_of a.call) ≡ None
    → IsSound catalogue workers (at_line (record s { locks = with_holder s.locks (lock_of a.call) (Some t) }) t a Word)
    × (shown (at_line (record s { locks = with_holder s.locks (lock_of a.call) (Some t) }) t a Word) ≡ shown s)
lock_line catalogue workers s t a sound here has free = (
  sound_after catalogue workers s new t a (Some b) sound here refl refl sound.shape sound.words
      (length-with_holder s.locks (lock_of a.call) (Some t) ∙ sound.leaves)
      others_stay
      (λ u e. let bad : None ≡ Some u = sym free ∙ e in cc)
      (λ u e. (some_is u t (sym e ∙ held), (refl, tt)))
      own
      (λ w m ne. refl)
      (word_still catalogue workers s new sound refl same)
      (subst (λ (x : Table). IsLawful catalogue x) (sym same) sound.lawful),
  same,
) where
  b : Activity
  b = record a { line = Word }

  new : State
  new = at_line (record s { locks = with_holder s.locks (lock_of a.call) (Some t) }) t a Word

  before : IsPlaced (length catalogue) workers s.invoked s.locks s.written t a
  before = sound.placed t a here

  held : holder new.locks (lock_of a.call) ≡ Some t
  held = holder-with_same (length catalogue) s.locks a.call (Some t) has (rw sound.leaves before.range)

  others_stay : (l : LockName) → (l ≡ lock_of a.call → ⊥) → holder new.locks l ≡ holder s.locks l
  others_stay l ne = holder-with_other s.locks (lock_of a.call) l (Some t) ne

  own_pend : pends new.threads new.locks (lock_of a.call) ≡ pends s.threads s.locks (lock_of a.call)
  own_pend = ap (pending new.threads) held ∙ pending-own s.threads t (Some b) (active_in_range s.threads t a here) ∙ sym (ap (pending s.threads) free)

  same : shown new ≡ shown s
  same = shown-same s new refl (all_pend s.threads new.threads s.locks new.locks (lock_of a.call) own_pend (others_pend catalogue workers s t a sound here (Some b) new.locks others_stay))

  own : (c : Activity) → Some b ≡ Some c → IsPlaced (length catalogue) workers s.invoked new.locks s.written t c
  own c e = subst (λ (i : Activity). IsPlaced (length catalogue) workers s.invoked new.locks s.written t i) (some_is b c e)
      (record { range = before.range; number = before.number; place = holds_from new.locks t (lock_of a.call) held })

-- the thread goes on under its lock, with nothing to write before and after
pub quiet_line : (catalogue : List Module) (workers : ℕ) (s : State) (t : ℕ) (a : Activity) (after : Line) → IsSound catalogue workers s
    → get_or s.threads t None ≡ Some a → Holds s.locks t (lock_of a.call) → writing (Some a) ≡ None → writing (Some (record a { line = after })) ≡ None
    → IsPastLock after → IsPlacedAt s.locks s.written t a.call after
    → IsSound catalogue workers (at_line s t a after) × (shown (at_line s t a after) ≡ shown s)
quiet_line catalogue workers s t a after sound here holds before_none after_none past place = (
  sound_after catalogue workers s new t a (Some b) sound here refl refl sound.shape sound.words sound.leaves
      (λ l ne. refl)
      (λ u e. holds_only s.locks t u (lock_of a.call) holds e)
      (λ u e. (holds_only s.locks t u (lock_of a.call) holds e, (refl, past)))
      own
      (λ w m ne. refl)
      (word_still catalogue workers s new sound refl same)
      (subst (λ (x : Table). IsLawful catalogue x) (sym same) sound.lawful),
  same,
) where
  b : Activity
  b = record a { line = after }

  new : State
  new = at_line s t a after

  before : IsPlaced (length catalogue) workers s.invoked s.locks s.written t a
  before = sound.placed t a here

  now_here : get_or new.threads t None ≡ Some b
  now_here = get_or-set_same s.threads t (Some b) None (active_in_range s.threads t a here)

  own_pend : pends new.threads new.locks (lock_of a.call) ≡ pends s.threads s.locks (lock_of a.call)
  own_pend = own_pends new.threads s.locks t (lock_of a.call) holds (ap writing now_here ∙ after_none) ∙ sym (own_pends s.threads s.locks t (lock_of a.call) holds (ap writing here ∙ before_none))

  same : shown new ≡ shown s
  same = shown-same s new refl (all_pend s.threads new.threads s.locks new.locks (lock_of a.call) own_pend (others_pend catalogue workers s t a sound here (Some b) s.locks (λ l ne. refl)))

  own : (c : Activity) → Some b ≡ Some c → IsPlaced (length catalogue) workers s.invoked new.locks s.written t c
  own c e = subst (λ (i : Activity). IsPlaced (length catalogue) workers s.invoked new.locks s.written t i) (some_is b c e)
      (record { range = before.range; number = before.number; place = place })

-- the thread returns, and lets go
pub return_line : (catalogue : List Module) (workers : ℕ) (s : State) (t : ℕ) (a : Activity) (r : Reply) → IsSound catalogue workers s
    → get_or s.threads t None ≡ Some a → a.line ≡ Return r
    → IsSound catalogue workers (with_activity (record s { locks = with_holder s.locks (lock_of a.call) None }) t None)
    × (shown (with_activity (record s { locks = with_holder s.locks (lock_of a.call) None }) t None) ≡ shown s)
return_line catalogue workers s t a r sound here is = (
  sound_after catalogue workers s new t a None sound here refl refl sound.shape sound.words
      (length-with_holder s.locks (lock_of a.call) None ∙ sound.leaves)
      others_stay
      (λ u e. holds_only s.locks t u (lock_of a.call) holds e)
      (λ u e. let bad : None ≡ Some u = sym freed ∙ e in cc)
      (λ b e. cc)
      (λ w m ne. refl)
      (word_still catalogue workers s new sound refl same)
      (subst (λ (x : Table). IsLawful catalogue x) (sym same) sound.lawful),
  same,
) where
  new : State
  new = with_activity (record s { locks = with_holder s.locks (lock_of a.call) None }) t None

  before : IsPlaced (length catalogue) workers s.invoked s.locks s.written t a
  before = sound.placed t a here

  holds : Holds s.locks t (lock_of a.call)
  holds = subst (λ (l : Line). IsPlacedAt s.locks s.written t a.call l) is before.place

  others_stay : (l : LockName) → (l ≡ lock_of a.call → ⊥) → holder new.locks l ≡ holder s.locks l
  others_stay l ne = holder-with_other s.locks (lock_of a.call) l None ne

  freed : holder new.locks (lock_of a.call) ≡ None
  freed = freed_of a.call before.range where
    freed_of : (call : Call) → IsInRange (length catalogue) workers call → holder (with_holder s.locks (lock_of call) None) (lock_of call) ≡ None
    freed_of (Get w m) range = holder-with_same (length catalogue) s.locks (Get w m) None tt (rw sound.leaves range)
    freed_of (Put w m) range = holder-with_same (length catalogue) s.locks (Put w m) None tt (rw sound.leaves range)
    freed_of (Query m) range = refl
    freed_of (BeginLoad m) range = refl
    freed_of (EndLoad m ok) range = refl
    freed_of (BeginDrain m) range = refl
    freed_of (BeginRemove m) range = refl
    freed_of (EndRemove m) range = refl
    freed_of (CancelRemove m) range = refl

  nothing_written : writing (Some a) ≡ None
  nothing_written = rw is refl

  own_pend : pends new.threads new.locks (lock_of a.call) ≡ pends s.threads s.locks (lock_of a.call)
  own_pend = ap (pending new.threads) freed ∙ sym (own_pends s.threads s.locks t (lock_of a.call) holds (ap writing here ∙ nothing_written))

  same : shown new ≡ shown s
  same = shown-same s new refl (all_pend s.threads new.threads s.locks new.locks (lock_of a.call) own_pend (others_pend catalogue workers s t a sound here None new.locks others_stay))

leaf_apart : (w v : ℕ) → (Leaf v ≡ Leaf w → ⊥) → v ≢ w
leaf_apart w v ne e = ne (ap Leaf e)

-- a write leaves the counts of the other leaves
counts_stay : (written : Table) (call : Call) (v k : ℕ) → (Leaf v ≡ lock_of call → ⊥) → count_of (effect written call) v k ≡ count_of written v k
counts_stay written (Get w m) v k ne = ap (λ (r : List ℕ). get_or r k 0) (get_or-set_other written.rows w v (row_effect (get_or written.rows w []) (Get w m)) [] (leaf_apart w v ne))
counts_stay written (Put w m) v k ne = ap (λ (r : List ℕ). get_or r k 0) (get_or-set_other written.rows w v (row_effect (get_or written.rows w []) (Put w m)) [] (leaf_apart w v ne))
counts_stay written (Query m) v k ne = refl
counts_stay written (BeginLoad m) v k ne = refl
counts_stay written (EndLoad m ok) v k ne = refl
counts_stay written (BeginDrain m) v k ne = refl
counts_stay written (BeginRemove m) v k ne = refl
counts_stay written (EndRemove m) v k ne = refl
counts_stay written (CancelRemove m) v k ne = refl

-- the count or the book is written
pub write_line : (catalogue : List Module) (workers : ℕ) (s : State) (t : ℕ) (a : Activity) → IsSound catalogue workers s
    → get_or s.threads t None ≡ Some a → a.line ≡ Write
    → IsSound catalogue workers (at_line (record s { written = effect s.written a.call }) t a (Return Done))
    × (shown (at_line (record s { written = effect s.written a.call }) t a (Return Done)) ≡ shown s)
write_line catalogue workers s t a sound here is = (
  sound_after catalogue workers s new t a (Some b) sound here refl refl
      (effect_shaped (length catalogue) workers s.written a.call sound.shape) sound.words sound.leaves
      (λ l ne. refl)
      (λ u e. holds_only s.locks t u (lock_of a.call) place.1 e)
      (λ u e. (holds_only s.locks t u (lock_of a.call) place.1 e, (refl, tt)))
      own
      (λ v k ne. counts_stay s.written a.call v k ne)
      (word_still catalogue workers s new sound refl same)
      (subst (λ (x : Table). IsLawful catalogue x) (sym same) sound.lawful),
  same,
) where
  b : Activity
  b = record a { line = Return Done }

  new : State
  new = at_line (record s { written = effect s.written a.call }) t a (Return Done)

  before : IsPlaced (length catalogue) workers s.invoked s.locks s.written t a
  before = sound.placed t a here

  place : IsPlacedAt s.locks s.written t a.call Write
  place = subst (λ (l : Line). IsPlacedAt s.locks s.written t a.call l) is before.place

  held : holder s.locks (lock_of a.call) ≡ Some t
  held = holds_is s.locks t (lock_of a.call) place.0 place.1

  pend_before : pends s.threads s.locks (lock_of a.call) ≡ Some a.call
  pend_before = ap (pending s.threads) held ∙ ap writing here ∙ ap (λ (l : Line). writing (Some (record a { line = l }))) is

  pend_after : pends new.threads s.locks (lock_of a.call) ≡ None
  pend_after = ap (pending new.threads) held ∙ pending-own s.threads t (Some b) (active_in_range s.threads t a here)

  same : shown new ≡ shown s
  same = shown-written s new (length catalogue) a.call refl place.0 (rw sound.shape.rows before.range) pend_before pend_after refl (others_pend catalogue workers s t a sound here (Some b) s.locks (λ l ne. refl))

  own : (c : Activity) → Some b ≡ Some c → IsPlaced (length catalogue) workers s.invoked s.locks new.written t c
  own c e = subst (λ (i : Activity). IsPlaced (length catalogue) workers s.invoked s.locks new.written t i) (some_is b c e)
      (record { range = before.range; number = before.number; place = place.1 })

-- what a thread under its lock sees of its own leaf or of the book is what is shown
pub seen_as_shown : (catalogue : List Module) (s : State) (t : ℕ) (call : Call) (v : ℕ) → Holds s.locks t (lock_of call) → IsInRange (length catalogue) (length s.written.rows) call
    → writing (get_or s.threads t None) ≡ None
    → word_step catalogue s.written call v ≡ word_step catalogue (shown s) call v
seen_as_shown catalogue s t (Get w m) v holds range none =
    ap (λ (r : List ℕ). get_look (get_or r m 0) v) (sym (rows_after-at s.threads s.locks.leaves s.written.rows w range.1 ∙ rw (own_pends s.threads s.locks t (Leaf w) holds none) refl))
seen_as_shown catalogue s t (Put w m) v holds range none =
    ap (λ (r : List ℕ). put_step (get_or r m 0) v) (sym (rows_after-at s.threads s.locks.leaves s.written.rows w range.1 ∙ rw (own_pends s.threads s.locks t (Leaf w) holds none) refl))
seen_as_shown catalogue s t (Query m) v holds range none = refl
seen_as_shown catalogue s t (BeginLoad m) v holds range none = rw (own_pends s.threads s.locks t TableLock holds none) refl
seen_as_shown catalogue s t (EndLoad m ok) v holds range none = rw (own_pends s.threads s.locks t TableLock holds none) refl
seen_as_shown catalogue s t (BeginDrain m) v holds range none = rw (own_pends s.threads s.locks t TableLock holds none) refl
seen_as_shown catalogue s t (BeginRemove m) v holds range none = rw (own_pends s.threads s.locks t TableLock holds none) refl
seen_as_shown catalogue s t (EndRemove m) v holds range none = rw (own_pends s.threads s.locks t TableLock holds none) refl
seen_as_shown catalogue s t (CancelRemove m) v holds range none = rw (own_pends s.threads s.locks t TableLock holds none) refl

length-row_effect : (row : List ℕ) (call : Call) → length (row_effect row call) ≡ length row
length-row_effect row (Get w m) = length-set row m _
length-row_effect row (Put w m) = length-set row m _
length-row_effect row (Query m) = refl
length-row_effect row (BeginLoad m) = refl
length-row_effect row (EndLoad m ok) = refl
length-row_effect row (BeginDrain m) = refl
length-row_effect row (BeginRemove m) = refl
length-row_effect row (EndRemove m) = refl
length-row_effect row (CancelRemove m) = refl

-- the shown table has the shape of what is written
pub shown_shaped : (slots workers : ℕ) (s : State) → IsShaped slots workers s.written → IsShaped slots workers (shown s)
shown_shaped slots workers s shape =
    record {
      states = states (pending s.threads s.locks.table);
      rows = length-rows_after s.threads s.locks.leaves s.written.rows ∙ shape.rows;
      row = λ w h. ap length (rows_after-at s.threads s.locks.leaves s.written.rows w (omega (arith, shape.rows, h))) ∙ row (pending_at s.threads s.locks.leaves w) w ∙ shape.row w h;
    } where
      states : (o : Option Call) → length (book_after o s.written.book).states ≡ slots
      states None = shape.states
      states (Some call) = (effect_shaped slots workers s.written call shape).states

      row : (o : Option Call) (w : ℕ) → length (row_after o (get_or s.written.rows w [])) ≡ length (get_or s.written.rows w [])
      row None w = refl
      row (Some call) w = length-row_effect (get_or s.written.rows w []) call

-- only a call under a lock is ever Done
done_has_lock : (catalogue : List Module) (table : Table) (call : Call) → reply catalogue table call ≡ Done → HasLock (lock_of call)
done_has_lock catalogue table (Get w m) e = tt
done_has_lock catalogue table (Put w m) e = tt
done_has_lock catalogue table (Query m) e = absurd (never (is_held table m) e) where
  never : (b : Bool) → cond b Yes No ≡ Done → ⊥
  never true e = cc
  never false e = cc
done_has_lock catalogue table (BeginLoad m) e = tt
done_has_lock catalogue table (EndLoad m ok) e = tt
done_has_lock catalogue table (BeginDrain m) e = tt
done_has_lock catalogue table (BeginRemove m) e = tt
done_has_lock catalogue table (EndRemove m) e = tt
done_has_lock catalogue table (CancelRemove m) e = tt

-- a call that is not Done leaves the table
pub next_not_done : (catalogue : List Module) (table : Table) (call : Call) → (reply catalogue table call ≡ Done → ⊥) → next catalogue table call ≡ table
next_not_done catalogue table call other = at (refusal catalogue table call) refl where
  unanswered : (c : Call) → (answer table c ≡ Done → ⊥) → effect table c ≡ table
  unanswered (Query m) ne = refl
  unanswered (Get w m) ne = absurd (ne refl)
  unanswered (Put w m) ne = absurd (ne refl)
  unanswered (BeginLoad m) ne = absurd (ne refl)
  unanswered (EndLoad m ok) ne = absurd (ne refl)
  unanswered (BeginDrain m) ne = absurd (ne refl)
  unanswered (BeginRemove m) ne = absurd (ne refl)
  unanswered (EndRemove m) ne = absurd (ne refl)
  unanswered (CancelRemove m) ne = absurd (ne refl)

  at : (o : Option Reply) → refusal catalogue table call ≡ o → next catalogue table call ≡ table
  at (Some r) e = rw e refl
  at None e = rw e (unanswered call (λ d. other (ap (λ (p : Option Reply). unwrap_or p (answer table call)) e ∙ d)))

pub next_done : (catalogue : List Module) (table : Table) (call : Call) → reply catalogue table call ≡ Done → next catalogue table call ≡ effect table call
next_done catalogue table call e = ap (λ (o : Option Reply). cond (is_some o) table (effect table call)) (accepted catalogue table call e)

-- the words after a point
words_after : (catalogue : List Module) (workers : ℕ) (s : State) (call : Call) (v : ℕ) → IsSound catalogue workers s → IsInRange (length catalogue) workers call
    → v ≡ word_of (next catalogue (shown s) call) (slot_of call)
    → (m : ℕ) → m < length catalogue → get_or (set s.words (slot_of call) v) m 0 ≡ word_of (next catalogue (shown s) call) m
words_after catalogue workers s call v sound range is m h = at (cases_eq m (slot_of call)) where
  room : slot_of call < length s.words
  room = omega (arith, range.0, sound.words)

  at : (m ≡ slot_of call) ⊎ (m ≡ slot_of call → ⊥) → get_or (set s.words (slot_of call) v) m 0 ≡ word_of (next catalogue (shown s) call) m
  at (inl e) =
      let at_slot : get_or (set s.words (slot_of call) v) (slot_of call) 0 ≡ word_of (next catalogue (shown s) call) (slot_of call) = get_or-set_same s.words (slot_of call) v 0 room ∙ is in
      subst (λ (k : ℕ). get_or (set s.words (slot_of call) v) k 0 ≡ word_of (next catalogue (shown s) call) k) (sym e) at_slot
  at (inr ne) =
      get_or-set_other s.words (slot_of call) m v 0 ne ∙ sound.word m h
      ∙ sym ((word_steps_are_right catalogue workers (shown s) call (shown_shaped (length catalogue) workers s sound.shape) sound.few sound.lawful range).1 m ne)

-- a call takes effect, and is done: its write is pending
pub point_done : (catalogue : List Module) (workers : ℕ) (s : State) (t : ℕ) (a : Activity) (v : ℕ) → IsSound catalogue workers s
    → get_or s.threads t None ≡ Some a → Holds s.locks t (lock_of a.call) → writing (Some a) ≡ None
    → reply catalogue (shown s) a.call ≡ Done → v ≡ word_of (next catalogue (shown s) a.call) (slot_of a.call)
    → IsSound catalogue workers (at_line (with_word s (slot_of a.call) v) t a Write)
    × (shown (at_line (with_word s (slot_of a.call) v) t a Write) ≡ next catalogue (shown s) a.call)
point_done catalogue workers s t a v sound here holds before_none done word = (
  sound_after catalogue workers s new t a (Some b) sound here refl refl sound.shape
      (length-set s.words (slot_of a.call) v ∙ sound.words) sound.leaves
      (λ l ne. refl)
      (λ u e. holds_only s.locks t u (lock_of a.call) holds e)
      (λ u e. (holds_only s.locks t u (lock_of a.call) holds e, (refl, tt)))
      own
      (λ w m ne. refl)
      (λ m h. words_after catalogue workers s a.call v sound before.range word m h ∙ ap (λ (x : Table). word_of x m) (sym becomes))
      (subst (λ (x : Table). IsLawful catalogue x) (sym becomes) (next_lawful catalogue workers (shown s) a.call (shown_shaped (length catalogue) workers s sound.shape) sound.lawful before.range)),
  becomes,
) where
  b : Activity
  b = record a { line = Write }

  new : State
  new = at_line (with_word s (slot_of a.call) v) t a Write

  before : IsPlaced (length catalogue) workers s.invoked s.locks s.written t a
  before = sound.placed t a here

  has : HasLock (lock_of a.call)
  has = done_has_lock catalogue (shown s) a.call done

  held : holder s.locks (lock_of a.call) ≡ Some t
  held = holds_is s.locks t (lock_of a.call) has holds

  pend_before : pends s.threads s.locks (lock_of a.call) ≡ None
  pend_before = own_pends s.threads s.locks t (lock_of a.call) holds (ap writing here ∙ before_none)

  pend_after : pends new.threads s.locks (lock_of a.call) ≡ Some a.call
  pend_after = ap (pending new.threads) held ∙ pending-own s.threads t (Some b) (active_in_range s.threads t a here)

  becomes : shown new ≡ next catalogue (shown s) a.call
  becomes =
      shown-begun s new (length catalogue) a.call refl has (rw sound.shape.rows before.range) pend_before pend_after refl (others_pend catalogue workers s t a sound here (Some b) s.locks (λ l ne. refl))
      ∙ sym (next_done catalogue (shown s) a.call done)

  own : (c : Activity) → Some b ≡ Some c → IsPlaced (length catalogue) workers s.invoked s.locks s.written t c
  own c e = subst (λ (i : Activity). IsPlaced (length catalogue) workers s.invoked s.locks s.written t i) (some_is b c e)
      (record { range = before.range; number = before.number; place = (has, holds) })

-- a call takes effect, and leaves the table as it is
pub point_refused : (catalogue : List Module) (workers : ℕ) (s : State) (t : ℕ) (a : Activity) (v : ℕ) (r : Reply) → IsSound catalogue workers s
    → get_or s.threads t None ≡ Some a → Holds s.locks t (lock_of a.call) → writing (Some a) ≡ None
    → (reply catalogue (shown s) a.call ≡ Done → ⊥) → v ≡ word_of (next catalogue (shown s) a.call) (slot_of a.call)
    → IsSound catalogue workers (at_line (with_word s (slot_of a.call) v) t a (Return r))
    × (shown (at_line (with_word s (slot_of a.call) v) t a (Return r)) ≡ next catalogue (shown s) a.call)
point_refused catalogue workers s t a v r sound here holds before_none other word = (
  sound_after catalogue workers s new t a (Some b) sound here refl refl sound.shape
      (length-set s.words (slot_of a.call) v ∙ sound.words) sound.leaves
      (λ l ne. refl)
      (λ u e. holds_only s.locks t u (lock_of a.call) holds e)
      (λ u e. (holds_only s.locks t u (lock_of a.call) holds e, (refl, tt)))
      own
      (λ w m ne. refl)
      (λ m h. words_after catalogue workers s a.call v sound before.range word m h ∙ ap (λ (x : Table). word_of x m) (sym becomes))
      (subst (λ (x : Table). IsLawful catalogue x) (sym same) sound.lawful),
  becomes,
) where
  b : Activity
  b = record a { line = Return r }

  new : State
  new = at_line (with_word s (slot_of a.call) v) t a (Return r)

  before : IsPlaced (length catalogue) workers s.invoked s.locks s.written t a
  before = sound.placed t a here

  now_here : get_or new.threads t None ≡ Some b
  now_here = get_or-set_same s.threads t (Some b) None (active_in_range s.threads t a here)

  own_pend : pends new.threads new.locks (lock_of a.call) ≡ pends s.threads s.locks (lock_of a.call)
  own_pend = own_pends new.threads s.locks t (lock_of a.call) holds (ap writing now_here) ∙ sym (own_pends s.threads s.locks t (lock_of a.call) holds (ap writing here ∙ before_none))

  same : shown new ≡ shown s
  same = shown-same s new refl (all_pend s.threads new.threads s.locks new.locks (lock_of a.call) own_pend (others_pend catalogue workers s t a sound here (Some b) s.locks (λ l ne. refl)))

  becomes : shown new ≡ next catalogue (shown s) a.call
  becomes = same ∙ sym (next_not_done catalogue (shown s) a.call other)

  own : (c : Activity) → Some b ≡ Some c → IsPlaced (length catalogue) workers s.invoked s.locks s.written t c
  own c e = subst (λ (i : Activity). IsPlaced (length catalogue) workers s.invoked s.locks s.written t i) (some_is b c e)
      (record { range = before.range; number = before.number; place = holds })
