-- What a step does to the table that a state shows.
use Rattle.std.proofs.Common.{◌≡◌, ◌≢◌, ℕ, zero, suc, ◌<◌, ◌≤◌, ◌⊎◌, List, [], ◌∷◌, length, get_or, Option, Some, None, refl, sym, ◌∙◌, ap, arith, inl, inr, get_or-set_same, get_or-set_other}
use Rattle.std.proofs.Math.ListN.{set}
use Rattle.std.proofs.lemmas.Bool.{cases_eq, cases_lt}
use Rattle.std.proofs.lemmas.List.{get_or_past}
use Rattle.dep_index.specs.declared.table.calls.Call.{Call}
use Rattle.dep_index.specs.declared.table.calls.Call.TheVariants.{Get, Put, InUse as Query, BeginLoad, EndLoad, BeginDrain, BeginRemove, EndRemove, CancelRemove}
use Rattle.dep_index.specs.Calls.{row_effect, effect, rows_effect, IsInRange}
use Rattle.step_core.specs.Sound.{HasLock}
use Rattle.step_core.specs.declared.steps.Activity.{Activity}
use Rattle.step_core.specs.Machine.{State, Locks, LockName, Leaf, TableLock, NoLock, lock_of, holder, with_holder}
use Rattle.step_core.specs.Shown.{shown, pending, writing, row_after, rows_after, book_after}

-- what the holder of the leaf lock of w is about to write
abbrev pub pending_at : List (Option Activity) → List (Option ℕ) → ℕ → Option Call
pending_at threads locks w = pending threads (get_or locks w None)

pub length-rows_after : (threads : List (Option Activity)) (locks : List (Option ℕ)) (rows : List (List ℕ)) → length (rows_after threads locks rows) ≡ length rows
length-rows_after threads locks [] = refl
length-rows_after threads [] (row ∷ rows) = refl
length-rows_after threads (lock ∷ locks) (row ∷ rows) = ap suc (length-rows_after threads locks rows)

-- the shown row of a worker
pub rows_after-at : (threads : List (Option Activity)) (locks : List (Option ℕ)) (rows : List (List ℕ)) (w : ℕ) → w < length rows
    → get_or (rows_after threads locks rows) w [] ≡ row_after (pending_at threads locks w) (get_or rows w [])
rows_after-at threads locks [] w h = absurd (omega arith)
rows_after-at threads [] (row ∷ rows) zero h = refl
rows_after-at threads [] (row ∷ rows) (suc w) h = refl
rows_after-at threads (lock ∷ locks) (row ∷ rows) zero h = refl
rows_after-at threads (lock ∷ locks) (row ∷ rows) (suc w) h = rows_after-at threads locks rows w (omega arith)

-- the rows are as written if nothing is about to be written
pub rows_after-none : (threads : List (Option Activity)) (locks : List (Option ℕ)) (rows : List (List ℕ))
    → ((w : ℕ) → pending_at threads locks w ≡ None) → rows_after threads locks rows ≡ rows
rows_after-none threads locks [] none = refl
rows_after-none threads [] (row ∷ rows) none = refl
rows_after-none threads (lock ∷ locks) (row ∷ rows) none =
    let here : pending threads lock ≡ None = none 0 in
    let rest : rows_after threads locks rows ≡ rows = rows_after-none threads locks rows (λ w. none (suc w)) in
    rw (here, rest) refl

-- the rows stay if nothing else is about to be written
pub rows_after-same : (threads threads' : List (Option Activity)) (locks locks' : List (Option ℕ)) (rows : List (List ℕ))
    → ((w : ℕ) → pending_at threads' locks' w ≡ pending_at threads locks w)
    → rows_after threads' locks' rows ≡ rows_after threads locks rows
rows_after-same threads threads' locks locks' [] same = refl
rows_after-same threads threads' [] [] (row ∷ rows) same = refl
rows_after-same threads threads' [] (lock ∷ locks') (row ∷ rows) same = rows_after-none threads' (lock ∷ locks') (row ∷ rows) same
rows_after-same threads threads' (lock ∷ locks) [] (row ∷ rows) same = sym (rows_after-none threads (lock ∷ locks) (row ∷ rows) (λ w. sym (same w)))
rows_after-same threads threads' (lock ∷ locks) (lock' ∷ locks') (row ∷ rows) same =
    let here : pending threads' lock' ≡ pending threads lock = same 0 in
    let rest : rows_after threads' locks' rows ≡ rows_after threads locks rows = rows_after-same threads threads' locks locks' rows (λ w. same (suc w)) in
    rw (here, rest) refl

-- a worker's write becomes pending: the shown row is as after the call
pub rows_after-begun : (threads threads' : List (Option Activity)) (locks : List (Option ℕ)) (rows : List (List ℕ)) (w : ℕ) (call : Call)
    → w < length rows → pending_at threads locks w ≡ None → pending_at threads' locks w ≡ Some call
    → ((v : ℕ) → v ≢ w → pending_at threads' locks v ≡ pending_at threads locks v)
    → rows_after threads' locks rows ≡ set (rows_after threads locks rows) w (row_effect (get_or (rows_after threads locks rows) w []) call)
rows_after-begun threads threads' locks [] w call h none some others = absurd (omega arith)
rows_after-begun threads threads' [] (row ∷ rows) w call h none some others = cc
rows_after-begun threads threads' (lock ∷ locks) (row ∷ rows) zero call h none some others =
    let rest : rows_after threads' locks rows ≡ rows_after threads locks rows = rows_after-same threads threads' locks locks rows (λ v. others (suc v) (λ e. absurd (omega (arith, e)))) in
    rw (some, none, rest) refl
rows_after-begun threads threads' (lock ∷ locks) (row ∷ rows) (suc w) call h none some others =
    let here : pending threads' lock ≡ pending threads lock = others 0 (λ e. absurd (omega (arith, e))) in
    let rest : rows_after threads' locks rows ≡ set (rows_after threads locks rows) w (row_effect (get_or (rows_after threads locks rows) w []) call) =
    rows_after-begun threads threads' locks rows w call (omega arith) none some (λ v ne. others (suc v) (λ e. ne (omega (arith, e)))) in
    rw (here, rest) refl

-- a worker's write is made: the shown rows stay
pub rows_after-written : (threads threads' : List (Option Activity)) (locks : List (Option ℕ)) (rows : List (List ℕ)) (w : ℕ) (call : Call)
    → w < length rows → pending_at threads locks w ≡ Some call → pending_at threads' locks w ≡ None
    → ((v : ℕ) → v ≢ w → pending_at threads' locks v ≡ pending_at threads locks v)
    → rows_after threads' locks (set rows w (row_effect (get_or rows w []) call)) ≡ rows_after threads locks rows
rows_after-written threads threads' locks [] w call h some none others = absurd (omega arith)
rows_after-written threads threads' [] (row ∷ rows) w call h some none others = cc
rows_after-written threads threads' (lock ∷ locks) (row ∷ rows) zero call h some none others =
    let rest : rows_after threads' locks rows ≡ rows_after threads locks rows = rows_after-same threads threads' locks locks rows (λ v. others (suc v) (λ e. absurd (omega (arith, e)))) in
    rw (some, none, rest) refl
rows_after-written threads threads' (lock ∷ locks) (row ∷ rows) (suc w) call h some none others =
    let here : pending threads' lock ≡ pending threads lock = others 0 (λ e. absurd (omega (arith, e))) in
    let rest : rows_after threads' locks (set rows w (row_effect (get_or rows w []) call)) ≡ rows_after threads locks rows =
    rows_after-written threads threads' locks rows w call (omega arith) some none (λ v ne. others (suc v) (λ e. ne (omega (arith, e)))) in
    rw (here, rest) refl

-- what the holder of a lock is about to write
abbrev pub pends : List (Option Activity) → Locks → LockName → Option Call
pends threads locks lock = pending threads (holder locks lock)

pub pending-other : (threads : List (Option Activity)) (t : ℕ) (x : Option Activity) (o : Option ℕ) → (o ≡ Some t → ⊥) → pending (set threads t x) o ≡ pending threads o
pending-other threads t x None ne = refl
pending-other threads t x (Some u) ne = ap writing (get_or-set_other threads t u x None (λ e. ne (ap Some e)))

pub pending-own : (threads : List (Option Activity)) (t : ℕ) (x : Option Activity) → t < length threads → pending (set threads t x) (Some t) ≡ writing x
pending-own threads t x h = ap writing (get_or-set_same threads t x None h)

-- a thread that does something is in range
pub active_in_range : (threads : List (Option Activity)) (t : ℕ) (a : Activity) → get_or threads t None ≡ Some a → t < length threads
active_in_range threads t a e = at (cases_lt t (length threads)) where
  at : (t < length threads) ⊎ (length threads ≤ t) → t < length threads
  at (inl h) = h
  at (inr h) = let none : get_or threads t None ≡ None = get_or_past threads t None h in let bad : None ≡ Some a = sym none ∙ e in cc

pub lock_cases : (l k : LockName) → (l ≡ k) ⊎ (l ≡ k → ⊥)
lock_cases (Leaf w) (Leaf v) = at (cases_eq w v) where
  at : (w ≡ v) ⊎ (w ≡ v → ⊥) → (Leaf w ≡ Leaf v) ⊎ (Leaf w ≡ Leaf v → ⊥)
  at (inl e) = inl (ap Leaf e)
  at (inr ne) = inr (λ e. ne (leaf_number e)) where
    leaf_number : Leaf w ≡ Leaf v → w ≡ v
    leaf_number e = cc
lock_cases (Leaf w) TableLock = inr (λ e. cc)
lock_cases (Leaf w) NoLock = inr (λ e. cc)
lock_cases TableLock (Leaf v) = inr (λ e. cc)
lock_cases TableLock TableLock = inl refl
lock_cases TableLock NoLock = inr (λ e. cc)
lock_cases NoLock (Leaf v) = inr (λ e. cc)
lock_cases NoLock TableLock = inr (λ e. cc)
lock_cases NoLock NoLock = inl refl

pub holder-with_other : (locks : Locks) (l k : LockName) (t : Option ℕ) → (k ≡ l → ⊥) → holder (with_holder locks l t) k ≡ holder locks k
holder-with_other locks (Leaf w) (Leaf v) t ne = get_or-set_other locks.leaves w v t None (λ e. ne (ap Leaf e))
holder-with_other locks (Leaf w) TableLock t ne = refl
holder-with_other locks (Leaf w) NoLock t ne = refl
holder-with_other locks TableLock (Leaf v) t ne = refl
holder-with_other locks TableLock TableLock t ne = absurd (ne refl)
holder-with_other locks TableLock NoLock t ne = refl
holder-with_other locks NoLock k t ne = refl

-- the table that is shown stays if the same writes are pending
pub shown-same : (old new : State) → new.written ≡ old.written
    → ((l : LockName) → pends new.threads new.locks l ≡ pends old.threads old.locks l) → shown new ≡ shown old
shown-same old new written same =
    let book : book_after (pending new.threads new.locks.table) old.written.book ≡ book_after (pending old.threads old.locks.table) old.written.book = ap (λ (o : Option Call). book_after o old.written.book) (same TableLock) in
    let rows : rows_after new.threads new.locks.leaves old.written.rows ≡ rows_after old.threads old.locks.leaves old.written.rows =
    rows_after-same old.threads new.threads old.locks.leaves new.locks.leaves old.written.rows (λ w. same (Leaf w)) in
    rw (written, book, rows) refl

leaf_number : (w v : ℕ) → Leaf w ≡ Leaf v → w ≡ v
leaf_number w v e = cc

-- a call of the book
whole_begun : (old new : State) (call : Call) → new.written ≡ old.written
    → pending old.threads old.locks.table ≡ None → pending new.threads old.locks.table ≡ Some call → new.locks ≡ old.locks
    → ((l : LockName) → (l ≡ TableLock → ⊥) → pends new.threads old.locks l ≡ pends old.threads old.locks l)
    → ((rows : List (List ℕ)) → rows_effect rows call ≡ rows)
    → shown new ≡ effect (shown old) call
whole_begun old new call written none some locks others same =
    let rows : rows_after new.threads old.locks.leaves old.written.rows ≡ rows_after old.threads old.locks.leaves old.written.rows =
    rows_after-same old.threads new.threads old.locks.leaves old.locks.leaves old.written.rows (λ w. others (Leaf w) (λ e. cc)) in
    rw (locks, written, some, none, rows, same) refl

whole_written : (old new : State) (call : Call) → new.written ≡ effect old.written call
    → pending old.threads old.locks.table ≡ Some call → pending new.threads old.locks.table ≡ None → new.locks ≡ old.locks
    → ((l : LockName) → (l ≡ TableLock → ⊥) → pends new.threads old.locks l ≡ pends old.threads old.locks l)
    → ((rows : List (List ℕ)) → rows_effect rows call ≡ rows)
    → shown new ≡ shown old
whole_written old new call written some none locks others same =
    let rows : rows_after new.threads old.locks.leaves old.written.rows ≡ rows_after old.threads old.locks.leaves old.written.rows =
    rows_after-same old.threads new.threads old.locks.leaves old.locks.leaves old.written.rows (λ w. others (Leaf w) (λ e. cc)) in
    rw (locks, written, some, none, same, rows) refl

-- the write of a call becomes pending: the shown table is as after the call
pub shown-begun : (old new : State) (slots : ℕ) (call : Call) → new.written ≡ old.written → HasLock (lock_of call)
    → IsInRange slots (length old.written.rows) call
    → pends old.threads old.locks (lock_of call) ≡ None → pends new.threads old.locks (lock_of call) ≡ Some call → new.locks ≡ old.locks
    → ((l : LockName) → (l ≡ lock_of call → ⊥) → pends new.threads old.locks l ≡ pends old.threads old.locks l)
    → shown new ≡ effect (shown old) call
shown-begun old new slots (Get w m) written has range none some locks others =
    let rows : rows_after new.threads old.locks.leaves old.written.rows ≡ rows_effect (rows_after old.threads old.locks.leaves old.written.rows) (Get w m) =
    rows_after-begun old.threads new.threads old.locks.leaves old.written.rows w (Get w m) range.1 none some (λ v ne. others (Leaf v) (λ e. ne (leaf_number v w e))) in
    let book : pending new.threads old.locks.table ≡ pending old.threads old.locks.table = others TableLock (λ e. cc) in
    rw (locks, written, book, rows) refl
shown-begun old new slots (Put w m) written has range none some locks others =
    let rows : rows_after new.threads old.locks.leaves old.written.rows ≡ rows_effect (rows_after old.threads old.locks.leaves old.written.rows) (Put w m) =
    rows_after-begun old.threads new.threads old.locks.leaves old.written.rows w (Put w m) range.1 none some (λ v ne. others (Leaf v) (λ e. ne (leaf_number v w e))) in
    let book : pending new.threads old.locks.table ≡ pending old.threads old.locks.table = others TableLock (λ e. cc) in
    rw (locks, written, book, rows) refl
shown-begun old new slots (Query m) written has range none some locks others = absurd has
shown-begun old new slots (BeginLoad m) written has range none some locks others = whole_begun old new (BeginLoad m) written none some locks others (λ rows. refl)
shown-begun old new slots (EndLoad m ok) written has range none some locks others = whole_begun old new (EndLoad m ok) written none some locks others (λ rows. refl)
shown-begun old new slots (BeginDrain m) written has range none some locks others = whole_begun old new (BeginDrain m) written none some locks others (λ rows. refl)
shown-begun old new slots (BeginRemove m) written has range none some locks others = whole_begun old new (BeginRemove m) written none some locks others (λ rows. refl)
shown-begun old new slots (EndRemove m) written has range none some locks others = whole_begun old new (EndRemove m) written none some locks others (λ rows. refl)
shown-begun old new slots (CancelRemove m) written has range none some locks others = whole_begun old new (CancelRemove m) written none some locks others (λ rows. refl)

-- the write of a call is made: the shown table stays
pub shown-written : (old new : State) (slots : ℕ) (call : Call) → new.written ≡ effect old.written call → HasLock (lock_of call)
    → IsInRange slots (length old.written.rows) call
    → pends old.threads old.locks (lock_of call) ≡ Some call → pends new.threads old.locks (lock_of call) ≡ None → new.locks ≡ old.locks
    → ((l : LockName) → (l ≡ lock_of call → ⊥) → pends new.threads old.locks l ≡ pends old.threads old.locks l)
    → shown new ≡ shown old
shown-written old new slots (Get w m) written has range some none locks others =
    let rows : rows_after new.threads old.locks.leaves (rows_effect old.written.rows (Get w m)) ≡ rows_after old.threads old.locks.leaves old.written.rows =
    rows_after-written old.threads new.threads old.locks.leaves old.written.rows w (Get w m) range.1 some none (λ v ne. others (Leaf v) (λ e. ne (leaf_number v w e))) in
    let book : pending new.threads old.locks.table ≡ pending old.threads old.locks.table = others TableLock (λ e. cc) in
    rw (locks, written, book, rows) refl
shown-written old new slots (Put w m) written has range some none locks others =
    let rows : rows_after new.threads old.locks.leaves (rows_effect old.written.rows (Put w m)) ≡ rows_after old.threads old.locks.leaves old.written.rows =
    rows_after-written old.threads new.threads old.locks.leaves old.written.rows w (Put w m) range.1 some none (λ v ne. others (Leaf v) (λ e. ne (leaf_number v w e))) in
    let book : pending new.threads old.locks.table ≡ pending old.threads old.locks.table = others TableLock (λ e. cc) in
    rw (locks, written, book, rows) refl
shown-written old new slots (Query m) written has range some none locks others = absurd has
shown-written old new slots (BeginLoad m) written has range some none locks others = whole_written old new (BeginLoad m) written some none locks others (λ rows. refl)
shown-written old new slots (EndLoad m ok) written has range some none locks others = whole_written old new (EndLoad m ok) written some none locks others (λ rows. refl)
shown-written old new slots (BeginDrain m) written has range some none locks others = whole_written old new (BeginDrain m) written some none locks others (λ rows. refl)
shown-written old new slots (BeginRemove m) written has range some none locks others = whole_written old new (BeginRemove m) written some none locks others (λ rows. refl)
shown-written old new slots (EndRemove m) written has range some none locks others = whole_written old new (EndRemove m) written some none locks others (λ rows. refl)
shown-written old new slots (CancelRemove m) written has range some none locks others = whole_written old new (CancelRemove m) written some none locks others (λ rows. refl)
