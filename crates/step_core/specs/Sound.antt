-- For proofs alone: what holds of every state that the machine can come to.
use Rattle.std.specs.Prelude.{◌≡◌, ℕ, ◌<◌, List, length, slice_index, Option, Some, None}
use Rattle.dep_index.specs.declared.table.calls.Call.{Call}
use Rattle.dep_index.specs.declared.table.calls.Call.TheVariants.{Get}
use Rattle.dep_index.specs.Table.{Module, Table, count_of}
use Rattle.dep_index.specs.Calls.{reply, opening, IsInRange}
use Rattle.dep_index.specs.Laws.{IsShaped, IsLawful}
use Rattle.dep_index.specs.Words.{closed, word_of}
use Rattle.step_core.specs.declared.steps.Step.{Step}
use Rattle.step_core.specs.declared.steps.Line.{Line}
use Rattle.step_core.specs.declared.steps.Line.TheVariants.{Lock, Word, Exchange, Write, Return}
use Rattle.step_core.specs.declared.steps.Activity.{Activity}
use Rattle.step_core.specs.Machine.{State, Locks, LockName, Leaf, TableLock, NoLock, lock_of, holder, activity, start, step, step_refusal}
use Rattle.step_core.specs.Shown.{shown}
use Rattle.step_core.specs.StepLaw.{StepLaw}

-- the thread holds the lock, if there is one to hold
abbrev pub Holds : Locks → ℕ → LockName → Type 0
Holds locks t (Leaf w) = holder locks (Leaf w) ≡ Some t
Holds locks t TableLock = holder locks TableLock ≡ Some t
Holds locks t NoLock = Unit {0}

abbrev pub HasLock : LockName → Type 0
HasLock (Leaf w) = Unit {0}
HasLock TableLock = Unit {0}
HasLock NoLock = ⊥

-- a get, whose leaf does not hold the slot
abbrev pub IsArriving : Table → Call → Type 0
IsArriving written (Get w m) = count_of written w m ≡ 0
IsArriving written _ = ⊥

-- what is true of a thread at a line of its call
abbrev pub IsPlacedAt : Locks → Table → ℕ → Call → Line → Type 0
IsPlacedAt locks written t call Lock = HasLock (lock_of call)
IsPlacedAt locks written t call Word = Holds locks t (lock_of call)
IsPlacedAt locks written t call (Exchange word) =
    Holds locks t (lock_of call) × IsArriving written call × (word < closed)
IsPlacedAt locks written t call Write = HasLock (lock_of call) × Holds locks t (lock_of call)
IsPlacedAt locks written t call (Return reply) = Holds locks t (lock_of call)

pub record IsPlaced (slots workers invoked : ℕ) (locks : Locks) (written : Table) (t : ℕ) (a : Activity) : Type 0 where
  pub range : IsInRange slots workers a.call
  pub number : a.number < invoked
  pub place : IsPlacedAt locks written t a.call a.line

-- the thread is past the line that takes the lock
abbrev pub IsPastLock : Line → Type 0
IsPastLock Lock = ⊥
IsPastLock Word = Unit {0}
IsPastLock (Exchange word) = Unit {0}
IsPastLock Write = Unit {0}
IsPastLock (Return reply) = Unit {0}

abbrev pub IsInside : LockName → Option Activity → Type 0
IsInside lock None = ⊥
IsInside lock (Some a) = (lock_of a.call ≡ lock) × IsPastLock a.line

pub record IsSound (catalogue : List Module) (workers : ℕ) (state : State) : Type 0 where
  pub few : workers < closed
  pub shape : IsShaped (length catalogue) workers state.written
  pub words : length state.words ≡ length catalogue
  pub leaves : length state.locks.leaves ≡ workers
  -- who holds a lock is inside a call under it
  pub inside : (lock : LockName) (t : ℕ) → holder state.locks lock ≡ Some t → IsInside lock (activity state t)
  pub placed : (t : ℕ) (a : Activity) → activity state t ≡ Some a → IsPlaced (length catalogue) workers state.invoked state.locks state.written t a
  -- each word belongs to its slot of the shown table
  pub word : (m : ℕ) → m < length catalogue → slice_index state.words m ≡ word_of (shown state) m
  pub lawful : IsLawful catalogue (shown state)

-- the opening state is sound, and shows the opening table
abbrev pub StartsSound : Type 0
StartsSound =
    (catalogue : List Module) (workers threads calls : ℕ) → workers < closed
    → IsSound catalogue workers (start catalogue workers threads calls)
    × (shown (start catalogue workers threads calls) ≡ opening catalogue workers)

-- a step that is not refused keeps a sound state sound, and is right for the table that it shows
abbrev pub StepsAreRight : Type 0
StepsAreRight =
    (catalogue : List Module) (workers : ℕ) (state : State) (s : Step) → IsSound catalogue workers state
    → step_refusal catalogue state s ≡ None
    → IsSound catalogue workers (step catalogue state s).1
    × StepLaw catalogue state s (step catalogue state s).0 (step catalogue state s).1
