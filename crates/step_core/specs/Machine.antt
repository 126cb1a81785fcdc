-- The machine of steps: its states, and what each step does.
use Rattle.std.specs.Prelude.{ℕ, ◌+◌, ◌==◌, nat_lt, Bool, true, false, List, length, replicate, slice_index, slice_index_or, slice_set, Option, Some, None, is_some, if◌then◌else◌}
use Rattle.dep_index.specs.declared.table.calls.Call.{Call}
use Rattle.dep_index.specs.declared.table.calls.Call.TheVariants.{Get, Put, InUse as Query}
use Rattle.dep_index.specs.declared.table.calls.Reply.{Reply}
use Rattle.dep_index.specs.declared.table.calls.Reply.TheVariants.{Done}
use Rattle.dep_index.specs.Table.{Module, Table}
use Rattle.dep_index.specs.Calls.{opening, effect, slot_of, worker_of}
use Rattle.dep_index.specs.Words.{closed, word_step}
use Rattle.dep_index.specs.declared.words.Outcome.{Outcome}
use Rattle.dep_index.specs.declared.words.Outcome.TheVariants.{Effect, GoesOn}
use Rattle.dep_index.specs.declared.words.WordStep.{WordStep}
use Rattle.step_core.specs.declared.steps.Step.{Step}
use Rattle.step_core.specs.declared.steps.Step.TheVariants.{Invoke, Go}
use Rattle.step_core.specs.declared.steps.Event.{Event}
use Rattle.step_core.specs.declared.steps.Event.TheVariants.{Nothing, Invoked, Moved, Point, Returned}
use Rattle.step_core.specs.declared.steps.StepError.{StepError}
use Rattle.step_core.specs.declared.steps.StepError.TheVariants.{Thread, Worker, Slot, Calls}
use Rattle.step_core.specs.declared.steps.Line.{Line}
use Rattle.step_core.specs.declared.steps.Line.TheVariants.{Lock, Word, Exchange, Write, Return}
use Rattle.step_core.specs.declared.steps.Activity.{Activity}

-- the lock that a call is made under
pub data LockName : Type 0 where
  Leaf : ℕ → LockName
  TableLock : LockName
  NoLock : LockName

abbrev pub lock_of : Call → LockName
lock_of (Get w m) = Leaf w
lock_of (Put w m) = Leaf w
lock_of (Query m) = NoLock
lock_of _ = TableLock

-- which thread holds each worker's leaf lock, and the table lock
pub record Locks : Type 0 where
  pub leaves : List (Option ℕ)
  pub table : Option ℕ

abbrev pub holder : Locks → LockName → Option ℕ
holder locks (Leaf w) = slice_index_or locks.leaves w None
holder locks TableLock = locks.table
holder locks NoLock = None

abbrev pub with_holder : Locks → LockName → Option ℕ → Locks
with_holder locks (Leaf w) t = record { leaves = slice_set locks.leaves w t; table = locks.table }
with_holder locks TableLock t = record { leaves = locks.leaves; table = t }
with_holder locks NoLock t = locks

-- the book and the counts as they are written, the word of each slot, the locks, what each thread
-- does, how many calls were invoked, and how many may be
pub record State : Type 0 where
  pub written : Table
  pub words : List ℕ
  pub locks : Locks
  pub threads : List (Option Activity)
  pub invoked : ℕ
  pub calls : ℕ

abbrev pub activity : State → ℕ → Option Activity
activity state t = slice_index_or state.threads t None

abbrev pub with_activity : State → ℕ → Option Activity → State
with_activity state t a = record state { threads = slice_set state.threads t a }

-- the thread goes on at this line
abbrev pub at_line : State → ℕ → Activity → Line → State
at_line state t a line = with_activity state t (Some (record a { line = line }))

abbrev pub with_word : State → ℕ → ℕ → State
with_word state m word = record state { words = slice_set state.words m word }

abbrev pub first_line : Call → Line
first_line (Query m) = Word
first_line _ = Lock

-- only a call that is done has something to write; a query is never done
abbrev pub line_after : Reply → Line
line_after Done = Write
line_after reply = Return reply

-- a step on the word: the call takes effect, or goes on to the exchange
abbrev pub stepped : State → ℕ → Activity → ℕ → Outcome → Event × State
stepped state t a word (Effect reply) =
    (Point a.number reply, at_line (with_word state (slot_of a.call) word) t a (line_after reply))
stepped state t a word (GoesOn expected) =
    (Moved, at_line (with_word state (slot_of a.call) word) t a (Exchange expected))

abbrev pub looked : State → ℕ → Activity → WordStep → Event × State
looked state t a step = stepped state t a step.word step.outcome

-- the exchange is made, or it misses and the word is looked at again
abbrev pub exchanged : State → ℕ → Activity → ℕ → Bool → Event × State
exchanged state t a expected true =
    (Point a.number Done, at_line (with_word state (slot_of a.call) (expected + 1)) t a Write)
exchanged state t a expected false = (Moved, at_line state t a Word)

abbrev pub locked : State → ℕ → Activity → Bool → Event × State
locked state t a true = (Nothing, state)
locked state t a false =
    (Moved, at_line (record state { locks = with_holder state.locks (lock_of a.call) (Some t) }) t a Word)

-- the line of a call that a thread makes
abbrev pub line : List Module → State → ℕ → Activity → Line → Event × State
line catalogue state t a Lock = locked state t a (is_some (holder state.locks (lock_of a.call)))
line catalogue state t a Word =
    looked state t a (word_step catalogue state.written a.call (slice_index state.words (slot_of a.call)))
line catalogue state t a (Exchange expected) =
    exchanged state t a expected (slice_index state.words (slot_of a.call) == expected)
line catalogue state t a Write =
    (Moved, at_line (record state { written = effect state.written a.call }) t a (Return Done))
line catalogue state t a (Return reply) = (
  Returned a.number reply,
  with_activity (record state { locks = with_holder state.locks (lock_of a.call) None }) t None,
)

abbrev pub go : List Module → State → ℕ → Option Activity → Event × State
go catalogue state t None = (Nothing, state)
go catalogue state t (Some a) = line catalogue state t a a.line

abbrev pub invoke : State → ℕ → Call → Option Activity → Event × State
invoke state t call (Some a) = (Nothing, state)
invoke state t call None = (
  Invoked state.invoked,
  record (with_activity state t (Some (record { number = state.invoked; call = call; line = first_line call }))) { invoked = state.invoked + 1 },
)

-- what a step does that is not refused
abbrev pub step : List Module → State → Step → Event × State
step catalogue state (Invoke t call) = invoke state t call (activity state t)
step catalogue state (Go t) = go catalogue state t (activity state t)

abbrev pub unless : Bool → StepError → Option StepError → Option StepError
unless true error later = later
unless false error later = Some error

abbrev pub worker_exists : State → Option ℕ → Bool
worker_exists state None = true
worker_exists state (Some w) = nat_lt w (length state.written.rows)

-- why a step is refused: thread, worker or slot out of range, or no more calls
abbrev pub step_refusal : List Module → State → Step → Option StepError
step_refusal catalogue state (Go t) = unless (nat_lt t (length state.threads)) Thread None
step_refusal catalogue state (Invoke t call) =
    unless (nat_lt t (length state.threads)) Thread
    (unless (worker_exists state (worker_of call)) Worker
    (unless (nat_lt (slot_of call) (length catalogue)) Slot
    (if is_some (activity state t) then None else unless (nat_lt state.invoked state.calls) Calls None)))

-- every module Absent, every word Closed, no reference, no lock held
abbrev pub start : List Module → ℕ → ℕ → ℕ → State
start catalogue workers threads calls =
    record {
      written = opening catalogue workers;
      words = replicate (length catalogue) closed;
      locks = record { leaves = replicate workers None; table = None };
      threads = replicate threads None;
      invoked = 0;
      calls = calls;
    }

-- a machine over a catalogue
pub record Running : Type 0 where
  pub catalogue : List Module
  pub state : State
