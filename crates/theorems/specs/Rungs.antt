-- The row of threads, as a state of the machine of steps.
use Rattle.std.specs.Prelude.{◌≡◌, ◌≢◌, ℕ, ◌+◌, ◌-◌, ◌==◌, true, false, List, map, slice_index, replicate, Some, None, if◌then◌else◌}
use Rattle.std.specs.List.{range_with_len}
use Rattle.atomic_table.specs.Table as rows
use Rattle.dep_index.specs.declared.table.calls.Call.TheVariants.{Get, Put, InUse as Query, EndLoad, BeginDrain, BeginRemove, EndRemove, CancelRemove}
use Rattle.dep_index.specs.declared.table.calls.Reply.TheVariants.{Done, Yes, No}
use Rattle.dep_index.specs.declared.table.calls.Reply.{Reply}
use Rattle.dep_index.specs.Table.{Module, Table, count_of, state_of, is_draining}
use Rattle.dep_index.specs.Words.{word_step, shows_holders, takes_effect, close_step, is_open, closed, drained}
use Rattle.dep_index.specs.declared.words.Outcome.TheVariants.{GoesOn}
use Rattle.dep_index.specs.Calls.{book_refusal}
use Rattle.root_row.specs.declared.view.World.{World}
use Rattle.root_row.specs.declared.view.View.{View}
use Rattle.root_row.specs.declared.calls.LeafCall.TheVariants as leaf_is
use Rattle.root_row.specs.declared.calls.BookCall.{BookCall}
use Rattle.root_row.specs.World.{slots, place_of}
use Rattle.root_row.specs.History.{table_after}
use Rattle.root_row.specs.Rule.{RowRule}
use Rattle.root_row.specs.Steps.{leaf_look}
use Rattle.root_row.specs.BookSteps.{book_call, book_look}
use Rattle.step_core.specs.Machine.{State}
use Rattle.step_core.specs.Shown.{shown}
use Rattle.step_core.specs.Sound.{IsSound}

-- the machine at rest: all writes are done, no lock is held, and no thread is in a call
abbrev pub at_rest : Table → ℕ → List ℕ → ℕ → ℕ → ℕ → State
at_rest t workers words threads invoked calls =
    record {
      written = t;
      words = words;
      locks = record { leaves = replicate workers None; table = None };
      threads = replicate threads None;
      invoked = invoked;
      calls = calls;
    }

-- the words of the slots, without those between them
abbrev pub slot_words : World → List ℕ → List ℕ
slot_words world words = map (λ m. slice_index words (place_of m)) (range_with_len 0 (slots world))

-- between steps the row is a machine at rest: its words and the table after its history are a sound state, which shows that table
abbrev pub RowsAreMachinesAtRest : Type 0
RowsAreMachinesAtRest =
    (world : World) (s : rows.State (Unit {0}) View) (threads invoked calls : ℕ) (rule : RowRule world s)
    → let state = at_rest (table_after world rule.history) world.workers (slot_words world s.words) threads invoked calls in
    IsSound world.catalogue world.workers state × (shown state ≡ table_after world rule.history)

-- what a look of the row answers is what the machine's step on the word answers, over the same table
pub record LooksAreWordSteps (world : World) (t : Table) (m found : ℕ) : Type 0 where
  pub get : (w : ℕ) → leaf_look leaf_is.Get (count_of t w m) found ≡ (word_step world.catalogue t (Get w m) found).outcome
  pub put : (w : ℕ) → (count_of t w m == 1) ≢ true → leaf_look leaf_is.Put (count_of t w m) found ≡ (word_step world.catalogue t (Put w m) found).outcome
  pub query : word_step world.catalogue t (Query m) found ≡ takes_effect found (if shows_holders found then Yes else No)
  pub book : (kind : BookCall) (answer : Reply) → book_look world t.book kind m ≡ Some answer
      → word_step world.catalogue t (book_call kind m) found ≡ takes_effect found answer

abbrev pub AllLooksAreWordSteps : Type 0
AllLooksAreWordSteps = (world : World) (t : Table) (m found : ℕ) → LooksAreWordSteps world t m found

-- which word the machine's step on the word leaves, if the row has a step that writes
pub record WritesAreWordSteps (catalogue : List Module) (t : Table) (m found : ℕ) : Type 0 where
  pub arrive : (w : ℕ) → count_of t w m ≡ 0 → is_open found ≡ true → word_step catalogue t (Get w m) found ≡ record { word = found; outcome = GoesOn found }
  pub depart : (w : ℕ) → count_of t w m ≡ 1 → word_step catalogue t (Put w m) found ≡ takes_effect (found - 1) Done
  pub drain : book_refusal catalogue t.book (BeginDrain m) ≡ None → word_step catalogue t (BeginDrain m) found ≡ takes_effect (found + drained) Done
  pub close : book_refusal catalogue t.book (BeginRemove m) ≡ None → word_step catalogue t (BeginRemove m) found ≡ close_step 0 found
  pub open_it : book_refusal catalogue t.book (EndLoad m true) ≡ None → found ≡ closed → word_step catalogue t (EndLoad m true) found ≡ takes_effect 0 Done
  pub close_drained : book_refusal catalogue t.book (EndRemove m) ≡ None → is_draining (state_of t.book m) ≡ true
      → word_step catalogue t (EndRemove m) found ≡ close_step drained found
  pub undrain : book_refusal catalogue t.book (CancelRemove m) ≡ None → is_draining (state_of t.book m) ≡ true
      → word_step catalogue t (CancelRemove m) found ≡ takes_effect (found - drained) Done
  pub reopen : book_refusal catalogue t.book (CancelRemove m) ≡ None → is_draining (state_of t.book m) ≡ false → found ≡ closed
      → word_step catalogue t (CancelRemove m) found ≡ takes_effect 0 Done

abbrev pub AllWritesAreWordSteps : Type 0
AllWritesAreWordSteps = (catalogue : List Module) (t : Table) (m found : ℕ) → WritesAreWordSteps catalogue t m found
