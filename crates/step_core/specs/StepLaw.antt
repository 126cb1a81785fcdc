-- What each step means for the table that the machine shows: each call takes effect at one point
-- (linearizability: Herlihy and Wing 1990).
use Rattle.std.specs.Prelude.{◌≡◌, ℕ, ◌<◌, List, length, slice_index, None, IsSomeAnd}
use Rattle.dep_index.specs.declared.table.calls.Reply.{Reply}
use Rattle.dep_index.specs.Table.{Module}
use Rattle.dep_index.specs.Calls.{reply, next}
use Rattle.dep_index.specs.Words.{closed, word_of}
use Rattle.step_core.specs.declared.steps.Step.{Step}
use Rattle.step_core.specs.declared.steps.Step.TheVariants.{Invoke, Go}
use Rattle.step_core.specs.declared.steps.Event.{Event}
use Rattle.step_core.specs.declared.steps.Event.TheVariants.{Point}
use Rattle.step_core.specs.declared.steps.Activity.{Activity}
use Rattle.step_core.specs.Machine.{State, activity, start, step, step_refusal}
use Rattle.step_core.specs.Shown.{shown, ShowsPendingWrites}
use Rattle.step_core.specs.Run.{IsAccepted, state_after}

-- the call answers what the shown table answers, and makes the shown table its next
abbrev pub TakesEffect : List Module → State → State → ℕ → Reply → Activity → Type 0
TakesEffect catalogue old new n r a =
    (a.number ≡ n) × (r ≡ reply catalogue (shown old) a.call) × (shown new ≡ next catalogue (shown old) a.call)

-- at a point the thread's call takes effect; every other step leaves the shown table
abbrev pub StepLaw : List Module → State → Step → Event → State → Type 0
StepLaw catalogue old (Go t) (Point n r) new = IsSomeAnd (activity old t) (TakesEffect catalogue old new n r)
StepLaw catalogue old (Invoke t call) (Point n r) new = ⊥
StepLaw catalogue old step _ new = shown new ≡ shown old

-- each word belongs to its slot of the shown table: Open n if it is Live, Drain n if it is Draining,
-- else Closed, n the workers that hold it
abbrev pub WordsAreRight : List Module → State → Type 0
WordsAreRight catalogue state =
    (m : ℕ) → m < length catalogue → slice_index state.words m ≡ word_of (shown state) m

-- in every run from the start the words are right, and the next step obeys the law
abbrev pub RunsObeyStepLaw : Type 0
RunsObeyStepLaw =
    (catalogue : List Module) (workers threads calls : ℕ) (steps : List Step) → workers < closed
    → let from = start catalogue workers threads calls in
    IsAccepted catalogue from steps
    → let state = state_after catalogue from steps in
    WordsAreRight catalogue state
    × ((s : Step) → step_refusal catalogue state s ≡ None
    → StepLaw catalogue state s (step catalogue state s).0 (step catalogue state s).1)

-- in every run the pending writes are shown
abbrev pub PendingWritesAreShown : Type 0
PendingWritesAreShown =
    (catalogue : List Module) (workers threads calls : ℕ) (steps : List Step) → workers < closed
    → let from = start catalogue workers threads calls in
    IsAccepted catalogue from steps → ShowsPendingWrites (state_after catalogue from steps)
