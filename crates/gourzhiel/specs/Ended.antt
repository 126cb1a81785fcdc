-- How a call on a handle ended: the handle before, the number that is answered, the handle after.
use Rattle.std.specs.Prelude.{◌≡◌, ℕ, ◌<◌, ◌≤◌, ◌==◌, length, slice_index, Result, Option, Some, None, MatchOption, MatchBool}
use Rattle.dep_index.specs.declared.table.calls.Reply.{Reply}
use Rattle.dep_index.specs.declared.table.refusals.BeginLoadError.{BeginLoadError}
use Rattle.dep_index.specs.declared.table.states.ModuleState.{ModuleState}
use Rattle.dep_index.specs.Refusals.{reply_of, begin_load_refusal}
use Rattle.root_row.specs.declared.calls.LeafCall.TheVariants.{Get, Put}
use Rattle.root_row.specs.declared.calls.BookCall.{BookCall}
use Rattle.root_row.specs.declared.calls.BookCall.TheVariants.{BeginLoad}
use Rattle.root_row.specs.World.{slots}
use Rattle.root_row.specs.Views.{state_in, count_of, book_of}
use Rattle.root_row.specs.Seats.{Seated}
use Rattle.root_row.specs.Steps.{LeafAnswered, ReaderAnswered}
use Rattle.root_row.specs.StepsMade.{SameView, OneLoad}
use Rattle.root_row.specs.BookSteps.{BookAnswered}
use Rattle.use_indicator.specs.Counted.{TrySteps, GivenUp, PutSteps}
use Rattle.managed_table.specs.Attempts.{attempt_of}
use Rattle.gourzhiel.specs.Numbers.{reply_at, busy, out_of_range}
use Rattle.gourzhiel.specs.Endings.{IsNumberOf, IsNumberOfState, NeedTold}

-- the slot is none of the table, and nothing changed
abbrev pub IsOutside : Seated → ℕ → Seated → Type 0
IsOutside before slot after = (slots before.view.world ≤ slot) × (after ≡ before)

-- the slot is one of the table, the number is that of a reply, and the call made this answer; its row is the same
pub record IsAnswered (Answers : Reply → Type 0) (before : Seated) (slot : ℕ) (reply : Option Reply) (after : Seated) : Type 0 where
  pub inside : slot < slots before.view.world
  pub answer : MatchOption reply ⊥ Answers
  pub row : after.row ≡ before.row

-- the slot is out of range, or the call was answered
abbrev pub IsEnded : (Reply → Type 0) → Seated → ℕ → ℕ → Seated → Type 0
IsEnded Answers before slot number after =
    MatchBool (number == out_of_range) (IsOutside before slot after) (IsAnswered Answers before slot (reply_at number 0) after)

-- a put, which makes the steps that a leaf's put makes
abbrev pub PutEnded : Seated → ℕ → ℕ → Seated → Type 0
PutEnded before slot number after =
    IsEnded (λ reply. LeafAnswered before.view slot Put reply after.view × PutSteps slot (count_of before.view slot) before after) before slot number after

-- a get of so many tries was busy: the leaf holds no reference, all tries were made and missed, and the view stays
pub record WasBusy (before : Seated) (slot tries : ℕ) (after : Seated) : Type 0 where
  pub inside : slot < slots before.view.world
  pub none_held : count_of before.view slot ≡ 0
  pub view : SameView before after
  pub missed : GivenUp tries slot before after

-- a get of so many tries: it was busy, or it ended, within these tries; a leaf that holds the slot makes one load
abbrev pub GetEnded : Seated → ℕ → ℕ → ℕ → Seated → Type 0
GetEnded before slot tries number after =
    MatchBool (number == busy) (WasBusy before slot tries after)
    (IsEnded (λ reply. LeafAnswered before.view slot Get reply after.view × TrySteps tries slot (count_of before.view slot) reply before after) before slot number after)

-- a reader's query, which makes one load
abbrev pub QueryEnded : Seated → ℕ → ℕ → Seated → Type 0
QueryEnded before slot number after = IsEnded (λ reply. ReaderAnswered before.view slot reply after.view × OneLoad slot before after) before slot number after

-- a call of the book, whose refusals are these replies: the slot is out of range, or the call was answered; its row is the same
abbrev pub BookDid : {E : Type 0} → (E → Reply) → Seated → ℕ → BookCall → Option (Result (Unit {0}) E) → Seated → Type 0
BookDid refusal before slot call None after = IsOutside before slot after
BookDid refusal before slot call (Some answer) after =
    (slot < slots before.view.world) × BookAnswered before.view slot call (reply_of refusal answer) after.view × (after.row ≡ before.row)

-- it ended so, and the number says how
abbrev pub BookEnded : {E : Type 0} → (E → Reply) → Seated → ℕ → BookCall → ℕ → Seated → Type 0
BookEnded {E} refusal before slot call number after =
    (answer : Option (Result (Unit {0}) E)) × IsNumberOf refusal (attempt_of answer) number × BookDid refusal before slot call answer after

-- the begin of a load, which also tells the need that is not live
abbrev pub BeginLoadEnded : Seated → ℕ → ℕ → ℕ → ℕ → Seated → Type 0
BeginLoadEnded before slot was number need after =
    (answer : Option (Result (Unit {0}) BeginLoadError)) × IsNumberOf begin_load_refusal (attempt_of answer) number × NeedTold (attempt_of answer) was need
    × BookDid begin_load_refusal before slot BeginLoad answer after

-- the state of a module
abbrev pub StateTold : Seated → ℕ → ℕ → Type 0
StateTold book slot number =
    (answer : Option ModuleState) × IsNumberOfState (attempt_of answer) number
    × MatchOption answer (slots book.view.world ≤ slot) (λ state. (slot < slots book.view.world) × (state ≡ state_in book.view slot))

-- the slot of the loaded module at a place, or what was there
abbrev pub PlaceTold : Seated → ℕ → ℕ → ℕ → ℕ → Type 0
PlaceTold book place was number slot =
    let order = (book_of book.view).order in
    MatchBool (number == out_of_range) ((length order ≤ place) × (slot ≡ was))
    ((number ≡ 0) × (place < length order) × (slot ≡ slice_index order place))

-- how often a leaf holds a slot, or what was there
abbrev pub CountTold : Seated → ℕ → ℕ → ℕ → ℕ → Type 0
CountTold leaf slot was number count =
    MatchBool (number == out_of_range) ((slots leaf.view.world ≤ slot) × (count ≡ was))
    ((number ≡ 0) × (slot < slots leaf.view.world) × (count ≡ count_of leaf.view slot))
