-- The rule of the locks: a lock that is free has its own seat behind it; each call that this seat has made was made in one turn
-- of one pass; and each pass but the first came from another, which lists it.
use Rattle.std.specs.Prelude.{◌≡◌, ◌≢◌, ℕ, ◌<◌, ◌≤◌, List, [], ◌∷◌, length, slice_index, Some}
use mathlib.Core.Option as core
use lib.ListN.{get_elem?}
use Rattle.atomic_table.specs.Table.{State}
use Rattle.root_row.specs.declared.view.SeatAnswer.{SeatAnswer}
use Rattle.root_row.specs.Seats.{RowIs, Seated}
use Rattle.root_row.specs.World.{place_of}
use Rattle.root_row.specs.History.{SeatName, own_answers, StartsWith}
use Rattle.managed_table.specs.declared.view.Turn.{Turn}
use Rattle.managed_table.specs.declared.view.Taken.{Taken}
use Rattle.managed_table.specs.declared.view.Pass.{Pass}
use Rattle.managed_table.specs.declared.view.Passes.{Passes}
use Rattle.managed_table.specs.declared.rule.Setting.{Setting}
use Rattle.managed_table.specs.Kept.{seen}
use Rattle.managed_table.specs.Turns.{PassName, alone, new_pass, AreOrdered}

-- how many calls the seat has made itself, in what was seen
abbrev pub count : SeatName → List SeatAnswer → ℕ
count by seen = length (own_answers by seen)

-- the k-th call of the seat behind the lock was made in this turn
pub record IsIn (by : ℕ → SeatName) (lock k : ℕ) (turn : Turn) : Type 0 where
  pub same : turn.lock ≡ lock
  pub from : count (by lock) turn.before ≤ k
  pub below : k < count (by lock) turn.after

-- where a pass stands: its seat, and its place in the seat's view
abbrev pub Place : Type 0
Place = ℕ × ℕ

abbrev pub pass_in : core.Option Passes → ℕ → core.Option Pass
pass_in core.none k = core.none
pass_in (core.some v) k = get_elem? v.passes k

abbrev pub pass_at : List Passes → Place → core.Option Pass
pass_at views z = pass_in (get_elem? views z.0) z.1

-- what the seat behind each lock had seen when the lock was last free; the pass that has the lock; and, of each call of the seat
-- behind a lock, the name of the pass that made it and the place of the turn
pub record Accounts : Type 0 where
  pub logs : ℕ → List SeatAnswer
  pub holder : ℕ → Place
  pub who : ℕ → ℕ → PassName × ℕ

-- the pass of this name has this turn at the place k: it is a part of the log, and its calls were made in no other
pub record FitsTurn (by : ℕ → SeatName) (a : Accounts) (name : PassName) (k : ℕ) (turn : Turn) : Type 0 where
  pub begins : StartsWith (a.logs turn.lock) turn.after
  pub mine : (i : ℕ) → IsIn by turn.lock i turn → a.who turn.lock i ≡ (name, k)

-- the pass at z has taken this lock
pub record IsHeld (locks : ℕ) (a : Accounts) (words : List ℕ) (z : Place) (taken : Taken) : Type 0 where
  pub inside : taken.lock < locks
  pub holder : a.holder taken.lock ≡ z
  pub log : taken.before ≡ a.logs taken.lock
  pub shut : slice_index words (place_of taken.lock) ≢ 0

pub record FitsPass (row : RowIs) (locks : ℕ) (by : ℕ → SeatName) (a : Accounts) (words : List ℕ) (z : Place) (p : Pass) : Type 0 where
  pub same_row : p.row.value ≡ row
  pub held : (taken : Taken) → p.taken ≡ Some taken → IsHeld locks a words z taken
  pub turns : (k : ℕ) (turn : Turn) → get_elem? p.turns k ≡ core.some turn → FitsTurn by a p.name k turn

-- the k-th call of the seat behind the lock was made by the pass z.0, in its turn z.1
pub record IsMade (by : ℕ → SeatName) (z : PassName × ℕ) (views : List Passes) (lock k : ℕ) : Type 0 where
  pub place : Place
  pub pass : Pass
  pub at : pass_at views place ≡ core.some pass
  pub name : pass.name ≡ z.0
  pub turn : Turn
  pub there : get_elem? pass.turns z.1 ≡ core.some turn
  pub is_in : IsIn by lock k turn

-- a pass has taken this lock
pub record IsShut (views : List Passes) (lock : ℕ) : Type 0 where
  pub place : Place
  pub pass : Pass
  pub at : pass_at views place ≡ core.some pass
  pub taken : Taken
  pub has : pass.taken ≡ Some taken
  pub same : taken.lock ≡ lock

-- a pass of this name has this turn at the place k of its turns
pub record HasTurn (views : List Passes) (name : PassName) (k : ℕ) (turn : Turn) : Type 0 where
  pub place : Place
  pub pass : Pass
  pub at : pass_at views place ≡ core.some pass
  pub is : pass.name ≡ name
  pub there : get_elem? pass.turns k ≡ core.some turn

-- a pass of this name stands among the views
pub record Stands (views : List Passes) (name : PassName) : Type 0 where
  pub place : Place
  pub pass : Pass
  pub at : pass_at views place ≡ core.some pass
  pub is : pass.name ≡ name

-- this is the name of the first pass, or of a further one whose parent stands there and lists it
abbrev pub IsListed : List Passes → PassName → Type 0
IsListed views [] = Unit {0}
IsListed views (k ∷ name) = (parent : Stands views name) × (k < parent.pass.further)

-- No pass comes from nowhere: the first one stands there, each other one is listed by its parent, all that are listed stand there,
-- and no two have one name. So no pass can be added but by its parent, which then lists one more
pub record AreOneFamily (views : List Passes) : Type 0 where
  pub first : Stands views []
  pub listed : (z : Place) (p : Pass) → pass_at views z ≡ core.some p → IsListed views p.name
  pub stand : (z : Place) (p : Pass) (k : ℕ) → pass_at views z ≡ core.some p → k < p.further → Stands views (k ∷ p.name)
  pub once : (z y : Place) (p q : Pass) → pass_at views z ≡ core.some p → pass_at views y ≡ core.some q → p.name ≡ q.name → z ≡ y

-- the value behind the lock is at home, fits, and has seen this
pub record IsHome {T : Type 0} (row : RowIs) (fits : RowIs → ℕ → T → Type 0) (shown : T → Seated)
    (homes : List (core.Option T)) (lock : ℕ) (log : List SeatAnswer) : Type 0 where
  pub value : T
  pub at : get_elem? homes lock ≡ core.some (core.some value)
  pub fit : fits row lock value
  pub saw : seen (shown value) ≡ log

pub record LocksRule {T : Type 0} (row : RowIs) (locks : ℕ) (by : ℕ → SeatName) (fits : RowIs → ℕ → T → Type 0)
    (shown : T → Seated) (s : State T Passes) : Type 0 where
  pub accounts : Accounts
  pub wide : length s.words ≡ place_of locks
  pub free : (lock : ℕ) → lock < locks → slice_index s.words (place_of lock) ≡ 0 → IsHome row fits shown s.homes lock (accounts.logs lock)
  pub shut : (lock : ℕ) → lock < locks → slice_index s.words (place_of lock) ≢ 0 → IsShut s.views lock
  pub passes : (z : Place) (p : Pass) → pass_at s.views z ≡ core.some p → FitsPass row locks by accounts s.words z p
  pub made : (lock k : ℕ) → lock < locks → k < count (by lock) (accounts.logs lock) → IsMade by (accounts.who lock k) s.views lock k
  pub family : AreOneFamily s.views
  pub ordered : (n : PassName) (k : ℕ) (m : PassName) (i : ℕ) (t u : Turn) → HasTurn s.views n k t → HasTurn s.views m i u
      → t.lock ≡ u.lock → ((n ≡ m) × (k ≡ i) → ⊥) → AreOrdered t u

abbrev pub first_view : Setting → Passes
first_view setting = alone (new_pass setting.row.value [])

-- each value fits its place, and has seen nothing
abbrev pub AreFresh : {T : Type 0} → (RowIs → ℕ → T → Type 0) → (T → Seated) → RowIs → List T → Type 0
AreFresh {T} fits shown row xs = (lock : ℕ) → lock < length xs → (x : T) × (get_elem? xs lock ≡ core.some x) × fits row lock x × (seen (shown x) ≡ [])
