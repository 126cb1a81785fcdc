-- What is kept of a seat under the rule: its view, and the steps that it has made. The rule speaks of the views alone.
use Rattle.std.specs.Prelude.{◌≡◌, ℕ, ◌==◌, List, [], ◌∷◌, ◌++◌, map}
use Rattle.atomic_table.specs.Table.{State, Me, Step}
use Rattle.root_row.specs.declared.view.World.{World}
use Rattle.root_row.specs.declared.view.View.{View}
use Rattle.root_row.specs.declared.view.AtomicStep.{AtomicStep}
use Rattle.root_row.specs.declared.view.AtomicStep.TheVariants.{Load, Exchange, Add, Subtract}
use Rattle.root_row.specs.declared.view.Trail.{Trail}
use Rattle.root_row.specs.World.{place_of}
use Rattle.root_row.specs.Views.{Part}
use Rattle.root_row.specs.Setting.{new_view}
use Rattle.root_row.specs.Rule.{RowRule}
use Rattle.root_row.specs.Steps.{SeatState}
use Rattle.root_row.specs.Seating.{first_member, other_members, joined, spent}

abbrev pub trail : View → List AtomicStep → Trail
trail v steps = record { view = v; steps = steps }

-- a new seat's, which has seen nothing and has made no step
abbrev pub new_trail : World → List Part → Trail
new_trail world parts = trail (new_view world parts) []

abbrev pub view_in : Trail → View
view_in t = t.view

-- the table without the steps
abbrev pub shown : State (Unit {0}) Trail → State (Unit {0}) View
shown s = record { words = s.words; homes = s.homes; views = map view_in s.views }

abbrev pub TrailRule : World → State (Unit {0}) Trail → Type 0
TrailRule world s = RowRule world (shown s)

abbrev pub TrailState : Type 0
TrailState = Me (Unit {0}) Trail

-- the seat without its steps
abbrev pub shown_seat : TrailState → SeatState
shown_seat me = (me.0.view, me.1)

-- what is recorded of a step on the word of the slot m: of its operands and of the word that it found
abbrev pub load_step : Step (Unit {0}) → ℕ → ℕ → AtomicStep
load_step st m found = Load m found

abbrev pub exchange_step : Step (Unit {0}) → ℕ → ℕ → AtomicStep
exchange_step st m found = Exchange m st.first st.second (found == st.first)

abbrev pub add_step : Step (Unit {0}) → ℕ → ℕ → AtomicStep
add_step st m found = Add m st.first

abbrev pub subtract_step : Step (Unit {0}) → ℕ → ℕ → AtomicStep
subtract_step st m found = Subtract m st.first

-- what a step tells of the views; and the seat has then made this one step more
abbrev pub Recorded : (Step (Unit {0}) → SeatState → ℕ → SeatState → Type 0) → (Step (Unit {0}) → ℕ → ℕ → AtomicStep)
    → Step (Unit {0}) → TrailState → ℕ → TrailState → Type 0
Recorded Tells entry st me found me' =
    Tells st (shown_seat me) found (shown_seat me')
    × ((m : ℕ) → st.word ≡ place_of m → me'.0.steps ≡ me.0.steps ++ entry st m found ∷ [])

-- if a seat is cut, both go on with its steps
abbrev pub first_trail : Trail → Trail
first_trail t = trail (first_member t.view) t.steps

abbrev pub other_trail : Trail → Trail
other_trail t = trail (other_members t.view) t.steps

-- if two seats are put together, the steps begin anew
abbrev pub joined_trail : Trail → Trail → Trail
joined_trail t u = trail (joined t.view u.view) []

abbrev pub spent_trail : Trail
spent_trail = trail spent []
