-- Two seats hear of each other.
use Rattle.std.specs.Prelude.{◌≡◌, ℕ, List, [], ◌∷◌, ◌++◌}
use Rattle.atomic_table.specs.Table.{Step}
use Rattle.dep_index.specs.History.{IsLegal}
use Rattle.root_row.specs.declared.view.World.{World}
use Rattle.root_row.specs.declared.view.SeatAnswer.{SeatAnswer}
use Rattle.root_row.specs.declared.view.View.{View}
use Rattle.root_row.specs.declared.view.AtomicStep.TheVariants.{LoadSpare}
use Rattle.root_row.specs.History.{answers_in, table_after, AreOfTheirSeats, own_answers, StartsWith}
use Rattle.root_row.specs.Views.{Part, member, name_of, seen_of, part_of}
use Rattle.root_row.specs.Rule.{Agrees}
use Rattle.root_row.specs.Steps.{SeatState}
use Rattle.root_row.specs.Trails.{TrailState, shown_seat}

-- A seat with this part, which had seen `old`, has seen `new`. It begins with what the seat had seen, is legal, and has of the
-- seat's own answers just those that it had. The part is the table's after it
pub record HasHeard (world : World) (x : Part) (old new : List SeatAnswer) : Type 0 where
  pub begins : StartsWith new old
  pub legal : IsLegal world.catalogue world.workers (answers_in new)
  pub callers : AreOfTheirSeats new
  pub own : own_answers (name_of x) new ≡ own_answers (name_of x) old
  pub agrees : Agrees (table_after world new) x

-- Two seats of one row heard of each other: both have then seen one list, and each keeps its part
pub record HeardBoth (v w v' w' : View) : Type 0 where
  pub seen : List SeatAnswer
  pub one : v'.members ≡ member (part_of v) seen ∷ []
  pub other : w'.members ≡ member (part_of w) seen ∷ []
  pub one_world : v'.world ≡ v.world
  pub other_world : w'.world ≡ v.world
  pub one_heard : HasHeard v.world (part_of v) (seen_of v) seen
  pub other_heard : HasHeard v.world (part_of w) (seen_of w) seen

-- a seat with the two parts x and y, which had seen a and b, is told one list
pub record ToldOf (x y : Part) (a b : List SeatAnswer) (v w : View) : Type 0 where
  pub seen : List SeatAnswer
  pub members : w.members ≡ member x seen ∷ member y seen ∷ []
  pub world : w.world ≡ v.world
  pub one : HasHeard v.world x a seen
  pub other : HasHeard v.world y b seen

abbrev pub ToldTwo : View → View → Type 0
ToldTwo v w = (x y : Part) (a b : List SeatAnswer) → v.members ≡ member x a ∷ member y b ∷ [] → ToldOf x y a b v w

-- a load of the spare word tells it; and the seat has then made this one step more
abbrev pub told_two : Step (Unit {0}) → SeatState → ℕ → SeatState → Type 0
told_two st me found me' = (me'.1 ≡ me.1) × ToldTwo me.0 me'.0

abbrev pub told_two_trail : Step (Unit {0}) → TrailState → ℕ → TrailState → Type 0
told_two_trail st me found me' = told_two st (shown_seat me) found (shown_seat me') × (me'.0.steps ≡ me.0.steps ++ LoadSpare ∷ [])
