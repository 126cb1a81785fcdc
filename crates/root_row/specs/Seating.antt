-- How seats are cut from one another and put together.
use Rattle.std.specs.Prelude.{◌≡◌, ℕ, List, [], ◌∷◌, ◌++◌}
use Rattle.dep_index.specs.History.{IsLegal}
use Rattle.root_row.specs.declared.view.World.{World}
use Rattle.root_row.specs.declared.view.Part.TheVariants as part_is
use Rattle.root_row.specs.declared.view.SeatName.TheVariants as name_is
use Rattle.root_row.specs.declared.view.Member.{Member}
use Rattle.root_row.specs.declared.view.SeatAnswer.{SeatAnswer}
use Rattle.root_row.specs.declared.view.View.{View}
use Rattle.root_row.specs.History.{answers_in, table_after, AreOfTheirSeats, own_answers, StartsWith}
use Rattle.root_row.specs.Views.{member, worker_of, counts_of, seen_of}
use Rattle.root_row.specs.Rule.{Agrees}

abbrev pub first_of : List Member → List Member
first_of [] = []
first_of (x ∷ xs) = x ∷ []

abbrev pub rest_of : List Member → List Member
rest_of [] = []
rest_of (x ∷ xs) = xs

-- the first member goes to the new seat, and the others stay
abbrev pub first_member : View → View
first_member v = record { world = v.world; members = first_of v.members }

abbrev pub other_members : View → View
other_members v = record { world = v.world; members = rest_of v.members }

abbrev pub joined : View → View → View
joined v w = record { world = v.world; members = v.members ++ w.members }

-- a seat that stands for nothing
abbrev pub spent : View
spent = record { world = record { catalogue = []; workers = 0 }; members = [] }

-- a pair of leaves, with what each has seen
abbrev pub IsPair : View → ℕ → List ℕ → List SeatAnswer → ℕ → List ℕ → List SeatAnswer → Type 0
IsPair v a counts_a seen_a b counts_b seen_b = v.members ≡ member (part_is.Leaf a counts_a) seen_a ∷ member (part_is.Leaf b counts_b) seen_b ∷ []

-- a view of two leaves
abbrev pub IsTwo : View → Type 0
IsTwo v =
    (a : ℕ) × (counts_a : List ℕ) × (seen_a : List SeatAnswer)
    × (b : ℕ) × (counts_b : List ℕ) × (seen_b : List SeatAnswer)
    × IsPair v a counts_a seen_a b counts_b seen_b

-- Two leaves have seen one list. It begins with what each had seen, is legal, and has just those answers of each that it
-- had; the counts of each are its worker's row in the table after it
pub record Shares (world : World) (a : ℕ) (counts_a : List ℕ) (seen_a : List SeatAnswer)
    (b : ℕ) (counts_b : List ℕ) (seen_b seen : List SeatAnswer) : Type 0 where
  pub legal : IsLegal world.catalogue world.workers (answers_in seen)
  pub callers : AreOfTheirSeats seen
  pub begins_a : StartsWith seen seen_a
  pub begins_b : StartsWith seen seen_b
  pub own_a : own_answers (name_is.Leaf a) seen ≡ own_answers (name_is.Leaf a) seen_a
  pub own_b : own_answers (name_is.Leaf b) seen ≡ own_answers (name_is.Leaf b) seen_b
  pub agrees_a : Agrees (table_after world seen) (part_is.Leaf a counts_a)
  pub agrees_b : Agrees (table_after world seen) (part_is.Leaf b counts_b)

-- the pair of two leaves, which have then seen one list
abbrev pub Paired : View → View → View → Type 0
Paired v w u =
    (seen : List SeatAnswer)
    × IsPair u (worker_of v) (counts_of v) seen (worker_of w) (counts_of w) seen
    × Shares u.world (worker_of v) (counts_of v) (seen_of v) (worker_of w) (counts_of w) (seen_of w) seen
    × (u.world ≡ v.world)
