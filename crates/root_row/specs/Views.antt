-- What a seat's view shows. A seat of one member is a leaf's, a reader's or the book's.
use Rattle.std.specs.Prelude.{◌≡◌, ℕ, Bool, List, [], ◌∷◌, map, slice_index}
use Rattle.dep_index.specs.declared.table.states.ModuleState.{ModuleState}
use Rattle.dep_index.specs.Table.{Book, state_of, is_draining}
use Rattle.root_row.specs.declared.view.Part as part
use Rattle.root_row.specs.declared.view.Part.TheVariants as part_is
use Rattle.root_row.specs.declared.view.SeatName.TheVariants as name_is
use Rattle.root_row.specs.declared.view.SeatAnswer.{SeatAnswer}
use Rattle.root_row.specs.declared.view.Member.{Member}
use Rattle.root_row.specs.declared.view.View.{View}
use Rattle.root_row.specs.History.{SeatName}

abbrev pub Part : Type 0
Part = part.Part

abbrev pub name_of : Part → SeatName
name_of (part_is.Leaf w counts) = name_is.Leaf w
name_of (part_is.Reader r) = name_is.Reader r
name_of (part_is.Book book) = name_is.Book

abbrev pub member : Part → List SeatAnswer → Member
member x seen = record { part = x; seen = seen }

abbrev pub seen_in : List Member → List SeatAnswer
seen_in [] = []
seen_in (x ∷ _) = x.seen

-- what the seat has seen
abbrev pub seen_of : View → List SeatAnswer
seen_of v = seen_in v.members

abbrev pub part_in : List Member → Part
part_in [] = part_is.Reader 0
part_in (x ∷ _) = x.part

-- what the seat stands for
abbrev pub part_of : View → Part
part_of v = part_in v.members

-- the seat stands for this part alone
abbrev pub IsOne : View → Part → Type 0
IsOne v x = v.members ≡ member x (seen_of v) ∷ []

abbrev pub worker_in : Part → ℕ
worker_in (part_is.Leaf w counts) = w
worker_in _ = 0

abbrev pub counts_in : Part → List ℕ
counts_in (part_is.Leaf w counts) = counts
counts_in _ = []

-- a leaf's worker
abbrev pub worker_of : View → ℕ
worker_of v = worker_in (part_of v)

-- how often the leaf holds each slot
abbrev pub counts_of : View → List ℕ
counts_of v = counts_in (part_of v)

abbrev pub count_of : View → ℕ → ℕ
count_of v m = slice_index (counts_of v) m

abbrev pub IsLeaf : View → Type 0
IsLeaf v = IsOne v (part_is.Leaf (worker_of v) (counts_of v))

abbrev pub reader_in : Part → ℕ
reader_in (part_is.Reader r) = r
reader_in _ = 0

-- a reader's number
abbrev pub reader_of : View → ℕ
reader_of v = reader_in (part_of v)

abbrev pub IsReader : View → Type 0
IsReader v = IsOne v (part_is.Reader (reader_of v))

abbrev pub empty_book : Book
empty_book = record { states = []; order = [] }

abbrev pub book_in : Part → Book
book_in (part_is.Book book) = book
book_in _ = empty_book

-- the book's states and order
abbrev pub book_of : View → Book
book_of v = book_in (part_of v)

abbrev pub state_in : View → ℕ → ModuleState
state_in v m = state_of (book_of v) m

abbrev pub IsBook : View → Type 0
IsBook v = IsOne v (part_is.Book (book_of v))

-- which slots drain
abbrev pub draining_of : View → List Bool
draining_of v = map is_draining (book_of v).states
