-- Which atomic steps the calls of a leaf make.
use Rattle.std.specs.Prelude.{◌≡◌, ◌⊎◌, ℕ, Bool, ◌+◌, ◌<◌, ◌==◌, true, false, List, [], ◌∷◌, ◌++◌, length, if◌then◌else◌, MatchBool}
use Rattle.dep_index.specs.Calls.{is_done}
use Rattle.dep_index.specs.declared.table.calls.Reply.{Reply}
use Rattle.dep_index.specs.declared.table.calls.Reply.TheVariants.{Done}
use Rattle.root_row.specs.declared.view.AtomicStep.{AtomicStep}
use Rattle.root_row.specs.declared.view.AtomicStep.TheVariants.{Load, Exchange, Subtract}
use Rattle.root_row.specs.Seats.{Seated}
use Rattle.root_row.specs.StepsMade.{StepsMade, OneLoad}

-- the tries of a get that were missed: each is a load, and an exchange of the word that it found by one more
abbrev pub missed : ℕ → List ℕ → List AtomicStep
missed m [] = []
missed m (n ∷ ns) = Load m n ∷ Exchange m n (n + 1) false ∷ missed m ns

-- the last try of a get: if the get is done, its exchange was made; else its load was the last step
abbrev pub last_try : ℕ → ℕ → Reply → List AtomicStep
last_try m n answer = Load m n ∷ (if is_done answer then Exchange m n (n + 1) true ∷ [] else [])

-- a get by a leaf that does not hold the slot: tries that were missed, and the last
abbrev pub FirstSteps : ℕ → List ℕ → Reply → Seated → Seated → Type 0
FirstSteps m found answer old new = (n : ℕ) × StepsMade old (missed m found ++ last_try m n answer) new

-- a get by a leaf that holds the slot so often
abbrev pub GetSteps : ℕ → ℕ → Reply → Seated → Seated → Type 0
GetSteps m count answer old new = MatchBool (count == 0) ((found : List ℕ) × FirstSteps m found answer old new) (OneLoad m old new)

-- a get of at most so many tries that was answered
abbrev pub TrySteps : ℕ → ℕ → ℕ → Reply → Seated → Seated → Type 0
TrySteps tries m count answer old new =
    MatchBool (count == 0) ((found : List ℕ) × (length found < tries) × FirstSteps m found answer old new) (OneLoad m old new)

-- a get that was given up: so many tries, and each was missed
abbrev pub GivenUp : ℕ → ℕ → Seated → Seated → Type 0
GivenUp tries m old new = (found : List ℕ) × (length found ≡ tries) × StepsMade old (missed m found) new

-- a guess that nobody holds the slot: the exchange of Open 0 by Open 1, without a look
abbrev pub guess : ℕ → Bool → AtomicStep
guess m made = Exchange m 0 1 made

-- what stands before the tries of a get that may guess: a guess that was missed, or nothing
abbrev pub before_tries : ℕ → Bool → List AtomicStep
before_tries m guessed = if guessed then guess m false ∷ [] else []

-- such a get of at most so many tries that was answered: by its guess, or by a try
abbrev pub UnusedSteps : ℕ → ℕ → ℕ → Reply → Seated → Seated → Type 0
UnusedSteps tries m count answer old new =
    MatchBool (count == 0)
    (((answer ≡ Done) × StepsMade old (guess m true ∷ []) new)
    ⊎ ((guessed : Bool) × (found : List ℕ) × (length found < tries) × (n : ℕ) × StepsMade old (before_tries m guessed ++ (missed m found ++ last_try m n answer)) new))
    (OneLoad m old new)

-- such a get that was given up: so many tries, and each was missed
abbrev pub UnusedGivenUp : ℕ → ℕ → Seated → Seated → Type 0
UnusedGivenUp tries m old new = (guessed : Bool) × (found : List ℕ) × (length found ≡ tries) × StepsMade old (before_tries m guessed ++ missed m found) new

-- a put by a leaf that holds the slot so often: the last reference is given back by a subtraction, without a look
abbrev pub PutSteps : ℕ → ℕ → Seated → Seated → Type 0
PutSteps m count old new = MatchBool (count == 1) (StepsMade old (Subtract m 1 ∷ []) new) (OneLoad m old new)
