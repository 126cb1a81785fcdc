-- Which atomic steps a call made.
use Rattle.std.specs.Prelude.{◌≡◌, ℕ, List, [], ◌∷◌, ◌++◌}
use Rattle.dep_index.specs.declared.table.states.ModuleState.{ModuleState}
use Rattle.dep_index.specs.declared.table.states.ModuleState.TheVariants as state_is
use Rattle.dep_index.specs.Words.{drained}
use Rattle.root_row.specs.declared.view.AtomicStep.{AtomicStep}
use Rattle.root_row.specs.declared.view.AtomicStep.TheVariants.{Load}
use Rattle.root_row.specs.Seats.{Seated}

-- the seat made these steps, in this order, and no others
abbrev pub StepsMade : Seated → List AtomicStep → Seated → Type 0
StepsMade old steps new = new.steps ≡ old.steps ++ steps

-- one load of the slot's word, and nothing else: no word was written
abbrev pub OneLoad : ℕ → Seated → Seated → Type 0
OneLoad m old new = (found : ℕ) × StepsMade old (Load m found ∷ []) new

-- the same row and the same view, whatever steps were made
abbrev pub SameView : Seated → Seated → Type 0
SameView old new = (new.row ≡ old.row) × (new.view ≡ old.view)

-- the word of a slot that may be closed: it shows no holder
abbrev pub unheld_word : ModuleState → ℕ
unheld_word state_is.Draining = drained
unheld_word _ = 0
