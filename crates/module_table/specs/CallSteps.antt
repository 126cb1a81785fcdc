-- Which atomic steps a call of the book makes.
use Rattle.std.specs.Prelude.{ℕ, true, false, ◌&&◌, [], ◌∷◌, MatchBool}
use Rattle.dep_index.specs.declared.table.calls.Reply.{Reply}
use Rattle.dep_index.specs.declared.table.calls.Reply.TheVariants.{Done, InUse}
use Rattle.dep_index.specs.Table.{is_draining}
use Rattle.dep_index.specs.Calls.{is_done}
use Rattle.dep_index.specs.Words.{closed, drained}
use Rattle.root_row.specs.declared.calls.BookCall.{BookCall}
use Rattle.root_row.specs.declared.calls.BookCall.TheVariants.{BeginLoad, EndLoad, BeginDrain, BeginRemove, EndRemove, CancelRemove}
use Rattle.root_row.specs.declared.view.AtomicStep.TheVariants.{Exchange, Add, Subtract}
use Rattle.root_row.specs.Views.{state_in}
use Rattle.root_row.specs.Seats.{Seated}
use Rattle.root_row.specs.StepsMade.{StepsMade, OneLoad}

-- a removal that the book does not refuse is one exchange of the word that shows no holder by Closed, made or missed
abbrev pub ClosingSteps : ℕ → ℕ → Reply → Seated → Seated → Type 0
ClosingSteps unheld m Done old new = StepsMade old (Exchange m unheld closed true ∷ []) new
ClosingSteps unheld m InUse old new = StepsMade old (Exchange m unheld closed false ∷ []) new
ClosingSteps unheld m _ old new = OneLoad m old new

-- Each call of the book makes one step. A load that ends well is an exchange, a drain that begins is an addition, and a
-- removal that begins or that ends a drain is an exchange, made or missed. A drain that is called off is a subtraction, a
-- removal that is called off an exchange. Every other call, and every refusal by the book, is one load
abbrev pub CallSteps : BookCall → ℕ → Reply → Seated → Seated → Type 0
CallSteps BeginLoad m answer old new = OneLoad m old new
CallSteps (EndLoad ok) m answer old new = MatchBool (ok && is_done answer) (StepsMade old (Exchange m closed 0 true ∷ []) new) (OneLoad m old new)
CallSteps BeginDrain m answer old new = MatchBool (is_done answer) (StepsMade old (Add m drained ∷ []) new) (OneLoad m old new)
CallSteps BeginRemove m answer old new = ClosingSteps 0 m answer old new
CallSteps EndRemove m answer old new = MatchBool (is_draining (state_in old.view m)) (ClosingSteps drained m answer old new) (OneLoad m old new)
CallSteps CancelRemove m answer old new =
    MatchBool (is_done answer)
    (MatchBool (is_draining (state_in old.view m)) (StepsMade old (Subtract m drained ∷ []) new) (StepsMade old (Exchange m closed 0 true ∷ []) new))
    (OneLoad m old new)
