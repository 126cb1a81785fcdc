-- A managed call, said in full.
use Rattle.std.proofs.Common.{◌≡◌, ◌⊎◌, ℕ, [], ◌∷◌, ◌++◌, Option, Some, None, Result, Ok, Err, IfSome, refl, ap, ◌∙◌}
use Rattle.std.specs.Prelude.{OnOk}
use Rattle.std.proofs.lemmas.List.{map-append}
use Rattle.dep_index.specs.declared.table.calls.Call.{Call}
use Rattle.dep_index.specs.declared.table.calls.Call.TheVariants.{Get, Put, InUse, BeginLoad, EndLoad, BeginDrain, BeginRemove, EndRemove, CancelRemove}
use Rattle.dep_index.specs.declared.table.calls.Reply.{Reply}
use Rattle.dep_index.specs.declared.table.calls.Reply.TheVariants.{Done}
use Rattle.dep_index.specs.Refusals.{reply_of}
use Rattle.dep_index.specs.History.{LegalIsSafe}
use Rattle.root_row.specs.Seats.{RowIs}
use Rattle.root_row.specs.History.{answer_of, answers_in, seat_answer}
use Rattle.managed_table.specs.Callers.{ManagedIs, CallerIs}
use Rattle.managed_table.specs.Calls.{CallMade}
use Rattle.managed_table.specs.Turns.{turn, MadeOneCall}
use Rattle.theorems.specs.Managed.{seat_for, lock_of, here, elsewhere, WasMadeOnce, LeftUnused}

pub was_made : (row : RowIs) (call : Call) (reply : Reply) (old new : CallerIs) → LegalIsSafe
    → MadeOneCall row (lock_of (seat_for call)) (seat_for call) call reply (here (seat_for call) old).pass (here (seat_for call) new).pass
    → elsewhere (seat_for call) new ≡ elsewhere (seat_for call) old → WasMadeOnce row call reply old new
was_made row call reply old new law m other =
    let safe = law row.world.catalogue row.world.workers (answers_in m.after) m.legal in record {
      missed = m.missed;
      before = m.before;
      others = m.between;
      after = m.after;
      steps = m.steps;
      turned = m.turned;
      elsewhere = other;
      ends = m.ends;
      own = m.own;
      follows = m.follows;
      legal = m.legal;
      unheld = safe.unused;
      none_after = safe.shut;
      called_off = safe.called_off;
    }

pub left_unused : (row : RowIs) (call : Call) (m : ℕ) (old new : CallerIs) → LegalIsSafe → (call ≡ BeginRemove m) ⊎ (call ≡ EndRemove m) → WasMadeOnce row call Done old new → LeftUnused row call m old new
left_unused row call m old new law removal w =
    let before = answers_in (w.before ++ w.others) in
    let ends : answers_in w.after ≡ before ++ record { call = call; reply = Done } ∷ [] = ap answers_in w.ends ∙ map-append answer_of (w.before ++ w.others) (seat_answer (seat_for call) call Done ∷ []) in
    let both = w.unheld before [] (record { call = call; reply = Done }) m ends removal refl in record {
      turn = turn (lock_of (seat_for call)) w.before w.after w.steps;
      turned = ap (λ p. p.turns) w.turned;
      before = before;
      ends = ends;
      unheld = both.0;
      unneeded = both.1;
      later = λ history starts legal. (law row.world.catalogue row.world.workers (answers_in history) legal).shut;
    }

-- a removal's beginning or end, as a managed table made it, said in full
pub if_removed : {E : Type 0} (refusal : E → Reply) (r : Option (Result (Unit {0}) E)) (row : RowIs) (call : Call) (slot : ℕ) (old new : CallerIs) → LegalIsSafe → (call ≡ BeginRemove slot) ⊎ (call ≡ EndRemove slot)
    → IfSome r (λ o. MadeOneCall row (lock_of (seat_for call)) (seat_for call) call (reply_of refusal o) (here (seat_for call) old).pass (here (seat_for call) new).pass)
    → elsewhere (seat_for call) new ≡ elsewhere (seat_for call) old → IfSome r (λ o. OnOk o (LeftUnused row call slot old new))
if_removed refusal None row call slot old new law removal made other = tt
if_removed refusal (Some (Err e)) row call slot old new law removal made other = tt
if_removed refusal (Some (Ok x)) row call slot old new law removal made other =
    left_unused row call slot old new law removal (was_made row call Done old new law made other)

-- a call that a managed table made, whichever it is, said in full
pub was_made_once : (table : ManagedIs) (call : Call) (reply : Reply) (old new : CallerIs) → LegalIsSafe → CallMade table call reply old new → WasMadeOnce table.row call reply old new
was_made_once table (Get w m) reply old new law made = was_made table.row (Get w m) reply old new law made.0 made.1
was_made_once table (Put w m) reply old new law made = was_made table.row (Put w m) reply old new law made.0 made.1
was_made_once table (InUse m) reply old new law made = absurd made
was_made_once table (BeginLoad m) reply old new law made = was_made table.row (BeginLoad m) reply old new law made.0 made.1
was_made_once table (EndLoad m ok) reply old new law made = was_made table.row (EndLoad m ok) reply old new law made.0 made.1
was_made_once table (BeginDrain m) reply old new law made = was_made table.row (BeginDrain m) reply old new law made.0 made.1
was_made_once table (BeginRemove m) reply old new law made = was_made table.row (BeginRemove m) reply old new law made.0 made.1
was_made_once table (EndRemove m) reply old new law made = was_made table.row (EndRemove m) reply old new law made.0 made.1
was_made_once table (CancelRemove m) reply old new law made = was_made table.row (CancelRemove m) reply old new law made.0 made.1

pub if_made_once : (table : ManagedIs) (call : Call) (r : Option Reply) (old new : CallerIs) → LegalIsSafe → IfSome r (λ reply. CallMade table call reply old new) → IfSome r (λ reply. WasMadeOnce table.row call reply old new)
if_made_once table call None old new law made = tt
if_made_once table call (Some reply) old new law made = was_made_once table call reply old new law made
