-- One step of a process: from what its calls ensure to what it made.
use Rattle.std.proofs.Common.{arith, ◌≡◌, refl, sym, ap, subst, ◌∙◌, ◌⊎◌, ⊎_elim, inl, inr, ℕ, ◌+◌, ◌<◌, ◌≤◌, List, [], ◌∷◌, ◌++◌, zero, suc, length, take, drop, Ok, Err, IsErrOf, OnOk, Result, get_or, drop-cons, drop_of_length-le, add-one, append-nil, take-append-drop}
use Rattle.std.proofs.lemmas.List.Elements.{All-get_or}
use Rattle.line_journal.specs.Device.{History, AlwaysLeaves}
use Rattle.line_journal.specs.Lines.{AreLines}
use Rattle.durable_table.specs.declared.chained.Chained.{Chained}
use Rattle.line_journal.proofs.Moments.{implies, from_disk}
use Rattle.modprobe.specs.Setup.{Setup}
use Rattle.modprobe.specs.Outcomes.{Outcome}
use Rattle.held_table.specs.Held.{Held}
use Rattle.held_lines.specs.Outcomes.{held_line_outcome, after}
use Rattle.durable_table.specs.declared.durable.PerformError.{PerformError}
use Rattle.durable_table.specs.declared.durable.PerformError.TheVariants.{OutOfMemory}
use Rattle.durable_table.specs.Durable.{Stands, FileStands}
use Rattle.durable_table.specs.Groups.{replies_of, KeepsHeldAlong, AfterFirstOf}
use Rattle.tenures.specs.declared.step.Step.{Step}
use Rattle.tenures.specs.Tenures.{IsFirstOf}
use Rattle.tenures.specs.Steps.{commands_of, groups_of, AreSteps, HasBegun, StandsAfterFirst, IsMade}

-- the steps that are left begin with this one
pub rest_is : (steps : List Step) (i : ℕ) (step : Step) → i < length steps → step ≡ get_or steps i step
    → groups_of (drop i steps) ≡ commands_of step ∷ groups_of (drop (i + 1) steps)
rest_is steps i step within is =
    ap groups_of (drop-cons steps i step within) ∙ ap (λ (it : Step). commands_of it ∷ groups_of (drop (suc i) steps)) (sym is)
    ∙ ap (λ (n : ℕ). commands_of step ∷ groups_of (drop n steps)) (sym (add-one i))

-- no step is left
pub none_left : (steps : List Step) (i : ℕ) → length steps ≤ i → groups_of (drop i steps) ≡ []
none_left steps i past = ap groups_of (drop_of_length-le steps past)

-- a step of steps
pub lines_are : (steps : List Step) (i : ℕ) (step : Step) → i < length steps → step ≡ get_or steps i step → AreSteps steps → AreLines (commands_of step)
lines_are steps i step within is are =
    subst (λ (it : Step). AreLines (commands_of it)) (sym is) (All-get_or (λ (it : Step). AreLines (commands_of it)) steps i step within are)

pub no_error : {T : Type 0} (value : T) → IsErrOf (Ok value) OutOfMemory → ⊥
no_error value is = grind (arith, is)

-- what holds of a value that is no error
pub with_value : {T P : Type 0} (value : T) → IsErrOf (Ok value) OutOfMemory ⊎ P → P
with_value {T} {P} value held = ⊎_elim (λ none. absurd (no_error value none)) (λ (p : P). p) held

pub on_ok : {T E P : Type 0} (result : Result T E) → P → OnOk result P
on_ok (Ok value) holds = holds
on_ok (Err error) holds = tt

-- what the first of some commands keep
held_first : (s : Setup) (h : Held) (count : ℕ) (commands : List (List ℕ)) → KeepsHeldAlong s h commands → KeepsHeldAlong s h (take count commands)
held_first s h zero commands keeps = tt
held_first s h (suc count) [] keeps = tt
held_first s h (suc count) (command ∷ commands) keeps = (keeps.0, held_first s (held_line_outcome s h command).1 count commands keeps.1)

pub first_stands : (s : Setup) (h : Held) (commands : List (List ℕ)) (file : List ℕ) → KeepsHeldAlong s h commands → AfterFirstOf s h commands file → StandsAfterFirst s h commands file
first_stands s h commands file keeps (count, within, stands) =
    (take count commands, (drop count commands, sym (take-append-drop count commands)), held_first s h count commands keeps, stands)

none_stands : (s : Setup) (h : Held) (commands : List (List ℕ)) (file : List ℕ) → FileStands s h file → StandsAfterFirst s h commands file
none_stands s h commands file stands = ([], (commands, refl), tt, stands)

module _ {D T : Type 0} (content : D → List ℕ) (history : D → History) (s : Setup) (h : Held) (commands : List (List ℕ)) (old new : Chained D) (result : Result T PerformError)
    (stands : Stands content history s h old) (unchanged : IsErrOf result OutOfMemory → new ≡ old) (held : IsErrOf result OutOfMemory ⊎ KeepsHeldAlong s h commands)
    (always : AlwaysLeaves (history old.lines.device) (history new.lines.device) (AfterFirstOf s h commands)) where
  -- a group is made, and no reply begun
  pub group_leaves : AlwaysLeaves (history old.lines.device) (history new.lines.device) (StandsAfterFirst s h commands)
  group_leaves =
      ⊎_elim
      (λ none.
      subst (λ (j : Chained D). AlwaysLeaves (history old.lines.device) (history j.lines.device) (StandsAfterFirst s h commands)) (sym (unchanged none))
      (from_disk (history old.lines.device) (StandsAfterFirst s h commands) (content old.lines.device) stands.ready.on_disk (none_stands s h commands (content old.lines.device) stands.same)))
      (λ keeps. implies always (λ left first. first_stands s h commands left keeps first))
      held

  pub group_unanswered : (replies begun : List Outcome) (since since_new : ℕ) → begun ≡ replies → since_new ≡ since
      → IsMade s h commands (history old.lines.device) (history new.lines.device) replies begun since since_new
  group_unanswered replies begun since since_new none same = inl (record { none = none; same = same; meanwhile = group_leaves })

-- a group is made, and the first replies begun
pub group_answered : {D : Type 0} (content : D → List ℕ) (history : D → History) (s : Setup) (h after_all : Held) (commands : List (List ℕ)) (old new : Chained D)
    (said replies begun : List Outcome) (now since since_new : ℕ)
    → Stands content history s after_all new → after_all ≡ after s h commands → said ≡ replies_of s h commands → KeepsHeldAlong s h commands
    → AlwaysLeaves (history old.lines.device) (history new.lines.device) (StandsAfterFirst s h commands) → now ≡ (history new.lines.device).now
    → HasBegun said now replies begun since since_new → IsMade s h commands (history old.lines.device) (history new.lines.device) replies begun since since_new
group_answered content history s h after_all commands old new said replies begun now since since_new stands becomes said_is held always now_is has =
    ⊎_elim
    (λ none. inl (record {
      none = has.grows ∙ ap (λ (os : List Outcome). replies ++ os) none.0 ∙ append-nil replies;
      same = none.1;
      meanwhile = always;
    }))
    (λ some. inr (record {
      more = has.begun;
      first = subst (IsFirstOf has.begun) said_is has.first;
      grows = has.grows;
      now = some ∙ now_is;
      held = held;
      leaves = λ file leaves. subst (λ (u : Held). FileStands s u file) becomes (subst (FileStands s after_all) (sym (stands.ready.on_disk file leaves)) stands.same);
    }))
    has.moment

-- the journal is rewritten
pub compacted : (s : Setup) (h : Held) (old new : History) (replies begun : List Outcome) (since since_new : ℕ) → AlwaysLeaves old new (FileStands s h)
    → begun ≡ replies → since_new ≡ since → IsMade s h [] old new replies begun since since_new
compacted s h old new replies begun since since_new always none same =
    inl (record { none = none; same = same; meanwhile = implies always (λ left stands. none_stands s h [] left stands) })
