-- Removals find no holder.
use Rattle.std.proofs.Common.{◌≡◌, refl, sym, subst, ◌∙◌, ℕ, Bool, true, false, List, [], ◌∷◌, ◌++◌}
use Rattle.dep_index.specs.Table.{state_of, is_held, takes_references}
use Rattle.modprobe.specs.Setup.{Setup}
use Rattle.held_table.specs.Held.{Held}
use Rattle.held_lines.specs.Laws.{KeepsHeld}
use Rattle.held_lines.specs.Outcomes.{held_line_outcome, after}
use Rattle.durable_table.specs.Groups.{KeepsHeldAlong}
use Rattle.durable_table.proofs.GroupLemmas.{after-append}
use Rattle.tenures.specs.Kept.{RemovesUnheld}

keeps_at : (s : Setup) (h : Held) (before later : List (List ℕ)) (command : List ℕ) → KeepsHeldAlong s h (before ++ command ∷ later)
    → KeepsHeld (after s h before).table (held_line_outcome s (after s h before) command).1.table
keeps_at s h [] later command along = along.0
keeps_at s h (first ∷ before) later command along = keeps_at s (held_line_outcome s h first).1 before later command along.1

not_both : (held takes : Bool) → (held ≡ true → takes ≡ true) → takes ≡ false → held ≡ false
not_both true takes keeps none = sym (keeps refl) ∙ none
not_both false takes keeps none = refl

pub removes_unheld : (s : Setup) (h : Held) (commands : List (List ℕ)) → KeepsHeldAlong s h commands → RemovesUnheld s h commands
removes_unheld s h commands along before later command m is gone =
    not_both (is_held (after s h before).table m) (takes_references (state_of (after s h (before ++ command ∷ [])).table.book m))
    (subst (λ (u : Held). is_held (after s h before).table m ≡ true → takes_references (state_of u.table.book m) ≡ true)
    (sym (after-append s h before (command ∷ [])))
    (keeps_at s h before later command (subst (KeepsHeldAlong s h) is along) m))
    gone
