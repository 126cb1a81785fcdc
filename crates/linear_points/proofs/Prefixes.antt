-- What holds of the first steps of a run holds with one step more.
use Rattle.std.proofs.Common.{◌≡◌, ℕ, ◌+◌, ◌<◌, List, [], ◌∷◌, ◌++◌, length, take, get_or, None, refl, sym, ◌∙◌, ap, subst, add-one, take-suc}
use Rattle.dep_index.specs.Table.{Module}
use Rattle.step_core.specs.declared.steps.Step.{Step}
use Rattle.step_core.specs.declared.steps.Event.{Event}
use Rattle.step_core.specs.Machine.{State, Running, step, step_refusal}
use Rattle.step_core.specs.Run.{IsAccepted, events, state_after}

pub state_after-append : (catalogue : List Module) (s : State) (steps : List Step) (x : Step)
    → state_after catalogue s (steps ++ x ∷ []) ≡ (step catalogue (state_after catalogue s steps) x).1
state_after-append catalogue s [] x = refl
state_after-append catalogue s (y ∷ steps) x = state_after-append catalogue (step catalogue s y).1 steps x

pub events-append : (catalogue : List Module) (s : State) (steps : List Step) (x : Step)
    → events catalogue s (steps ++ x ∷ []) ≡ events catalogue s steps ++ (step catalogue (state_after catalogue s steps) x).0 ∷ []
events-append catalogue s [] x = refl
events-append catalogue s (y ∷ steps) x = ap (λ (es : List Event). (step catalogue s y).0 ∷ es) (events-append catalogue (step catalogue s y).1 steps x)

pub accepted-append : (catalogue : List Module) (s : State) (steps : List Step) (x : Step) → IsAccepted catalogue s steps
    → step_refusal catalogue (state_after catalogue s steps) x ≡ None → IsAccepted catalogue s (steps ++ x ∷ [])
accepted-append catalogue s [] x accepted allowed = (allowed, tt)
accepted-append catalogue s (y ∷ steps) x accepted allowed = (accepted.0, accepted-append catalogue (step catalogue s y).1 steps x accepted.1 allowed)

pub next_prefix : (steps : List Step) (i : ℕ) (d : Step) → i < length steps → take (i + 1) steps ≡ take i steps ++ get_or steps i d ∷ []
next_prefix steps i d h = ap (λ (n : ℕ). take n steps) (add-one i) ∙ take-suc steps i d h

-- the machine has made the first i steps, and these are their events
pub record HasRun (from : Running) (steps : List Step) (i : ℕ) (machine : Running) (found : List Event) : Type 0 where
  pub over : machine.catalogue ≡ from.catalogue
  pub state : machine.state ≡ state_after from.catalogue from.state (take i steps)
  pub accepted : IsAccepted from.catalogue from.state (take i steps)
  pub told : found ≡ events from.catalogue from.state (take i steps)

pub one_more : (from : Running) (steps : List Step) (i : ℕ) (machine new : Running) (found more : List Event) (d : Step) (e : Event) → HasRun from steps i machine found
    → i < length steps → step_refusal machine.catalogue machine.state (get_or steps i d) ≡ None
    → e ≡ (step machine.catalogue machine.state (get_or steps i d)).0 → new.state ≡ (step machine.catalogue machine.state (get_or steps i d)).1 → new.catalogue ≡ machine.catalogue
    → more ≡ found ++ e ∷ []
    → HasRun from steps (i + 1) new more
one_more from steps i machine new found more d e has h allowed event state over pushed =
    record {
      over = over ∙ has.over;
      state = state ∙ ap (λ (c : List Module). (step c machine.state (get_or steps i d)).1) has.over ∙ ap (λ (s : State). (step from.catalogue s (get_or steps i d)).1) has.state
          ∙ sym (state_after-append from.catalogue from.state (take i steps) (get_or steps i d)) ∙ ap (state_after from.catalogue from.state) (sym prefix);
      accepted = subst (IsAccepted from.catalogue from.state) (sym prefix) (accepted-append from.catalogue from.state (take i steps) (get_or steps i d) has.accepted here);
      told = pushed ∙ ap (λ (es : List Event). es ++ e ∷ []) has.told ∙ ap (λ (y : Event). events from.catalogue from.state (take i steps) ++ y ∷ []) made
          ∙ sym (events-append from.catalogue from.state (take i steps) (get_or steps i d)) ∙ ap (events from.catalogue from.state) (sym prefix);
    } where
      prefix : take (i + 1) steps ≡ take i steps ++ get_or steps i d ∷ []
      prefix = next_prefix steps i d h

      here : step_refusal from.catalogue (state_after from.catalogue from.state (take i steps)) (get_or steps i d) ≡ None
      here = ap (λ (s : State). step_refusal from.catalogue s (get_or steps i d)) (sym has.state) ∙ ap (λ (c : List Module). step_refusal c machine.state (get_or steps i d)) (sym has.over) ∙ allowed

      made : e ≡ (step from.catalogue (state_after from.catalogue from.state (take i steps)) (get_or steps i d)).0
      made = event ∙ ap (λ (c : List Module). (step c machine.state (get_or steps i d)).0) has.over ∙ ap (λ (s : State). (step from.catalogue s (get_or steps i d)).0) has.state
