-- Turns along the course of a call, and choices one after another.
use Rattle.std.proofs.Common.{arith, ◌≤◌, ◌+◌, drop, drop-cons, drop_of_length-le, add-one, ◌≡◌, refl, sym, ap, subst, ◌∙◌, true, false, ℕ, ◌<◌, List, ◌∷◌, length, get_or, set, Result, Ok, Err, OnOk}
use Rattle.std.proofs.lemmas.List.{get_or_default, get_or-set_same, get_or-set_other, length-set}
use Rattle.hold_turns.specs.declared.call.Call.{Call}
use Rattle.hold_turns.specs.declared.call.State.{State}
use Rattle.hold_turns.specs.declared.call.Stopped.{Stopped}
use Rattle.hold_turns.specs.declared.call.End.{End}
use Rattle.hold_turns.specs.declared.call.State.TheVariants as state
use Rattle.hold_turns.specs.declared.run.Choice.{Choice}
use Rattle.hold_turns.specs.Rule.{is_over, IsCut}
use Rattle.hold_turns.specs.Course.{may_come, HasTurned, Turns, IsChosen, AreMade}

pub turned_from : (s : State) (r : Result (Unit {0}) Stopped) (old new : Call) → old.state ≡ s → is_over s ≡ false → OnOk r (may_come s new.state ≡ true) → OnOk r (HasTurned old new)
turned_from s (Ok done) old new is alive goes = record {
  turned = λ not. subst (λ (k : State). may_come k new.state ≡ true) (sym is) goes;
  stayed = λ over. let e : false ≡ true = sym alive ∙ (ap is_over (sym is) ∙ over) in cc;
}
turned_from s (Err stopped) old new is alive goes = tt

pub stayed_over : (old : Call) → is_over old.state ≡ true → HasTurned old old
stayed_over old over = record { turned = λ not. let e : false ≡ true = sym not ∙ over in cc; stayed = λ is. is }

-- each state may end
over_comes : (s : State) (e : End) → is_over s ≡ false → may_come s (state.Over e) ≡ true
over_comes (state.Over end) e alive = let f : true ≡ false = alive in cc
over_comes state.Begins e alive = refl
over_comes state.Holding e alive = refl
over_comes state.Locking e alive = refl
over_comes state.Bringing e alive = refl
over_comes state.Stepping e alive = refl
over_comes state.Acting e alive = refl
over_comes state.Looking e alive = refl

pub ended_from : (old new : Call) (e : End) → new.state ≡ state.Over e → HasTurned old new
ended_from old new e is = record {
  turned = λ alive. subst (λ (k : State). may_come old.state k ≡ true) (sym is) (over_comes old.state e alive);
  stayed = λ over. ap is_over is;
}

pub turns_one : (calls : List Call) (n : ℕ) (any new : Call) → n < length calls → HasTurned (get_or calls n any) new → Turns n calls (set calls n new)
turns_one calls n any new lt turned = record {
  len = length-set calls n new;
  turn = λ within none. subst (λ (c : Call). HasTurned (get_or calls n none) c) (sym (get_or-set_same calls n new none lt))
      (subst (λ (c : Call). HasTurned c new) (get_or_default calls n any none lt) turned);
  others = λ i none ne. get_or-set_other calls n i new none ne;
}

pub turns_none : (calls : List Call) (n : ℕ) → length calls ≤ n → Turns n calls calls
turns_none calls n past = record { len = refl; turn = λ within none. absurd (omega arith); others = λ i none ne. refl }

pub cut_none : (calls : List Call) (n : ℕ) → length calls ≤ n → IsCut n calls calls
cut_none calls n past = record { len = refl; over = λ within none. absurd (omega arith); others = λ i none ne. refl }

-- one choice more was made of those that are left
pub made_more : (calls next new : List Call) (choices : List Choice) (i : ℕ) (any : Choice) → i < length choices
    → IsChosen (get_or choices i any) calls next → AreMade next (drop (i + 1) choices) new → AreMade calls (drop i choices) new
made_more calls next new choices i any within chosen later =
    subst (λ (left : List Choice). AreMade calls left new)
    (sym (drop-cons choices i any within ∙ ap (λ (n : ℕ). get_or choices i any ∷ drop n choices) (sym (add-one i))))
    (next, chosen, later)

pub made_all : (calls : List Call) (choices : List Choice) (i : ℕ) → length choices ≤ i → AreMade calls (drop i choices) calls
made_all calls choices i past = subst (λ (left : List Choice). AreMade calls left calls) (sym (drop_of_length-le choices past)) refl
