-- One turn: a lock is taken, the value behind it is changed, and the lock is let go.
use Rattle.std.proofs.Common.{◌≡◌, ℕ, List, [], ◌∷◌, Some, sym, ap, ◌∙◌, subst, append-nil}
use Rattle.std.specs.Fn.{Once, FnOnceTakesAtMut, FnOnceReturnsAtMut}
use denote.Ref.{MutBor}
use Rattle.atomic_table.specs.Table.{Me}
use Rattle.root_row.specs.declared.view.AtomicStep.{AtomicStep}
use Rattle.root_row.specs.Seats.{RowIs, Seated}
use Rattle.managed_table.specs.declared.view.Pass.{Pass}
use Rattle.managed_table.specs.declared.view.Passes.{Passes}
use Rattle.managed_table.specs.Kept.{seen}
use Rattle.managed_table.specs.Turns.{turn, taken, since, alone, pass_of, with_taken, with_turns, with_misses, turn_of, shown_in_hand, HasTaken, MadeTurn}
use Rattle.managed_table.specs.Passes.{HasInHand, MayActOn, ActedOn}

abbrev pub in_hand : {T : Type 0} → T → List (ℕ × T) → T
in_hand d [] = d
in_hand d (x ∷ xs) = x.1

module _ {T F A : Type 0} (g : Once F (MutBor T × Unit {0}) (A × (MutBor T × Unit {0}))) (fits : RowIs → ℕ → T → Type 0) (shown : T → Seated) (row : RowIs) (lock : ℕ) (f : F) (old : Pass) (m1 : Me T Passes) where
  module _ (took : HasTaken fits shown lock [] old m1) (same_row : old.row.value ≡ row) (may : MayActOn g fits shown row lock f) where
    pub fit : fits row lock took.value
    fit = subst (λ (k : RowIs). fits k lock took.value) same_row took.fit

    pub may_act : (x : T) × (m1.1 ≡ (lock, x) ∷ []) × FnOnceTakesAtMut g f x
    may_act = (took.value, took.hand, (may took.value fit).0)

    module _ (r : A) (m2 : Me T Passes) (acted : ActedOn g lock f r m1.1 m2.1) (same_view : m2.0 ≡ m1.0) where
      same_value : acted.taken ≡ took.value
      same_value = ap (in_hand took.value) (sym acted.was ∙ took.hand)

      did : FnOnceReturnsAtMut g f took.value r acted.left
      did = subst (λ (x : T). FnOnceReturnsAtMut g f x r acted.left) same_value acted.did

      abbrev taking : Pass
      taking = with_taken (with_misses old lock took.missed) (Some (taken lock (seen (shown took.value)) took.steps))

      view_is : m2.0 ≡ alone taking
      view_is = same_view ∙ took.view

      pass_is : pass_of m2.0 ≡ taking
      pass_is = ap pass_of view_is

      same_steps : took.steps ≡ (shown took.value).steps
      same_steps = sym (took.steps_are ∙ append-nil took.steps)

      pub row_after : (pass_of m2.0).row.value ≡ row
      row_after = ap (λ (p : Pass). p.row.value) pass_is ∙ same_row

      -- the value may go back
      pub goes_back : HasInHand fits shown lock (pass_of m2.0) m2
      goes_back = let again = (may took.value fit).1 r acted.left did in record {
        value = acted.left;
        before = seen (shown took.value);
        steps = took.steps;
        hand = acted.is;
        view = view_is ∙ ap alone (sym pass_is);
        has = ap (λ (p : Pass). p.taken) pass_is;
        fit = subst (λ (k : RowIs). fits k lock acted.left) (sym row_after) again.0;
        grows = again.1;
      }

      pub made : (v : Passes) → v ≡ alone (with_turns (pass_of m2.0) (turn_of (pass_of m2.0).taken (shown_in_hand shown m2.1))) → MadeTurn fits shown lock (λ x y. FnOnceReturnsAtMut g f x r y) old (pass_of v)
      made v is = record {
        missed = took.missed;
        taken = took.value;
        left = acted.left;
        turned =
            ap pass_of is
            ∙ ap (λ l. with_turns (pass_of m2.0) (turn_of (pass_of m2.0).taken (shown_in_hand shown l))) acted.is
            ∙ ap (λ (p : Pass). with_turns p (turn_of p.taken (shown acted.left))) pass_is
            ∙ ap (λ (l : List AtomicStep). with_turns (with_misses old lock took.missed) (turn lock (seen (shown took.value)) (seen (shown acted.left)) (since l (shown acted.left)) ∷ [])) same_steps;
        fit = took.fit;
        did = did;
        follows = took.follows;
      }
