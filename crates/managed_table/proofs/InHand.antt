-- A leaf in hand that made no call is still in hand.
use Rattle.std.proofs.Common.{◌≡◌, ℕ, List, [], ◌∷◌, ◌++◌, Option, Some, None, MatchOption, sym, ap, ◌∙◌, subst, append_assoc}
use Rattle.atomic_table.specs.Table.{Me, rest}
use Rattle.atomic_table.specs.declared.shared.Seat.{Seat}
use Rattle.root_row.specs.declared.view.AtomicStep.{AtomicStep}
use Rattle.root_row.specs.Seats.{RowIs, Seated, IsOf}
use Rattle.root_row.specs.Views.{seen_of}
use Rattle.managed_table.specs.declared.view.Pass.{Pass}
use Rattle.managed_table.specs.declared.view.Passes.{Passes}
use Rattle.managed_table.specs.Kept.{seen, shown, leaf_fits}
use Rattle.managed_table.specs.Turns.{taken, alone, pass_of, with_taken, with_misses, Follows, HasTaken}
use Rattle.managed_table.specs.Callers.{ManagedIs, CallerIs, PassIs, IsCallerOf, pass_is}
use Rattle.managed_table.specs.Passes.{IsFree}
use Rattle.managed_table.specs.InHand.{HasLeaf}
use Rattle.managed_table.proofs.Turning.{in_hand}
use Rattle.managed_table.proofs.Answered.{leaf_same}

pub at_none : {A P : Type 0} (Q : A → Type 0) (o : Option A) → o ≡ None → P → MatchOption o P Q
at_none {A} {P} Q o is = subst (λ x. MatchOption x P Q) (sym is)

module _ (row : RowIs) (lock : ℕ) (p : Pass) (m1 : Me Seated Passes) (steps : List AtomicStep) (took : HasTaken leaf_fits shown lock steps p m1) (same_row : p.row.value ≡ row) (x : Seated) (was : m1.1 ≡ (lock, x) ∷ rest m1.1) where
  is_value : took.value ≡ x
  is_value = ap (in_hand took.value) (sym took.hand ∙ was)

  fit : leaf_fits row lock x
  fit = subst (λ (k : RowIs). leaf_fits k lock x) same_row (subst (leaf_fits p.row.value lock) is_value took.fit)

  pub stays : (y : Seated) → IsOf row y → (m2 : Me Seated Passes) → m2.1 ≡ (lock, y) ∷ rest m1.1 → m2.0 ≡ m1.0 → y.view ≡ x.view
      → (more : List AtomicStep) → y.steps ≡ x.steps ++ more → HasTaken leaf_fits shown lock (steps ++ more) p m2
  stays y own m2 is same_view same more steps_are =
      let unseen : seen took.value ≡ seen y = ap seen is_value ∙ sym (ap seen_of same) in record {
        value = y;
        missed = took.missed;
        steps = took.steps;
        view = same_view ∙ took.view ∙ ap (λ s. alone (with_taken (with_misses p lock took.missed) (Some (taken lock s took.steps)))) unseen;
        steps_are = steps_are ∙ ap (λ (s : Seated). s.steps ++ more) (sym is_value) ∙ ap (λ l. l ++ more) took.steps_are ∙ append_assoc took.steps steps more;
        hand = is ∙ ap (λ l. (lock, y) ∷ l) (ap rest took.hand);
        fit = subst (λ (k : RowIs). leaf_fits k lock y) (sym same_row) (leaf_same row lock 0 x y fit own same).0;
        follows = subst (Follows p lock) unseen took.follows;
      }

-- a caller of the table, whose passes for the leaves and for the book are these
module _ (table : ManagedIs) (seat : Seat Seated Passes) (book : PassIs) (caller : CallerIs) (is : record { leaves = pass_is seat; book = book } ≡ caller) (own : IsCallerOf table caller) (seat' : Seat Seated Passes) where
  -- it has just taken the lock of the worker's leaf
  pub has_leaf : (worker : ℕ) → seat'.table_id ≡ seat.table_id → HasTaken leaf_fits shown worker [] (pass_of seat.me.0) seat'.me → HasLeaf table worker (pass_of seat.me.0) seat'
  has_leaf worker same took = record {
    id = same ∙ ap (λ (k : CallerIs). k.leaves.table) is ∙ own.0;
    row = ap (λ (k : CallerIs). k.leaves.pass.row.value) is ∙ own.1;
    steps = [];
    took = took;
  }

  -- it stays one of the table if it has let go
  pub still_own : IsFree table.leaves table.row seat' → IsCallerOf table (record { leaves = pass_is seat'; book = book })
  still_own free = (free.0, free.1, ap (λ (k : CallerIs). k.book.table) is ∙ own.2, ap (λ (k : CallerIs). k.book.pass.row.value) is ∙ own.3)
