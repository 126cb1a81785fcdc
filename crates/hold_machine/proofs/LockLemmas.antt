-- One lock is taken, or given back.
use Rattle.std.proofs.Common.{◌≡◌, ◌⊎◌, ⊎_elim, inl, inr, ℕ, ◌<◌, List, length, set, Option, Some, None, All, sym, ap, subst, ◌∙◌}
use Rattle.std.proofs.lemmas.Bool.{cases_eq}
use Rattle.std.proofs.lemmas.List.{get_or-set_same, get_or-set_other}
use Rattle.std.proofs.lemmas.List.Elements.{All-weaker}
use Rattle.hold_machine.specs.Locks.{owner_in, CanHave, AllKept, AllHad}

pub kept_more : (old now : List (Option ℕ)) (call slot : ℕ) → length now ≡ length old → AllKept old now → CanHave old call slot → AllKept old (set now slot (Some call))
kept_more old now call slot len kept can m c is = at (cases_eq m slot) where
  at : (m ≡ slot) ⊎ (m ≡ slot → ⊥) → owner_in (set now slot (Some call)) m ≡ Some c
  at (inl e) =
      let here : owner_in (set now slot (Some call)) m ≡ Some call =
      ap (owner_in (set now slot (Some call))) e ∙ get_or-set_same now slot (Some call) None (subst (λ (n : ℕ). slot < n) (sym len) can.0) in
      let was : owner_in old slot ≡ Some c = ap (owner_in old) (sym e) ∙ is in
      ⊎_elim (λ (none : owner_in old slot ≡ None). let bad : None ≡ Some c = sym none ∙ was in cc) (λ own. here ∙ (sym own ∙ was)) can.1
  at (inr ne) = get_or-set_other now slot m (Some call) None ne ∙ kept m c is

had_still : (now : List (Option ℕ)) (call slot m : ℕ) → slot < length now → owner_in now m ≡ Some call → owner_in (set now slot (Some call)) m ≡ Some call
had_still now call slot m within is = at (cases_eq m slot) where
  at : (m ≡ slot) ⊎ (m ≡ slot → ⊥) → owner_in (set now slot (Some call)) m ≡ Some call
  at (inl e) = ap (owner_in (set now slot (Some call))) e ∙ get_or-set_same now slot (Some call) None within
  at (inr ne) = get_or-set_other now slot m (Some call) None ne ∙ is

pub all_had_still : (now : List (Option ℕ)) (call slot : ℕ) (slots : List ℕ) → slot < length now → AllHad call slots now → AllHad call slots (set now slot (Some call))
all_had_still now call slot slots within had =
    All-weaker (λ m. owner_in now m ≡ Some call) (λ m. owner_in (set now slot (Some call)) m ≡ Some call) (λ m is. had_still now call slot m within is) slots had

-- a lock that the call had is nobody's
pub given_more : (old now : List (Option ℕ)) (call slot : ℕ) → slot < length now → owner_in now slot ≡ Some call
    → ((m c : ℕ) → owner_in old m ≡ Some c → (c ≡ call) ⊎ (owner_in now m ≡ Some c))
    → (m c : ℕ) → owner_in old m ≡ Some c → (c ≡ call) ⊎ (owner_in (set now slot None) m ≡ Some c)
given_more old now call slot within own given m c is = at (cases_eq m slot) where
  at : (m ≡ slot) ⊎ (m ≡ slot → ⊥) → (c ≡ call) ⊎ (owner_in (set now slot None) m ≡ Some c)
  at (inl e) = ⊎_elim (λ same. inl same) (λ has. let both : Some c ≡ Some call = sym has ∙ (ap (owner_in now) e ∙ own) in inl cc) (given m c is)
  at (inr ne) = ⊎_elim (λ same. inl same) (λ has. inr (get_or-set_other now slot m None None ne ∙ has)) (given m c is)
