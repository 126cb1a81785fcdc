-- A kernel's list shows what happened.
use Rattle.std.proofs.Common.{◌≡◌, ⊎_elim, inl, inr, ℕ, Bool, true, false, not, ◌||◌, ◌&&◌, eqb, List, [], ◌∷◌, get_or, refl, sym, ap, ◌∙◌}
use Rattle.std.proofs.lemmas.Bool.{cases_eq, eq-eqb, ne_eqb}
use Rattle.hold_turns.specs.Events.{Event, Loaded, Removed, Asked, Begun, GivesBack, IsIn}
use Rattle.hold_machine.specs.Kernel.{is_in, ShowsWhatIsIn}

in_from_test : (events : List Event) (m : ℕ) → is_in events m ≡ true → IsIn events m
in_from_test [] m is = let e : false ≡ true = is in cc
in_from_test (Loaded n ∷ before) m is = ⊎_elim (λ (e : n ≡ m). inl e)
    (λ (ne : n ≡ m → ⊥). inr (in_from_test before m (sym (ap (λ b. b || is_in before m) (ne_eqb n m ne)) ∙ is))) (cases_eq n m)
in_from_test (Removed n ∷ before) m is = ⊎_elim
    (λ (e : n ≡ m). let bad : false ≡ true = sym (ap (λ b. not b && is_in before m) (eq-eqb n m e)) ∙ is in cc)
    (λ (ne : n ≡ m → ⊥). (ne, in_from_test before m (sym (ap (λ b. not b && is_in before m) (ne_eqb n m ne)) ∙ is))) (cases_eq n m)
in_from_test (Asked call holder modules ∷ before) m is = in_from_test before m is
in_from_test (Begun call holder modules ∷ before) m is = in_from_test before m is
in_from_test (GivesBack holder modules ∷ before) m is = in_from_test before m is

or_true : (b c : Bool) → c ≡ true → (b || c) ≡ true
or_true true c is = refl
or_true false c is = is

test_from_in : (events : List Event) (m : ℕ) → IsIn events m → is_in events m ≡ true
test_from_in [] m there = absurd there
test_from_in (Loaded n ∷ before) m (inl e) = ap (λ b. b || is_in before m) (eq-eqb n m e)
test_from_in (Loaded n ∷ before) m (inr earlier) = or_true (eqb n m) (is_in before m) (test_from_in before m earlier)
test_from_in (Removed n ∷ before) m (ne, there) = ap (λ b. not b && is_in before m) (ne_eqb n m ne) ∙ test_from_in before m there
test_from_in (Asked call holder modules ∷ before) m there = test_from_in before m there
test_from_in (Begun call holder modules ∷ before) m there = test_from_in before m there
test_from_in (GivesBack holder modules ∷ before) m there = test_from_in before m there

-- what the list of a kernel's modules shows
pub shown : (has : List Bool) (events view : List Event) (m : ℕ) (found : Bool) → ShowsWhatIsIn has events → events ≡ view → found ≡ get_or has m false → found ≡ true → IsIn view m
shown has events view m found shows same is yes' =
    in_from_test view m (ap (λ es. is_in es m) (sym same) ∙ (sym (shows m) ∙ (sym is ∙ yes')))

pub not_shown : (has : List Bool) (events view : List Event) (m : ℕ) (found : Bool) → ShowsWhatIsIn has events → events ≡ view → found ≡ get_or has m false → found ≡ false → IsIn view m → ⊥
not_shown has events view m found shows same is none there =
    let bad : true ≡ false = sym (test_from_in view m there) ∙ (ap (λ es. is_in es m) (sym same) ∙ (sym (shows m) ∙ (sym is ∙ none))) in cc
