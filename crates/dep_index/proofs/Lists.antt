-- Facts about lists that the laws of the table rest on.
use Rattle.std.proofs.Common.{◌≡◌, ◌≢◌, zero-add, ℕ, suc, ◌+◌, ◌<◌, Bool, true, false, not, ◌||◌, eqb, cond, List, [], ◌∷◌, get_or, Some, None, refl, sym, ◌∙◌, ap, subst, arith}
use Rattle.std.proofs.lemmas.Bool.Decides.{nat_tests}
use Rattle.std.proofs.lemmas.Bool.{eqb-true, eq-eqb, or_parts, or_left, or_right}
use Rattle.std.proofs.lemmas.List.Sums.{sum_by-cons}
use Rattle.std.specs.List.{count_by, filter, find, list_any, sum_by}

pub count_by-cons : {X : Type 0} (p : X → Bool) (x : X) (xs : List X) → count_by p (x ∷ xs) ≡ cond (p x) 1 0 + count_by p xs
count_by-cons p x xs = sum_by-cons (λ y. cond (p y) 1 0) x xs

-- a removed number does not stand in the list
pub count_by-removed_same : (m : ℕ) (xs : List ℕ) → count_by (λ s. eqb s m) (filter (λ s. not (eqb s m)) xs) ≡ 0
count_by-removed_same m [] = refl
count_by-removed_same m (x ∷ xs) = at (eqb x m) refl (count_by-removed_same m xs) where
  at : (b : Bool) → eqb x m ≡ b → count_by (λ s. eqb s m) (filter (λ s. not (eqb s m)) xs) ≡ 0
      → count_by (λ s. eqb s m) (cond (not b) (x ∷ filter (λ s. not (eqb s m)) xs) (filter (λ s. not (eqb s m)) xs)) ≡ 0
  at true e rest = rest
  at false e rest = count_by-cons (λ s. eqb s m) x (filter (λ s. not (eqb s m)) xs) ∙ rw (e, rest) refl

-- every other number stands in it as often as before
pub count_by-removed_other : (m k : ℕ) → k ≢ m → (xs : List ℕ) → count_by (λ s. eqb s k) (filter (λ s. not (eqb s m)) xs) ≡ count_by (λ s. eqb s k) xs
count_by-removed_other m k ne [] = refl
count_by-removed_other m k ne (x ∷ xs) = at (eqb x m) refl (count_by-removed_other m k ne xs) where
  at : (b : Bool) → eqb x m ≡ b → count_by (λ s. eqb s k) (filter (λ s. not (eqb s m)) xs) ≡ count_by (λ s. eqb s k) xs
      → count_by (λ s. eqb s k) (cond (not b) (x ∷ filter (λ s. not (eqb s m)) xs) (filter (λ s. not (eqb s m)) xs)) ≡ count_by (λ s. eqb s k) (x ∷ xs)
  at true e rest =
      let n : eqb x k ≡ false = grind (arith, nat_tests) in
      rest ∙ sym (count_by-cons (λ s. eqb s k) x xs ∙ rw (n, zero-add) refl)
  at false e rest =
      count_by-cons (λ s. eqb s k) x (filter (λ s. not (eqb s m)) xs)
      ∙ ap (λ n. cond (eqb x k) 1 0 + n) rest
      ∙ sym (count_by-cons (λ s. eqb s k) x xs)

-- a number that stands in the list fails a test that nothing in the list passes
pub list_any-none_of : (p : ℕ → Bool) (u : ℕ) (xs : List ℕ) → list_any p xs ≡ false → count_by (λ s. eqb s u) xs ≡ 1 → p u ≡ false
list_any-none_of p u [] none once = absurd (omega (arith, once))
list_any-none_of p u (x ∷ xs) none once = at (eqb x u) refl (list_any-none_of p u xs parts.1) where
  parts : (p x ≡ false) × (list_any p xs ≡ false)
  parts = or_parts (p x) (list_any p xs) none

  at : (b : Bool) → eqb x u ≡ b → (count_by (λ s. eqb s u) xs ≡ 1 → p u ≡ false) → p u ≡ false
  at true e rest = let same : x ≡ u = eqb-true x u e in subst (λ (v : ℕ). p v ≡ false) same parts.0
  at false e rest =
      let counted : cond (eqb x u) 1 0 + count_by (λ s. eqb s u) xs ≡ 1 = sym (count_by-cons (λ s. eqb s u) x xs) ∙ once in
      let fewer : 0 + count_by (λ s. eqb s u) xs ≡ 1 = rw e at counted in
      rest (omega (arith, fewer))

-- no_module fails a test that finds no first failure
pub find-none_of : (p : ℕ → Bool) (n : ℕ) (xs : List ℕ) → find (λ x. not (p x)) xs ≡ None → list_any (λ x. eqb x n) xs ≡ true → p n ≡ true
find-none_of p n [] none any = cc
find-none_of p n (x ∷ xs) none any = at (p x) refl (find-none_of p n xs) where
  at : (b : Bool) → p x ≡ b → (find (λ y. not (p y)) xs ≡ None → list_any (λ y. eqb y n) xs ≡ true → p n ≡ true) → p n ≡ true
  at false e rest = let found : cond (not false) (Some x) (find (λ y. not (p y)) xs) ≡ None = rw e at none in cc
  at true e rest = here (eqb x n) refl where
    later : cond (not true) (Some x) (find (λ y. not (p y)) xs) ≡ None
    later = rw e at none

    here : (b : Bool) → eqb x n ≡ b → p n ≡ true
    here true same = let e' : x ≡ n = eqb-true x n same in subst (λ (v : ℕ). p v ≡ true) e' e
    here false other = let any' : (false || list_any (λ y. eqb y n) xs) ≡ true = rw other at any in rest later any'

pub filter_empty : (p : ℕ → Bool) (xs : List ℕ) → ((u : ℕ) → list_any (λ s. eqb s u) xs ≡ true → p u ≡ false) → filter p xs ≡ []
filter_empty p [] none = refl
filter_empty p (x ∷ xs) none =
    let here : p x ≡ false = none x (or_left (eqb x x) _ (eq-eqb x x refl)) in
    let rest : filter p xs ≡ [] = filter_empty p xs (λ u found. none u (or_right (eqb x u) _ found)) in
    rw here rest

-- a list whose items are all 0 sums to 0
pub sum_by-zeros : {X : Type 0} (f : X → ℕ) (d : X) (xs : List X) → ((i : ℕ) → f (get_or xs i d) ≡ 0) → sum_by f xs ≡ 0
sum_by-zeros f d [] zero_at = refl
sum_by-zeros f d (x ∷ xs) zero_at = sum_by-cons f x xs ∙ omega (arith, zero_at 0, sum_by-zeros f d xs (λ i. zero_at (suc i)))

pub count_by-present : (u : ℕ) (xs : List ℕ) → list_any (λ s. eqb s u) xs ≡ true → 0 < count_by (λ s. eqb s u) xs
count_by-present u [] found = cc
count_by-present u (x ∷ xs) found = at (eqb x u) refl (count_by-present u xs) where
  at : (b : Bool) → eqb x u ≡ b → (list_any (λ s. eqb s u) xs ≡ true → 0 < count_by (λ s. eqb s u) xs) → 0 < count_by (λ s. eqb s u) (x ∷ xs)
  at true e rest = let c : count_by (λ s. eqb s u) (x ∷ xs) ≡ 1 + count_by (λ s. eqb s u) xs = count_by-cons (λ s. eqb s u) x xs ∙ rw e refl in omega (arith, c)
  at false e rest =
      let c : count_by (λ s. eqb s u) (x ∷ xs) ≡ 0 + count_by (λ s. eqb s u) xs = count_by-cons (λ s. eqb s u) x xs ∙ rw e refl in
      let later : (false || list_any (λ s. eqb s u) xs) ≡ true = rw e at found in
      omega (arith, c, rest later)
