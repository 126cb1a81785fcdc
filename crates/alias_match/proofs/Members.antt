-- Members of lists of numbers, and what a filter keeps of them.
use Rattle.std.proofs.Common.{◌≡◌, ℕ, Bool, true, false, List, [], ◌∷◌, filter, Contains, refl, sym, subst, arith, ◌⊎◌, inl, inr}
use Rattle.std.proofs.lemmas.List.Elements.{All-contains, Contains-append_left, Contains-append_right, Contains-append_cases, Contains-push, Contains-push_cases, filter_passes}

pub told : (b : Bool) → (b ≡ true) ⊎ (b ≡ false)
told true = inl refl
told false = inr refl

pub nothing_in : {x : ℕ} → Contains [] x → ⊥
nothing_in (k, within, is) = omega arith

pub is_first : (x : ℕ) (xs : List ℕ) → Contains (x ∷ xs) x
is_first x xs = Contains-append_left (x ∷ []) xs x (Contains-push [] x)

pub is_later : (y : ℕ) (xs : List ℕ) (x : ℕ) → Contains xs x → Contains (y ∷ xs) x
is_later y xs x h = Contains-append_right (y ∷ []) xs x h

pub first_or_later : (y : ℕ) (xs : List ℕ) (x : ℕ) → Contains (y ∷ xs) x → (y ≡ x) ⊎ Contains xs x
first_or_later y xs x h = elim (Contains-append_cases (y ∷ []) xs x h) [
  | inl one ↦ elim (Contains-push_cases [] y x one) [ inl none ↦ absurd (nothing_in none) | inr same ↦ inl same ]
  | inr later ↦ inr later
]

-- a filter keeps the members that pass
pub kept_by_filter : (p : ℕ → Bool) (xs : List ℕ) (x : ℕ) → Contains xs x → p x ≡ true → Contains (filter p xs) x
kept_by_filter p [] x h passes = absurd (nothing_in h)
kept_by_filter p (y ∷ xs) x h passes = elim (first_or_later y xs x h) [
  | inl same ↦ (let first : p y ≡ true = subst (λ z. p z ≡ true) (sym same) passes in rw first (subst (λ z. Contains (y ∷ filter p xs) z) same (is_first y (filter p xs))))
  | inr later ↦ elim (told (p y)) [
    | inl t ↦ rw t (is_later y (filter p xs) x (kept_by_filter p xs x later passes))
    | inr t ↦ rw t (kept_by_filter p xs x later passes)
  ]
]

-- and t others
pub passes_filter : (p : ℕ → Bool) (xs : List ℕ) (x : ℕ) → Contains (filter p xs) x → p x ≡ true
passes_filter p xs x h = All-contains (λ y. p y ≡ true) (filter p xs) x (filter_passes p xs) h
