-- What stands at the places of what passes.
use Rattle.std.proofs.Common.{◌≡◌, ℕ, suc, ◌+◌, Bool, true, false, cond, List, [], ◌∷◌, ◌++◌, map, length, filter, slice_get, Option, Some, None, refl, ◌∙◌, ap, arith, ◌⊎◌, inl, inr}
use Rattle.std.specs.List.{filter_map, find, position_from}
use Rattle.alias_match.specs.Aliases.{places_where}

pub told : (b : Bool) → (b ≡ true) ⊎ (b ≡ false)
told true = inl refl
told false = inr refl

-- the place of what is added, if it passes
abbrev pub place_if : Bool → ℕ → List ℕ
place_if passes place = cond passes (place ∷ []) []

pub places_where-push : {X : Type 0} (p : X → Bool) (k : ℕ) (xs : List X) (x : X) → places_where p k (xs ++ x ∷ []) ≡ places_where p k xs ++ place_if (p x) (k + length xs)
places_where-push p k [] x = elim (told (p x)) [
  | inl t ↦ rw t (ap (λ n. n ∷ []) (omega arith))
  | inr t ↦ rw t refl
]
places_where-push p k (y ∷ xs) x =
    let next : k + length (y ∷ xs) ≡ suc k + length xs = omega arith in
    elim (told (p y)) [
      | inl t ↦ rw (t, next) (ap (λ l. k ∷ l) (places_where-push p (suc k) xs x))
      | inr t ↦ rw (t, next) (places_where-push p (suc k) xs x)
    ]

-- the first place
pub first_place : {X : Type 0} (p : X → Bool) (k : ℕ) (xs : List X) → slice_get (places_where p k xs) 0 ≡ position_from p k xs
first_place p k [] = refl
first_place p k (x ∷ xs) =
    let next : suc k ≡ k + 1 = omega arith in
    elim (told (p x)) [
      | inl t ↦ rw t refl
      | inr t ↦ rw t (first_place p (suc k) xs ∙ ap (λ n. position_from p n xs) next)
    ]

-- what stands at them is what passes
pub at_places : {X Y : Type 0} (f : X → Y) (p : Y → Bool) (all : List X) (k : ℕ) (xs : List X) → ((i : ℕ) → slice_get all (i + k) ≡ slice_get xs i) → filter_map (slice_get all) (places_where p k (map f xs)) ≡ filter (λ x. p (f x)) xs
at_places f p all k [] h = refl
at_places {X} f p all k (x ∷ xs) h =
    let behind : (i : ℕ) → slice_get all (i + suc k) ≡ slice_get xs i = λ i. ap (slice_get all) (omega arith) ∙ h (suc i) in
    elim (told (p (f x))) [
      | inl t ↦ (let here : slice_get all k ≡ Some x = ap (slice_get all) (omega arith) ∙ h 0 in rw (t, here) (ap (λ l. x ∷ l) (at_places f p all (suc k) xs behind)))
      | inr t ↦ rw t (at_places f p all (suc k) xs behind)
    ]

pub all_at_places : {X Y : Type 0} (f : X → Y) (p : Y → Bool) (xs : List X) → filter_map (slice_get xs) (places_where p 0 (map f xs)) ≡ filter (λ x. p (f x)) xs
all_at_places f p xs = at_places f p xs 0 xs (λ i. ap (slice_get xs) (omega arith))

-- what stands at the first place is the first that passes
abbrev pub at_place : {X : Type 0} → List X → Option ℕ → Option X
at_place xs None = None
at_place xs (Some i) = slice_get xs i

pub at_first_from : {X Y : Type 0} (f : X → Y) (p : Y → Bool) (all : List X) (k : ℕ) (xs : List X) → ((i : ℕ) → slice_get all (i + k) ≡ slice_get xs i) → at_place all (position_from p k (map f xs)) ≡ find (λ x. p (f x)) xs
at_first_from f p all k [] h = refl
at_first_from f p all k (x ∷ xs) h =
    let behind : (i : ℕ) → slice_get all (i + (k + 1)) ≡ slice_get xs i = λ i. ap (slice_get all) (omega arith) ∙ h (suc i) in
    elim (told (p (f x))) [
      | inl t ↦ rw t (ap (slice_get all) (omega arith) ∙ h 0)
      | inr t ↦ rw t (at_first_from f p all (k + 1) xs behind)
    ]

pub at_first : {X Y : Type 0} (f : X → Y) (p : Y → Bool) (xs : List X) → at_place xs (position_from p 0 (map f xs)) ≡ find (λ x. p (f x)) xs
at_first f p xs = at_first_from f p xs 0 xs (λ i. ap (slice_get xs) (omega arith))
