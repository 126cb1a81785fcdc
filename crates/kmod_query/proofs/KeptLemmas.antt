-- What is kept of a list, and what holds of each of its members.
use Rattle.std.proofs.Common.{◌≡◌, ℕ, zero, suc, ◌≤◌, Bool, true, false, ◌&&◌, List, [], ◌∷◌, ◌++◌, length, filter, slice_get, Some, None, refl, ◌∙◌, ap, arith, inl, inr}
use Rattle.std.specs.List.{AllByRecursion}
use Rattle.kmod_names.proofs.PlaceLemmas.{told}

pub all_kept : {X : Type 0} (P : X → Type 0) (p : X → Bool) (xs : List X) → AllByRecursion P xs → AllByRecursion (λ x. P x × (p x ≡ true)) (filter p xs)
all_kept P p [] h = tt
all_kept P p (x ∷ xs) h = elim (told (p x)) [
  | inl t ↦ rw t ((h.0, t), all_kept P p xs h.1)
  | inr t ↦ rw t (all_kept P p xs h.1)
]

pub all_mapped : {X : Type 0} (P Q : X → Type 0) → ((x : X) → P x → Q x) → (xs : List X) → AllByRecursion P xs → AllByRecursion Q xs
all_mapped P Q f [] h = tt
all_mapped P Q f (x ∷ xs) h = (f x h.0, all_mapped P Q f xs h.1)

pub all_pushed : {X : Type 0} (P : X → Type 0) (xs : List X) (x : X) → AllByRecursion P xs → P x → AllByRecursion P (xs ++ x ∷ [])
all_pushed P [] x h own = (own, tt)
all_pushed P (y ∷ xs) x h own = (h.0, all_pushed P xs x h.1 own)

-- the last of them
pub all_front : {X : Type 0} (P : X → Type 0) (xs : List X) (x : X) → AllByRecursion P (xs ++ x ∷ []) → AllByRecursion P xs × P x
all_front P [] x h = (tt, h.0)
all_front P (y ∷ xs) x h = let later = all_front P xs x h.1 in ((h.0, later.0), later.1)

pub filter_then : {X : Type 0} (p q r : X → Bool) → ((x : X) → r x ≡ (p x && q x)) → (xs : List X) → filter q (filter p xs) ≡ filter r xs
filter_then p q r h [] = refl
filter_then p q r h (x ∷ xs) = elim (told (p x)) [
  | inl t ↦ (let e : r x ≡ q x = h x ∙ ap (λ b. b && q x) t in rw (t, e, filter_then p q r h xs) refl)
  | inr t ↦ (let e : r x ≡ false = h x ∙ ap (λ b. b && q x) t in rw (t, e) (filter_then p q r h xs))
]

-- what passes at a place is kept
pub kept_one : {X : Type 0} (p : X → Bool) (xs : List X) (k : ℕ) (x : X) → slice_get xs k ≡ Some x → p x ≡ true → 1 ≤ length (filter p xs)
kept_one p [] k x at own = absurd (cc (at))
kept_one p (y ∷ xs) zero x at own =
    let same : y ≡ x = cc in
    let t : p y ≡ true = ap p same ∙ own in
    rw t (omega arith)
kept_one p (y ∷ xs) (suc k) x at own = elim (told (p y)) [
  | inl t ↦ rw t (omega arith)
  | inr t ↦ rw t (kept_one p xs k x at own)
]

pub past_end : {X : Type 0} (xs : List X) (k : ℕ) → slice_get xs k ≡ None → length xs ≤ k
past_end [] k h = omega arith
past_end (x ∷ xs) zero h = absurd (cc (h))
past_end (x ∷ xs) (suc k) h = let later : length xs ≤ k = past_end xs k h in omega (arith, later)
