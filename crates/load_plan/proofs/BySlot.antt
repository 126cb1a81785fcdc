-- Values by slot.
use Rattle.std.proofs.Common.{◌≡◌, ℕ, zero, suc, ◌<◌, ◌≤◌, List, [], ◌∷◌, ◌++◌, length, get_or, set, replicate, length-append, inl, inr, refl, sym, ◌∙◌, ap, subst, arith}
use Rattle.std.proofs.lemmas.Bool.Decides.{eqb_tells}
use Rattle.std.proofs.lemmas.List.{get_or-set_same, get_or-set_other, map-set, get_or_append_left, get_or_push}
use Rattle.load_plan.specs.BySlot.{value_at, values_of, ArePlaces}

-- no slot has a value of its own
pub values-none : {A : Type 0} (usual : A) (own : List A) (n : ℕ) → values_of usual own (replicate n 0) ≡ replicate n usual
values-none usual own zero = refl
values-none usual own (suc n) = ap (λ vs. usual ∷ vs) (values-none usual own n)

pub places-none : {A : Type 0} (own : List A) (n : ℕ) → ArePlaces own (replicate n 0)
places-none own zero zero = omega arith
places-none own zero (suc m) = omega arith
places-none own (suc n) zero = omega arith
places-none own (suc n) (suc m) = places-none own n m

value-stays : {A : Type 0} (usual : A) (own : List A) (x : A) (p : ℕ) → p ≤ length own → value_at usual (own ++ x ∷ []) p ≡ value_at usual own p
value-stays usual own x zero within = refl
value-stays usual own x (suc p) within = get_or_append_left own (x ∷ []) usual p (omega (arith, within))

-- the others keep theirs
values-stay : {A : Type 0} (usual : A) (own : List A) (x : A) (places : List ℕ) → ArePlaces own places → values_of usual (own ++ x ∷ []) places ≡ values_of usual own places
values-stay usual own x [] fit = refl
values-stay usual own x (p ∷ places) fit =
    ap (λ v. v ∷ values_of usual (own ++ x ∷ []) places) (value-stays usual own x p (fit 0))
    ∙ ap (λ vs. value_at usual own p ∷ vs) (values-stay usual own x places (λ m. fit (suc m)))

-- a slot gets a value of its own
pub values-set : {A : Type 0} (usual : A) (own : List A) (x : A) (places : List ℕ) (slot : ℕ) → ArePlaces own places
    → values_of usual (own ++ x ∷ []) (set places slot (suc (length own))) ≡ set (values_of usual own places) slot x
values-set usual own x places slot fit =
    map-set (value_at usual (own ++ x ∷ [])) places slot (suc (length own))
    ∙ ap (λ v. set (values_of usual (own ++ x ∷ []) places) slot v) (get_or_push own x usual (length own) refl)
    ∙ ap (λ vs. set vs slot x) (values-stay usual own x places fit)

pub places-set : {A : Type 0} (own : List A) (x : A) (places : List ℕ) (slot : ℕ) → slot < length places → ArePlaces own places → ArePlaces (own ++ x ∷ []) (set places slot (suc (length own)))
places-set own x places slot within fit m = elim (eqb_tells m slot) [
  | inl t ↦ subst (λ p. p ≤ length (own ++ x ∷ [])) (sym (ap (λ j. get_or (set places slot (suc (length own))) j 0) t.1 ∙ get_or-set_same places slot (suc (length own)) 0 within)) (omega (arith, length-append own (x ∷ [])))
  | inr t ↦ subst (λ p. p ≤ length (own ++ x ∷ [])) (sym (get_or-set_other places slot m (suc (length own)) 0 t.1)) (omega (arith, fit m, length-append own (x ∷ [])))
]
