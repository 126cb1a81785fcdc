-- The last place below a number whose number passes a test.
use Rattle.std.proofs.Common.{◌≡◌, ℕ, zero, suc, ◌≤◌, ◌++◌, arith, Bool, true, List, length, refl, subst, inl, inr}
use Rattle.std.specs.Prelude.{slice_index}
use Rattle.std.proofs.lemmas.List.{get_or_append_left}
use Rattle.alias_match.specs.ForProofs.{end_below}
use Rattle.alias_match.proofs.Members.{told}

-- if one test passes only with another, its last place is in the other's chain
pub end_in_chain : (p r : ℕ → Bool) (numbers : List ℕ) (n : ℕ) → ((x : ℕ) → p x ≡ true → r x ≡ true) → end_below p numbers (end_below r numbers n) ≡ end_below p numbers n
end_in_chain p r numbers zero sub = refl
end_in_chain p r numbers (suc n) sub = elim (told (r (slice_index numbers n))) [
  | inl t ↦ rw t refl
  | inr f ↦ elim (told (p (slice_index numbers n))) [
    | inl t ↦ (let both : r (slice_index numbers n) ≡ true = sub (slice_index numbers n) t in absurd (cc))
    | inr g ↦ rw (f, g) (end_in_chain p r numbers n sub)
  ]
]

pub end_within : (p : ℕ → Bool) (numbers : List ℕ) (n : ℕ) → end_below p numbers n ≤ n
end_within p numbers zero = omega arith
end_within p numbers (suc n) = elim (told (p (slice_index numbers n))) [
  | inl t ↦ rw t (omega arith)
  | inr f ↦ rw f (let less : end_below p numbers n ≤ n = end_within p numbers n in omega arith)
]

pub end_passes : (p : ℕ → Bool) (numbers : List ℕ) (n k : ℕ) → end_below p numbers n ≡ suc k → p (slice_index numbers k) ≡ true
end_passes p numbers zero k e = absurd (omega arith)
end_passes p numbers (suc n) k e = elim (told (p (slice_index numbers n))) [
  | inl t ↦ (let same : suc n ≡ suc k = (rw t at e) in let here : n ≡ k = omega (arith, same) in subst (λ x. p (slice_index numbers x) ≡ true) here t)
  | inr f ↦ end_passes p numbers n k (rw f at e)
]

pub end_appended : (p : ℕ → Bool) (numbers more : List ℕ) (n : ℕ) → n ≤ length numbers → end_below p (numbers ++ more) n ≡ end_below p numbers n
end_appended p numbers more zero le = refl
end_appended p numbers more (suc n) le =
    let here : slice_index (numbers ++ more) n ≡ slice_index numbers n = get_or_append_left numbers more 0 n (omega arith) in
    let rest : end_below p (numbers ++ more) n ≡ end_below p numbers n = end_appended p numbers more n (omega arith) in
    rw (here, rest) refl
