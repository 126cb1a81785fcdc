-- Where a path and its name end.
use Rattle.std.proofs.Common.{◌≡◌, ℕ, zero, suc, ◌+◌, ◌-◌, ◌<◌, ◌≤◌, List, [], ◌∷◌, Bool, true, false, not, ◌||◌, take, drop, length, Some, None, nat_lt, refl, sym, ◌∙◌, ap, arith, take_all}
use Rattle.std.specs.List.{list_any, position, position_or_len, take_while}
use Rattle.std.proofs.lemmas.Bool.{false_from_ne_true, ltb-false}
use Rattle.std.proofs.lemmas.List.{take_rest}
use Rattle.memchr.specs.Find.{Nowhere, Passes, is_byte}
use Rattle.dep_index.specs.Dependencies.{at_colon, before_colon, last_part}
use Rattle.text_parts.proofs.PlaceLemmas.{from_zero, here_not}
use Rattle.dep_index.proofs.LinkLemmas.{chosen}
use Rattle.std.proofs.Common.{inl, inr}

-- no place of the rest, if there is none from the next on
later : (test : ℕ → Bool) (b : ℕ) (s : List ℕ) (i j : ℕ) → Nowhere (Passes test (b ∷ s)) (suc i) (suc j) → Nowhere (Passes test s) i j
later test b s i j none k low high is = none (suc k) (omega arith) (omega arith) is

pub colon_at : (s : List ℕ) (k : ℕ) → k < length s → Nowhere (Passes (is_byte 58) s) 0 k → Passes (is_byte 58) s k → at_colon s ≡ Some (take k s, drop (suc k) s)
colon_at [] k below none is = absurd (omega arith)
colon_at (b ∷ s) zero below none is = rw is refl
colon_at (b ∷ s) (suc k) below none is =
    rw (here_not (is_byte 58) b s k none) (ap (before_colon (b ∷ [])) (colon_at s k (omega arith) (from_zero (is_byte 58) b s k none) is))

pub colon_none : (s : List ℕ) → Nowhere (Passes (is_byte 58) s) 0 (length s) → at_colon s ≡ None
colon_none [] none = refl
colon_none (b ∷ s) none = rw (here_not (is_byte 58) b s (length s) none) (ap (before_colon (b ∷ [])) (colon_none s (from_zero (is_byte 58) b s (length s) none)))

any_at : (test : ℕ → Bool) (s : List ℕ) (k : ℕ) → k < length s → Passes test s k → list_any test s ≡ true
any_at test [] k below is = absurd (omega arith)
any_at test (b ∷ s) zero below is = rw is refl
any_at test (b ∷ s) (suc k) below is = ap (λ t. test b || t) (any_at test s k (omega arith) is) ∙ elim (test b) as (λ t. (t || true) ≡ true) [ true ↦ refl | false ↦ refl ]

none_at : (test : ℕ → Bool) (s : List ℕ) → Nowhere (Passes test s) 0 (length s) → list_any test s ≡ false
none_at test [] none = refl
none_at test (b ∷ s) none = rw (here_not test b s (length s) none) (none_at test s (from_zero test b s (length s) none))

pub part_none : (s : List ℕ) → Nowhere (Passes (is_byte 47) s) 0 (length s) → last_part s ≡ s
part_none [] none = refl
part_none (b ∷ s) none = rw (none_at (is_byte 47) (b ∷ s) none) refl

pub part_at : (s : List ℕ) (k : ℕ) → k < length s → Nowhere (Passes (is_byte 47) s) (k + 1) (length s) → Passes (is_byte 47) s k → last_part s ≡ drop (suc k) s
part_at [] k below none is = absurd (omega arith)
part_at (b ∷ s) zero below none is =
    rw (any_at (is_byte 47) (b ∷ s) 0 below is) (part_none s (λ j low high is'. none (suc j) (omega arith) (omega arith) is'))
part_at (b ∷ s) (suc k) below none is =
    rw (any_at (is_byte 47) (b ∷ s) (suc k) below is) (part_at s k (omega arith) (λ j low high is'. none (suc j) (omega arith) (omega arith) is') is)

-- what is behind a place, as the program cuts it
pub behind : (s : List ℕ) (k : ℕ) → take (length s - (k + 1)) (drop (k + 1) s) ≡ drop (suc k) s
behind s k = take_rest s (k + 1) ∙ (let next : k + 1 ≡ suc k = omega arith in ap (λ n. drop n s) next)

pub stem_at : (p : ℕ → Bool) (s : List ℕ) (k : ℕ) → position p s ≡ Some k → take k s ≡ take_while (λ b. not (p b)) s
stem_at p s k found = elim (chosen (nat_lt (position_or_len p s) (length s)) (Some (position_or_len p s)) None (Some k) found) [
  | inl u ↦ (let e : position_or_len p s ≡ k = cc in ap (λ n. take n s) (sym e))
  | inr u ↦ absurd (cc)
]

pub stem_none : (p : ℕ → Bool) (s : List ℕ) → position p s ≡ None → s ≡ take_while (λ b. not (p b)) s
stem_none p s found = elim (chosen (nat_lt (position_or_len p s) (length s)) (Some (position_or_len p s)) None None found) [
  | inl u ↦ absurd (cc)
  | inr u ↦ (let past : length s ≤ position_or_len p s = ltb-false _ _ u.0 in sym (take_all (position_or_len p s) s past))
]
