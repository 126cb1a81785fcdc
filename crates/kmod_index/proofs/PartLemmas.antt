-- Where the two parts of a text end.
use Rattle.std.proofs.Common.{◌≡◌, ℕ, zero, suc, ◌+◌, ◌-◌, ◌<◌, List, [], ◌∷◌, Bool, true, false, ◌||◌, take, drop, length, Some, None, refl, ◌∙◌, ap, arith}
use Rattle.std.specs.List.{list_any}
use Rattle.std.proofs.lemmas.List.{take_rest}
use Rattle.memchr.specs.Find.{Nowhere, Passes, is_byte}
use Rattle.kmod_index.specs.Parts.{at_first, at_last, onto_parts}
use Rattle.text_parts.proofs.PlaceLemmas.{from_zero, here_not}

pub first_at : (byte : ℕ) (s : List ℕ) (k : ℕ) → k < length s → Nowhere (Passes (is_byte byte) s) 0 k → Passes (is_byte byte) s k → at_first byte s ≡ Some (take k s, drop (suc k) s)
first_at byte [] k below none is = absurd (omega arith)
first_at byte (b ∷ s) zero below none is = rw is refl
first_at byte (b ∷ s) (suc k) below none is =
    rw (here_not (is_byte byte) b s k none) (ap (onto_parts (b ∷ [])) (first_at byte s k (omega arith) (from_zero (is_byte byte) b s k none) is))

pub first_none : (byte : ℕ) (s : List ℕ) → Nowhere (Passes (is_byte byte) s) 0 (length s) → at_first byte s ≡ None
first_none byte [] none = refl
first_none byte (b ∷ s) none =
    rw (here_not (is_byte byte) b s (length s) none) (ap (onto_parts (b ∷ [])) (first_none byte s (from_zero (is_byte byte) b s (length s) none)))

any_at : (test : ℕ → Bool) (s : List ℕ) (k : ℕ) → k < length s → Passes test s k → list_any test s ≡ true
any_at test [] k below is = absurd (omega arith)
any_at test (b ∷ s) zero below is = rw is refl
any_at test (b ∷ s) (suc k) below is = ap (λ t. test b || t) (any_at test s k (omega arith) is) ∙ elim (test b) as (λ t. (t || true) ≡ true) [ true ↦ refl | false ↦ refl ]

none_at : (test : ℕ → Bool) (s : List ℕ) → Nowhere (Passes test s) 0 (length s) → list_any test s ≡ false
none_at test [] none = refl
none_at test (b ∷ s) none = rw (here_not test b s (length s) none) (none_at test s (from_zero test b s (length s) none))

pub last_at : (byte : ℕ) (s : List ℕ) (k : ℕ) → k < length s → Nowhere (Passes (is_byte byte) s) (k + 1) (length s) → Passes (is_byte byte) s k → at_last byte s ≡ Some (take k s, drop (suc k) s)
last_at byte [] k below none is = absurd (omega arith)
last_at byte (b ∷ s) zero below none is =
    let after : list_any (is_byte byte) s ≡ false = none_at (is_byte byte) s (λ j low high yes. none (suc j) (omega arith) (omega arith) yes) in
    rw (after, is) refl
last_at byte (b ∷ s) (suc k) below none is =
    let after : list_any (is_byte byte) s ≡ true = any_at (is_byte byte) s k (omega arith) is in
    rw after (ap (onto_parts (b ∷ [])) (last_at byte s k (omega arith) (λ j low high yes. none (suc j) (omega arith) (omega arith) yes) is))

pub last_none : (byte : ℕ) (s : List ℕ) → Nowhere (Passes (is_byte byte) s) 0 (length s) → at_last byte s ≡ None
last_none byte [] none = refl
last_none byte (b ∷ s) none =
    let after : list_any (is_byte byte) s ≡ false = none_at (is_byte byte) s (from_zero (is_byte byte) b s (length s) none) in
    rw (after, here_not (is_byte byte) b s (length s) none) refl

-- what is behind a place, as the program cuts it
pub behind : (s : List ℕ) (k : ℕ) → take (length s - (k + 1)) (drop (k + 1) s) ≡ drop (suc k) s
behind s k = take_rest s (k + 1) ∙ (let next : k + 1 ≡ suc k = omega arith in ap (λ n. drop n s) next)
