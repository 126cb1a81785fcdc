-- Patterns of keys, and the order of lines.
use Rattle.std.proofs.Common.{◌≡◌, ℕ, suc, ◌+◌, ◌≤◌, List, [], ◌∷◌, ◌++◌, Bool, true, false, cond, length, take, drop, Some, None, nat_lt, refl, sym, ◌∙◌, ap, arith, inl, inr, ◌⊎◌}
use Rattle.std.specs.Borrow.{Bor}
use Rattle.std.specs.Prelude.{fold}
use Rattle.std.specs.List.{insert, position, position_or_len}
use Rattle.std.proofs.lemmas.Bool.{ltb-false}
use Rattle.memchr.specs.Find.{Nowhere, Passes, is_byte}
use Rattle.text_parts.proofs.PlaceLemmas.{from_zero, here_not}
use Rattle.kmod_names.proofs.PlaceLemmas.{told}
use Rattle.kmod_index.specs.ForProofs.{pointed}
use Rattle.kmod_index.specs.Lines.{Keyed}
use Rattle.kmod_index.specs.Tries.{comes_before, in_order, is_wild, pattern_of_key, put_line}

-- a key without a backslash is its pattern
pub pattern_of_key-plain : (key : List ℕ) → Nowhere (Passes (is_byte 92) key) 0 (length key) → pattern_of_key key ≡ key
pattern_of_key-plain [] none = refl
pattern_of_key-plain (b ∷ key) none = elim (told (is_wild b)) [
  | inl t ↦ rw t refl
  | inr t ↦ rw (t, here_not (is_byte 92) b key (length key) none) (ap (λ l. b ∷ l) (pattern_of_key-plain key (from_zero (is_byte 92) b key (length key) none)))
]

-- the line that a reference points to comes after
abbrev pub after : Keyed → Bor Keyed → Bool
after line other = comes_before true line.key other.now.key

-- put at the first place that it comes before
put_at : (line : Bor Keyed) (found : List (Bor Keyed)) → pointed (take (position_or_len (after line.now) found) found ++ line ∷ drop (position_or_len (after line.now) found) found) ≡ put_line line.now (pointed found)
put_at line [] = refl
put_at line (other ∷ found) =
    let next : 1 + position_or_len (after line.now) found ≡ suc (position_or_len (after line.now) found) = omega arith in
    elim (told (after line.now other)) [
      | inl t ↦ rw t refl
      | inr t ↦ rw (t, next) (ap (λ l. other.now ∷ l) (put_at line found))
    ]

none_after : (line : Bor Keyed) (found : List (Bor Keyed)) → length found ≤ position_or_len (after line.now) found → pointed (found ++ line ∷ []) ≡ put_line line.now (pointed found)
none_after line [] h = refl
none_after line (other ∷ found) h = elim (told (after line.now other)) [
  | inl t ↦ absurd (omega (arith, rw t at h))
  | inr t ↦ rw t (ap (λ l. other.now ∷ l) (none_after line found (omega (arith, rw t at h))))
]

chosen : {A : Type 0} (b : Bool) (x y z : A) → cond b x y ≡ z → ((b ≡ true) × (x ≡ z)) ⊎ ((b ≡ false) × (y ≡ z))
chosen true x y z h = inl (refl, h)
chosen false x y z h = inr (refl, h)

pub put-some : (line : Bor Keyed) (found : List (Bor Keyed)) (place : ℕ) → Some place ≡ position (after line.now) found → pointed (insert found place line) ≡ put_line line.now (pointed found)
put-some line found place h = elim (chosen (nat_lt (position_or_len (after line.now) found) (length found)) (Some (position_or_len (after line.now) found)) None (Some place) (sym h)) [
  | inl u ↦ (let e : position_or_len (after line.now) found ≡ place = cc in ap (λ n. pointed (insert found n line)) (sym e) ∙ put_at line found)
  | inr u ↦ absurd (cc)
]

pub put-none : (line : Bor Keyed) (found : List (Bor Keyed)) → None ≡ position (after line.now) found → pointed (found ++ line ∷ []) ≡ put_line line.now (pointed found)
put-none line found h = elim (chosen (nat_lt (position_or_len (after line.now) found) (length found)) (Some (position_or_len (after line.now) found)) None None (sym h)) [
  | inl u ↦ absurd (cc)
  | inr u ↦ none_after line found (ltb-false _ _ u.0)
]

fold-push : (lines done : List Keyed) (line : Keyed) → fold (λ done line. put_line line done) done (lines ++ line ∷ []) ≡ put_line line (fold (λ done line. put_line line done) done lines)
fold-push [] done line = refl
fold-push (first ∷ lines) done line = fold-push lines (put_line first done) line

-- one line more, put among the others
pub in_order_push : (lines : List Keyed) (line : Keyed) → in_order (lines ++ line ∷ []) ≡ put_line line (in_order lines)
in_order_push lines line = fold-push lines [] line
