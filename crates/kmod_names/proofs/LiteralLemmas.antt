-- A literal pattern matches its own text alone.
use Rattle.std.proofs.Common.{◌≡◌, ℕ, Bool, true, false, ◌||◌, ◌&&◌, not, ◌==◌, nat_eq, List, [], ◌∷◌, map, length, Ok, refl, sym, ◌∙◌, ap, arith}
use Rattle.std.proofs.lemmas.Bool.{or_parts}
use Rattle.std.proofs.lemmas.Bool.Decides.{nat_tests}
use Rattle.std.proofs.Math.Bool.{or-false}
use Rattle.std.specs.List.{list_any}
use Rattle.std.specs.Str.{bytes_eq}
use Rattle.alias_match.specs.Pattern.{byte, is_match}
use Rattle.alias_match.specs.Reading.{after_item, item_of, pattern_of, pieces_from}
use Rattle.kmod_names.specs.Patterns.{matches_pattern, matches_read}
use Rattle.kmod_names.specs.ForProofs.{is_literal, is_named, is_other, is_special}

was_false : (b : Bool) → not b ≡ true → b ≡ false
was_false false h = refl
was_false true h = absurd (cc)

none_of : (a b c d e : Bool) → (a || b || c || d || e) ≡ false → (a ≡ false) × (b ≡ false) × (c ≡ false) × (d ≡ false) × (e ≡ false)
none_of true b c d e h = absurd (cc)
none_of false true c d e h = absurd (cc)
none_of false false true d e h = absurd (cc)
none_of false false false true e h = absurd (cc)
none_of false false false false true h = absurd (cc)
none_of false false false false false h = (refl, refl, refl, refl, refl)

-- a byte that is not special is an item
plain_item : (b : ℕ) (s : List ℕ) → is_special b ≡ false → item_of b s ≡ Ok (byte b, s)
plain_item b [] h =
    let none = none_of (b == 42) (b == 45) (b == 63) (b == 91) (b == 92) h in
    rw (none.3, none.0, none.2, none.4, none.1) refl
plain_item b (c ∷ s) h =
    let none = none_of (b == 42) (b == 45) (b == 63) (b == 91) (b == 92) h in
    rw (none.3, none.0, none.2, none.4, none.1) refl

literal_pieces : (pattern : List ℕ) → list_any is_special pattern ≡ false → pattern_of pattern ≡ Ok (map byte pattern)
literal_pieces [] h = refl
literal_pieces (b ∷ s) h =
    let parts : (is_special b ≡ false) × (list_any is_special s ≡ false) = or_parts (is_special b) (list_any is_special s) h in
    ap (after_item (pieces_from (length s))) (plain_item b s parts.0)
    ∙ ap (λ r. after_item (λ later. r) (Ok (byte b, s))) (literal_pieces s parts.1)

same_test : (a b : ℕ) → nat_eq a b ≡ nat_eq b a
same_test a b = grind (arith, nat_tests)

literal_match : (pattern text : List ℕ) → is_match (map byte pattern) text ≡ bytes_eq text pattern
literal_match [] [] = refl
literal_match [] (b ∷ text) = refl
literal_match (a ∷ pattern) [] = refl
literal_match (a ∷ pattern) (b ∷ text) = rw (same_test a b) (ap (λ later. nat_eq b a && later) (literal_match pattern text))

literal_matches : (pattern text : List ℕ) → is_literal pattern ≡ true → matches_pattern pattern text ≡ bytes_eq text pattern
literal_matches pattern text h =
    ap (λ read. matches_read read text) (literal_pieces pattern (was_false (list_any is_special pattern) h)) ∙ literal_match pattern text

either_from : (literal same matches : Bool) → (literal ≡ true → matches ≡ same) → (literal && same || not literal && matches) ≡ matches
either_from true same matches h = or-false same ∙ sym (h refl)
either_from false same matches h = refl

-- what matches is a literal pattern that is the text, or another that matches
pub either_way : (text pattern : List ℕ) → (is_named text pattern || is_other text pattern) ≡ matches_pattern pattern text
either_way text pattern = either_from (is_literal pattern) (bytes_eq text pattern) (matches_pattern pattern text) (literal_matches pattern text)
