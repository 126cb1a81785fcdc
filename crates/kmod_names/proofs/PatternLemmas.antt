-- What is read matches as the texts of the patterns do.
use Rattle.std.proofs.Common.{◌≡◌, ℕ, false, List, [], ◌∷◌, codes, Option, Some, None, Result, Ok, Err, refl, ◌∙◌, ap, arith, nat_le, ◌&&◌, ◌||◌}
use Rattle.std.proofs.lemmas.Bool.Decides.{nat_tests}
use Rattle.std.specs.Option.{option_map}
use Rattle.std.specs.Result.{IfOk, result_ok}
use Rattle.std.specs.declared.alloc.AllocError.{AllocError}
use Rattle.alias_match.specs.declared.alias.Alias.{Alias}
use Rattle.alias_match.specs.declared.read.PatternError.{PatternError}
use Rattle.alias_match.specs.Aliases.{alias_of}
use Rattle.alias_match.specs.Pattern.{Piece, one_of, is_end, is_match}
use Rattle.alias_match.specs.Reading.{pattern_of}
use Rattle.kmod_names.specs.Patterns.{IsReadAs, MatchesNothing, matches_read}

read_is : (read : Result (List Piece) PatternError) (pieces : List Piece) (text : List ℕ) → Some pieces ≡ result_ok read → is_match pieces text ≡ matches_read read text
read_is (Ok own) pieces text h = let same : pieces ≡ own = cc in ap (λ ps. is_match ps text) same
read_is (Err fault) pieces text h = absurd (cc)

-- a pattern that can be read
pub is_read : (pattern : List ℕ) (pieces : List Piece) → Some pieces ≡ result_ok (pattern_of pattern) → IsReadAs pattern pieces
is_read pattern pieces h text = read_is (pattern_of pattern) pieces text h

unread_is : (read : Result (List Piece) PatternError) (text : List ℕ) → None ≡ result_ok read → false ≡ matches_read read text
unread_is (Ok own) text h = absurd (cc)
unread_is (Err fault) text h = refl

-- from `b` to `a` there is no byte
abbrev pub no_byte : List Piece
no_byte = one_of false (record { first = 98; last = 97 } ∷ []) ∷ []

no_number : (b : ℕ) → (nat_le 98 b && nat_le b 97) ≡ false
no_number b = grind (arith, nat_tests)

nothing_matches : (text : List ℕ) → is_match no_byte text ≡ false
nothing_matches [] = refl
nothing_matches (b ∷ text) = ap (λ t. (t || false) && is_end text) (no_number b)

pub set_is : (pieces : List Piece) → Some pieces ≡ result_ok (pattern_of (codes "[b-a]")) → MatchesNothing pieces
set_is pieces set text = let same : pieces ≡ no_byte = cc in ap (λ ps. is_match ps text) same ∙ nothing_matches text

-- one that cannot
pub is_unread : (pattern : List ℕ) (pieces : List Piece) → None ≡ result_ok (pattern_of pattern) → MatchesNothing pieces → IsReadAs pattern pieces
is_unread pattern pieces none nothing text = nothing text ∙ unread_is (pattern_of pattern) text none

pub unread : (pattern : List ℕ) (made : Result Alias AllocError) → None ≡ result_ok (pattern_of pattern) → IfOk made (λ alias. MatchesNothing alias.pattern) → IfOk made (λ alias. IsReadAs pattern alias.pattern)
unread pattern (Err e) none nothing = tt
unread pattern (Ok alias) none nothing = is_unread pattern alias.pattern none nothing

pieces_of_alias : (read : Option (List Piece)) (target : List ℕ) → option_map (λ (alias : Alias). alias.pattern) (option_map (λ pieces. record { pattern = pieces; target = target }) read) ≡ read
pieces_of_alias None target = refl
pieces_of_alias (Some pieces) target = refl

-- what the three words are
pub read_pattern_is : (made : Result (Option Alias) AllocError) (pattern : List ℕ) → IfOk made (λ found. found ≡ alias_of (codes "alias" ∷ pattern ∷ [] ∷ [])) → IfOk made (λ found. option_map (λ alias. alias.pattern) found ≡ result_ok (pattern_of pattern))
read_pattern_is (Err e) pattern h = tt
read_pattern_is (Ok found) pattern h = ap (λ o. option_map (λ (alias : Alias). alias.pattern) o) h ∙ pieces_of_alias (result_ok (pattern_of pattern)) []
