-- Patterns by their texts, after fnmatch(3).
use Rattle.std.specs.Prelude.{◌≡◌, ℕ, Bool, false, List, Option, Result, Ok, Err}
use Rattle.std.specs.List.{position_from}
use Rattle.std.specs.Str.{bytes_eq}
use Rattle.alias_match.specs.declared.read.PatternError.{PatternError}
use Rattle.alias_match.specs.Aliases.{places_where}
use Rattle.alias_match.specs.Pattern.{Piece, is_match}
use Rattle.alias_match.specs.Reading.{pattern_of}

abbrev pub matches_read : Result (List Piece) PatternError → List ℕ → Bool
matches_read (Ok pieces) text = is_match pieces text
matches_read (Err fault) text = false

-- whether a text matches a pattern, given by its text; one that cannot be read matches nothing
abbrev pub matches_pattern : List ℕ → List ℕ → Bool
matches_pattern pattern text = matches_read (pattern_of pattern) text

-- the places, from 0, of the patterns that match, in rising order
abbrev pub pattern_places : List (List ℕ) → List ℕ → List ℕ
pattern_places patterns text = places_where (λ pattern. matches_pattern pattern text) 0 patterns

-- the place of the first that matches
abbrev pub first_pattern : List (List ℕ) → List ℕ → Option ℕ
first_pattern patterns text = position_from (λ pattern. matches_pattern pattern text) 0 patterns

-- the place of the first that is just this text, not as a pattern
abbrev pub place_named : List (List ℕ) → List ℕ → Option ℕ
place_named patterns text = position_from (λ pattern. bytes_eq pattern text) 0 patterns

-- a pattern of these pieces matches as the text does
abbrev pub IsReadAs : List ℕ → List Piece → Type 0
IsReadAs pattern pieces = (text : List ℕ) → is_match pieces text ≡ matches_pattern pattern text

-- no text matches
abbrev pub MatchesNothing : List Piece → Type 0
MatchesNothing pieces = (text : List ℕ) → is_match pieces text ≡ false
