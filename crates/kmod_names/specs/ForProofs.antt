-- Serves proofs alone.
use Rattle.std.specs.Prelude.{◌≡◌, ℕ, Bool, not, ◌==◌, ◌&&◌, ◌||◌, List, length, slice_get}
use Rattle.std.specs.List.{filter_map, list_any}
use Rattle.std.specs.Str.{bytes_eq}
use Rattle.alias_match.specs.declared.alias.Alias.{Alias}
use Rattle.alias_match.specs.Aliases.{matching_places, places_where}
use Rattle.kmod_names.specs.Patterns.{matches_pattern}
use Rattle.kmod_names.specs.Places.{places_in}

-- whether a byte of a pattern may stand for another byte than itself: `*`, `-`, `?`, `[` or a backslash
abbrev pub is_special : ℕ → Bool
is_special byte = byte == 42 || byte == 45 || byte == 63 || byte == 91 || byte == 92

-- whether each byte of a pattern stands for itself
abbrev pub is_literal : List ℕ → Bool
is_literal pattern = not (list_any is_special pattern)

-- a literal pattern that is the text
abbrev pub is_named : List ℕ → List ℕ → Bool
is_named text pattern = is_literal pattern && bytes_eq text pattern

-- a pattern that is not literal and matches
abbrev pub is_other : List ℕ → List ℕ → Bool
is_other text pattern = not (is_literal pattern) && matches_pattern pattern text

-- literal patterns are found by their texts, the others by what they are read as
pub record FindsEach (patterns : List (List ℕ)) (literals : List (List ℕ × List ℕ)) (others : List Alias) (other_places : List ℕ) : Type 0 where
  pub named : (text : List ℕ) → places_in literals text ≡ places_where (is_named text) 0 patterns
  pub as_many : length others ≡ length other_places
  pub matched : (text : List ℕ) → filter_map (slice_get other_places) (matching_places others text) ≡ places_where (is_other text) 0 patterns
