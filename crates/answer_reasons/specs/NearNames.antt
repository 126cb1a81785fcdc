-- How near names are to one another.
use Rattle.std.specs.Prelude.{ℕ, ◌+◌, ◌==◌, Bool, true, false, not, ◌||◌, ◌&&◌, nat_lt, if◌then◌else◌, List, filter, map, Option, Some, None}
use Rattle.std.specs.Str.{bytes_eq}
use Rattle.answer_reasons.specs.declared.near_names.Nearness.{Nearness}
use Rattle.answer_reasons.specs.declared.near_names.Nearness.TheVariants.{Same, SameLetters}

-- `-` and `_`, which stand for one another or are left out by people
abbrev pub is_mark : ℕ → Bool
is_mark byte = byte == 45 || byte == 95

-- a small letter for a capital one of ASCII
abbrev pub lower : ℕ → ℕ
lower byte = if nat_lt 64 byte && nat_lt byte 91 then byte + 32 else byte

-- what is left of a name without case and marks
abbrev pub letters_of : List ℕ → List ℕ
letters_of name = map lower (filter (λ byte. not (is_mark byte)) name)

-- names that are the same, or are but for case and marks
abbrev pub nearness_by_letters : List ℕ → List ℕ → Option Nearness
nearness_by_letters name other =
    if bytes_eq name other then Some Same
    else (if bytes_eq (letters_of name) (letters_of other) then Some SameLetters else None)
