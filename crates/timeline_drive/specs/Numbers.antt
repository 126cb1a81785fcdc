-- The numbers of a report.
use Rattle.std.specs.Prelude.{ℕ, nat_lt, Bool, ◌&&◌, ◌==◌, if◌then◌else◌, List, [], ◌∷◌, length, slice_index, Option, None}
use Rattle.text_parts.specs.Text.{number_within}

abbrev pub leads_with_zero : List ℕ → Bool
leads_with_zero word = nat_lt 1 (length word) && slice_index word 0 == 48

-- the number of a decimal without leading zeros that is at most the limit
abbrev pub decimal_within : ℕ → List ℕ → Option ℕ
decimal_within limit word = if leads_with_zero word then None else number_within limit word

-- the thread of a word: `t` and a number below 64
abbrev pub thread_of : List ℕ → Option ℕ
thread_of [] = None
thread_of (mark ∷ number) = if mark == 116 then decimal_within 63 number else None
