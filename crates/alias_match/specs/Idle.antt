-- The lines of a text that have no effect, and why.
use Rattle.std.specs.Prelude.{ℕ, nat_lt, if◌then◌else◌, List, [], ◌∷◌, length, codes, Option, Some, None}
use Rattle.std.specs.List.{enumerate_from}
use Rattle.std.specs.Str.{bytes_eq}
use Rattle.std.specs.Str.Lines.{lines}
use Rattle.text_parts.specs.Text.{words, is_comment}
use Rattle.alias_match.specs.declared.idle.NoEffect.{NoEffect}
use Rattle.alias_match.specs.declared.idle.NoEffect.TheVariants.{UnknownWord, FewWords, BadPattern}
use Rattle.alias_match.specs.declared.idle.IdleLine.{IdleLine}
use Rattle.alias_match.specs.Aliases.{alias_of}

-- a line that is no entry, before the idle ones of the later lines
abbrev pub idle_before : {Entry : Type 0} → IdleLine → Option Entry → List IdleLine → List IdleLine
idle_before idle None later = idle ∷ later
idle_before idle (Some entry) later = later

-- a line without a word is ignored
abbrev pub idle_words : {Entry : Type 0} → (List (List ℕ) → Option Entry) → (List (List ℕ) → NoEffect) → ℕ → List (List ℕ) → List IdleLine → List IdleLine
idle_words entry_of why number [] later = later
idle_words entry_of why number (w ∷ ws) later = idle_before (record { number = number; why = why (w ∷ ws) }) (entry_of (w ∷ ws)) later

-- so is a line whose first byte is `#`
abbrev pub idle_line : {Entry : Type 0} → (List (List ℕ) → Option Entry) → (List (List ℕ) → NoEffect) → ℕ × List ℕ → List IdleLine → List IdleLine
idle_line entry_of why line later =
    if is_comment line.1 then later else idle_words entry_of why line.0 (words line.1) later

-- the numbered lines that are no entry and are not ignored, where `why` tells why words are none
abbrev pub idle_lines : {Entry : Type 0} → (List (List ℕ) → Option Entry) → (List (List ℕ) → NoEffect) → List (ℕ × List ℕ) → List IdleLine
idle_lines entry_of why [] = []
idle_lines entry_of why (line ∷ later) = idle_line entry_of why line (idle_lines entry_of why later)

-- why words that are no alias are none: the first word is another, or there are fewer than three, or else the pattern is refused
abbrev pub why_no_alias : List (List ℕ) → NoEffect
why_no_alias [] = FewWords
why_no_alias (w ∷ ws) =
    if bytes_eq w (codes "alias") then (if nat_lt (length ws) 2 then FewWords else BadPattern) else UnknownWord

-- the lines of a modules.alias text that have no effect
abbrev pub idle_aliases : List ℕ → List IdleLine
idle_aliases text = idle_lines alias_of why_no_alias (enumerate_from 1 (lines text))
