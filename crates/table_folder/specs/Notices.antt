-- Which lines of modprobe.d a table reads otherwise than modprobe(8) does.
use Rattle.std.specs.Prelude.{ℕ, Bool, false, not, ◌&&◌, ◌||◌, ◌-◌, ◌==◌, List, ◌∷◌, codes, length, slice_index}
use Rattle.std.specs.List.{list_any}
use Rattle.std.specs.Str.{bytes_eq}
use Rattle.text_parts.specs.Text.{is_comment}

-- `*`, `?` and `[` make a pattern of a name
abbrev pub is_special : ℕ → Bool
is_special byte = byte == 42 || (byte == 63 || byte == 91)

-- the lines whose name modprobe(8) takes for a pattern
abbrev pub takes_pattern : List ℕ → Bool
takes_pattern word =
    bytes_eq word (codes "install") || (bytes_eq word (codes "remove") || (bytes_eq word (codes "options") || bytes_eq word (codes "softdep")))

-- the words of a line that has a pattern in the place of its name
abbrev pub has_pattern : List (List ℕ) → Bool
has_pattern (word ∷ name ∷ more ∷ words) = takes_pattern word && list_any is_special name
has_pattern _ = false

-- modprobe(8) takes a backslash away, also within a line
abbrev pub has_backslash : List ℕ → Bool
has_backslash line = list_any (λ byte. byte == 92) line

-- modprobe(8) keeps a carriage return at the end of a line that is no comment
abbrev pub has_return : List ℕ → Bool
has_return line = slice_index line (length line - 1) == 13 && not (is_comment line)
