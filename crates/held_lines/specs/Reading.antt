-- Lines that ask, and change nothing.
use Rattle.std.specs.Prelude.{ℕ, Bool, true, ◌||◌, List, [], ◌∷◌, codes}
use Rattle.std.specs.Str.{bytes_eq}
use Rattle.text_parts.specs.Text.{words, is_comment}

-- the first words of commands that ask
abbrev pub asks : List ℕ → Bool
asks first =
    bytes_eq first (codes "query") || (bytes_eq first (codes "modinfo") || (bytes_eq first (codes "lsmod") || (bytes_eq first (codes "proc")
    || (bytes_eq first (codes "plan") || (bytes_eq first (codes "holders") || bytes_eq first (codes "held"))))))

abbrev pub asks_by : List (List ℕ) → Bool
asks_by [] = true
asks_by (first ∷ rest) = asks first

-- a line asks, or is no command
abbrev pub is_reading : List ℕ → Bool
is_reading line = is_comment line || asks_by (words line)
