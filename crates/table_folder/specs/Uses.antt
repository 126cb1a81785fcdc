-- Who uses a module, as listings say it.
use Rattle.std.specs.Prelude.{ℕ, Bool, not, ◌&&◌, ◌||◌, ◌==◌, if◌then◌else◌, List, [], ◌∷◌, codes, filter, find, map, unwrap_or}
use Rattle.std.specs.List.{flat_map, slice_split}
use Rattle.std.specs.Str.{bytes_eq}
use Rattle.std.specs.Str.Lines.{lines}
use Rattle.text_parts.specs.Text.{is_blank, is_filled, words}

abbrev pub is_comma : ℕ → Bool
is_comma byte = byte == 44

-- `-` says that there is none, and `[permanent]` that the module stays
abbrev pub is_user : List ℕ → Bool
is_user part = is_filled part && not (bytes_eq part (codes "-") || bytes_eq part (codes "[permanent]"))

-- the modules that use this one, by the words of a line of /proc/modules (proc(5)): the fourth has a comma after each
abbrev pub users_of : List ℕ → List (List ℕ) → List (List ℕ)
users_of name (own ∷ size ∷ count ∷ users ∷ rest) = if bytes_eq own name then filter is_user (slice_split is_comma users) else []
users_of name _ = []

-- the same by the lines of a text
abbrev pub users_in : List ℕ → List ℕ → List (List ℕ)
users_in name text = flat_map (λ line. users_of name (words line)) (lines text)

abbrev pub first_word : List ℕ → List ℕ
first_word line = unwrap_or (find is_filled (slice_split is_blank line)) []

-- the holders that the lines of a text begin with
abbrev pub holders_in : List ℕ → List (List ℕ)
holders_in text = map first_word (lines text)
