-- The first line of a journal, and the commands of the others.
use Rattle.std.specs.Prelude.{◌≡◌, ℕ, ◌+◌, Bool, true, false, not, nat_lt, nat_eq, ◌==◌, ◌&&◌, ◌||◌, if◌then◌else◌, List, [], ◌∷◌, ◌++◌, length, map, drop, codes, Option, Some, None}
use Rattle.std.specs.List.{list_any, starts_with, before_first, after_first}
use Rattle.std.specs.Str.{bytes_eq}
use Rattle.durable_table.specs.Seals.{is_sealed, are_sealed, link_of, last_link}

-- how the first line of a journal begins: its format and version
unfoldable pub title : List ℕ
title = codes "gourzhiel journal 2 "

abbrev pub is_space : ℕ → Bool
is_space byte = byte == 32

-- bytes without a space, at least one
abbrev pub is_word : List ℕ → Bool
is_word text = nat_lt 0 (length text) && not (list_any is_space text)

-- two words, and a space between them
abbrev pub are_two_words : List ℕ → Bool
are_two_words text = is_word (before_first is_space text) && is_word (after_first is_space text)

-- the first line of a journal: its format and version, and two words
abbrev pub is_head : List ℕ → Bool
is_head line = starts_with nat_eq line title && are_two_words (drop 20 line)

-- a word that names no setup
unfoldable pub no_name : List ℕ
no_name = codes "-"

abbrev pub is_feed : ℕ → Bool
is_feed byte = byte == 10

-- the name of a setup as it stands on a first line: one that is no word of a line is none
abbrev pub named : List ℕ → List ℕ
named name = if is_word name && not (list_any is_feed name) then name else no_name

-- the first line of a new journal of the setup of this name
abbrev pub head : List ℕ → List ℕ
head name = title ++ named name ++ codes " -"

-- the setup that a first line names
abbrev pub setup_named : List ℕ → List ℕ
setup_named line = before_first is_space (drop 20 line)

-- two names are of one setup, as far as they tell: they are the same, or one of them is none
abbrev pub are_one : List ℕ → List ℕ → Bool
are_one name other = bytes_eq name other || bytes_eq name no_name || bytes_eq other no_name

-- the journal of these lines is of the setup of this name, as far as its first line tells
abbrev pub is_of : List ℕ → List (List ℕ) → Bool
is_of name [] = false
is_of name (first ∷ rest) = are_one name (setup_named first)

-- a file is of each setup that another one is of
abbrev pub StaysOf : List (List ℕ) → List (List ℕ) → Type 0
StaysOf old new = (name : List ℕ) → is_of name old ≡ true → is_of name new ≡ true

abbrev pub begins_with_head : List (List ℕ) → Bool
begins_with_head [] = false
begins_with_head (first ∷ rest) = is_head first

-- what the lines of a journal tell the next one: of the first line all of it counts
abbrev pub link_behind : List (List ℕ) → List ℕ
link_behind [] = []
link_behind (first ∷ rest) = last_link first rest

-- the commands of lines; none, if one of them is not sealed
abbrev pub commands_in : List ℕ → List (List ℕ) → Option (List (List ℕ))
commands_in link lines = if are_sealed link lines then Some (map (drop 17) lines) else None

-- the commands of a journal's lines, behind the first one
abbrev pub commands_of : List (List ℕ) → Option (List (List ℕ))
commands_of [] = None
commands_of (first ∷ rest) = if is_head first then commands_in first rest else None

-- the number of the first of these lines that is not sealed, if they are numbered from this one on
abbrev pub first_unsealed : ℕ → List ℕ → List (List ℕ) → Option ℕ
first_unsealed number link [] = None
first_unsealed number link (line ∷ lines) = if is_sealed link line then first_unsealed (number + 1) (link_of line) lines else Some number

-- the number, from 1, of the first line of a journal that is not sealed; the first line of all has no sum
abbrev pub changed_line : List (List ℕ) → Option ℕ
changed_line [] = None
changed_line (first ∷ rest) = first_unsealed 2 first rest
