-- Which aliases a modules.alias text has: its lines `alias PATTERN TARGET`, as in modprobe.d(5).
use Rattle.std.specs.Prelude.{ℕ, suc, Bool, if◌then◌else◌, List, [], ◌∷◌, codes, filter, Option, Some, None, option_map}
use Rattle.std.specs.Result.{result_ok}
use Rattle.std.specs.List.{enumerate_from}
use Rattle.std.specs.Str.{bytes_eq}
use Rattle.std.specs.Str.Lines.{lines}
use Rattle.text_parts.specs.Text.{words, is_comment, normal_form}
use Rattle.alias_match.specs.declared.alias.Alias.{Alias}
use Rattle.alias_match.specs.Pattern.{is_match}
use Rattle.alias_match.specs.Reading.{pattern_of}

-- what the lines of a text say: entries in the order of their lines, and the numbers of the lines without effect
pub record Entries (Entry : Type 0) : Type 0 where
  pub entries : List Entry
  pub skipped : List ℕ

-- a line of this number that is an entry, or is none, before what the later lines say
abbrev pub before : {Entry : Type 0} → ℕ → Option Entry → Entries Entry → Entries Entry
before number None later = record later { skipped = number ∷ later.skipped }
before number (Some entry) later = record later { entries = entry ∷ later.entries }

-- a line without a word is ignored
abbrev pub words_before : {Entry : Type 0} → (List (List ℕ) → Option Entry) → ℕ → List (List ℕ) → Entries Entry → Entries Entry
words_before entry_of number [] later = later
words_before entry_of number (w ∷ ws) later = before number (entry_of (w ∷ ws)) later

-- so is a line whose first byte is `#`
abbrev pub line_before : {Entry : Type 0} → (List (List ℕ) → Option Entry) → ℕ × List ℕ → Entries Entry → Entries Entry
line_before entry_of line later = if is_comment line.1 then later else words_before entry_of line.0 (words line.1) later

-- what numbered lines say, where `entry_of` tells the entry that the words of a line are
abbrev pub entries_of : {Entry : Type 0} → (List (List ℕ) → Option Entry) → List (ℕ × List ℕ) → Entries Entry
entries_of entry_of [] = record { entries = []; skipped = [] }
entries_of entry_of (line ∷ later) = line_before entry_of line (entries_of entry_of later)

-- the alias that three words are: `alias`, a pattern that can be read, and a name
abbrev pub alias_from : List ℕ → List ℕ → List ℕ → Option Alias
alias_from w pattern target =
    if bytes_eq w (codes "alias")
    then option_map (λ read. record { pattern = read; target = normal_form target }) (result_ok (pattern_of pattern))
    else None

-- the alias that the words of a line are; words behind the third have no effect
abbrev pub alias_of : List (List ℕ) → Option Alias
alias_of (w ∷ pattern ∷ target ∷ ws) = alias_from w pattern target
alias_of _ = None

-- the meaning of a modules.alias text
abbrev pub aliases_of : List ℕ → Entries Alias
aliases_of text = entries_of alias_of (enumerate_from 1 (lines text))

-- the aliases whose pattern matches a text, in their order
abbrev pub matching : List Alias → List ℕ → List Alias
matching aliases text = filter (λ alias. is_match alias.pattern text) aliases

-- the places of what passes, if the list begins at a place
abbrev pub places_where : {X : Type 0} → (X → Bool) → ℕ → List X → List ℕ
places_where passes place [] = []
places_where passes place (x ∷ xs) =
    if passes x then place ∷ places_where passes (suc place) xs else places_where passes (suc place) xs

-- the places of the aliases whose pattern matches a text, from 0, in rising order
abbrev pub matching_places : List Alias → List ℕ → List ℕ
matching_places aliases text = places_where (λ alias. is_match alias.pattern text) 0 aliases
