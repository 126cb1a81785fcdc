-- What the lines of a modules.alias text add to the modules that are found.
use Rattle.std.specs.Prelude.{ℕ, Bool, true, false, not, if◌then◌else◌, ◌||◌, ◌==◌, List, [], ◌∷◌, filter, Option, Some, None}
use Rattle.std.specs.List.{flat_map}
use Rattle.text_parts.specs.Text.{is_blank, is_comment, words}
use Rattle.alias_match.specs.declared.alias.Alias.{Alias}
use Rattle.alias_match.specs.Aliases.{Entries, alias_of, aliases_of}
use Rattle.alias_match.specs.Pattern.{is_match}
use Rattle.alias_match.specs.Reading.{is_plain}
use Rattle.modprobe_conf.specs.Configuration.{Configuration, is_blacklisted}
use Rattle.load_plan.specs.LookUp.{with_names}
use Rattle.modprobe.specs.declared.aliases.Kept.{Kept}
use Rattle.modprobe.specs.declared.aliases.Kept.TheVariants.{Table, Text}

-- the aliases that are kept
abbrev pub entries_in : Kept → Entries Alias
entries_in (Table aliases) = aliases
entries_in (Text text) = aliases_of text.items

-- the target of an alias whose pattern matches a name
abbrev pub target_matching : Option Alias → List ℕ → List (List ℕ)
target_matching None name = []
target_matching (Some alias) name = if is_match alias.pattern name then alias.target ∷ [] else []

-- the same of the alias that words are, that a line is, and that lines are
abbrev pub target_in_words : List (List ℕ) → List ℕ → List (List ℕ)
target_in_words ws name = target_matching (alias_of ws) name

abbrev pub target_in_line : List ℕ → List ℕ → List (List ℕ)
target_in_line line name = if is_comment line then [] else target_in_words (words line) name

abbrev pub targets_in_lines : List (List ℕ) → List ℕ → List (List ℕ)
targets_in_lines lines name = flat_map (λ line. target_in_line line name) lines

-- those of the targets that are not blacklisted, after others, each once
abbrev pub with_free : Configuration → List (List ℕ) → List (List ℕ) → List (List ℕ)
with_free configuration found targets = with_names found (filter (λ target. not (is_blacklisted configuration target)) targets)

-- a byte that may stand for another than itself in a pattern, or that ends the pattern
abbrev pub is_stop : ℕ → Bool
is_stop byte = not (is_plain byte) || is_blank byte

-- whether a name has another byte where a pattern and what follows it have one that stands for itself, with only such bytes
-- before it
abbrev pub parts_early : List ℕ → List ℕ → Bool
parts_early [] name = false
parts_early (own ∷ pattern) [] = false
parts_early (own ∷ pattern) (other ∷ name) =
    if is_stop own then false else (if own == other then parts_early pattern name else true)
