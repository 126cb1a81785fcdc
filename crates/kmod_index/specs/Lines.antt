-- What the lines of modules.alias and modules.symbols say (modules.alias(5), depmod(8)): `alias KEY MODULE`.
use Rattle.std.specs.Prelude.{ℕ, if◌then◌else◌, List, filter, drop, codes, nat_eq, Option, Some, None}
use Rattle.std.specs.List.{enumerate_from, filter_map, starts_with}
use Rattle.std.specs.Str.{bytes_eq}
use Rattle.std.specs.Str.Lines.{lines}
use Rattle.kmod_index.specs.Parts.{at_last}

-- a line: its key, the name of the module, and the line's number, from 1
pub record Keyed : Type 0 where
  pub key : List ℕ
  pub name : List ℕ
  pub number : ℕ

-- a line of this number by its key and its module
abbrev pub keyed_from : ℕ → Option (List ℕ × List ℕ) → Option Keyed
keyed_from number None = None
keyed_from number (Some parts) = Some (record { key = parts.0; name = parts.1; number = number })

-- what follows `alias` and a blank, up to the last blank, is the key, and what follows that blank the module; depmod
-- writes a key as it stands, with its blanks
abbrev pub alias_parts : List ℕ → Option (List ℕ × List ℕ)
alias_parts line = if starts_with nat_eq line (codes "alias ") then at_last 32 (drop 6 line) else None

abbrev pub keyed_of_line : ℕ × List ℕ → Option Keyed
keyed_of_line line = keyed_from line.0 (alias_parts line.1)

-- the lines of a text that have this form, in order; comments and others say nothing
abbrev pub keyed_lines : List ℕ → List Keyed
keyed_lines text = filter_map keyed_of_line (enumerate_from 1 (lines text))

-- the lines whose key is this text
abbrev pub lines_of_key : List Keyed → List ℕ → List Keyed
lines_of_key keyed key = filter (λ line. bytes_eq key line.key) keyed
