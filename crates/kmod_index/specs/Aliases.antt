-- What a modules.alias text says (modules.alias(5)).
use Rattle.std.specs.Prelude.{ℕ, List, Option, Some, None}
use Rattle.std.specs.List.{enumerate_from, filter_map}
use Rattle.std.specs.Str.Lines.{lines}
use Rattle.kmod_names.specs.Names.{normal_alias}
use Rattle.kmod_index.specs.Lines.{Keyed, keyed_of_line}

abbrev pub with_key : Keyed → Option (List ℕ) → Option Keyed
with_key line None = None
with_key line (Some key) = Some (record line { key = key })

-- a line with its key in normal form; one whose brackets do not match says nothing
abbrev pub in_normal_form : Option Keyed → Option Keyed
in_normal_form None = None
in_normal_form (Some line) = with_key line (normal_alias line.key)

abbrev pub alias_of_line : ℕ × List ℕ → Option Keyed
alias_of_line line = in_normal_form (keyed_of_line line)

-- the meaning of a modules.alias text: its aliases, in order
abbrev pub aliases_of : List ℕ → List Keyed
aliases_of text = filter_map alias_of_line (enumerate_from 1 (lines text))
