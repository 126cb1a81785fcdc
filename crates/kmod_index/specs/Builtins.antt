-- What the kernel's build says of modules that are built in: modules.builtin, a path a line, and
-- modules.builtin.modinfo, `MODULE.KEY=VALUE` between NUL bytes (kbuild's documentation; depmod(8) reads both).
use Rattle.std.specs.Prelude.{ℕ, Bool, if◌then◌else◌, ◌&&◌, ◌==◌, List, slice_index, codes, Option, Some, None}
use Rattle.std.specs.List.{enumerate_from, filter_map, list_any, slice_split}
use Rattle.std.specs.Str.{bytes_eq}
use Rattle.std.specs.Str.Lines.{lines}
use Rattle.text_parts.specs.Text.{is_filled, is_letter}
use Rattle.kmod_names.specs.Names.{name_of_path}
use Rattle.kmod_index.specs.Aliases.{in_normal_form}
use Rattle.kmod_index.specs.Lines.{Keyed, keyed_from}
use Rattle.kmod_index.specs.Parts.{at_first}

-- the name in a line's path; a line that begins with no letter says nothing
abbrev pub builtin_name : List ℕ → Option (List ℕ)
builtin_name line = if is_letter (slice_index line 0) then Some (name_of_path line) else None

-- the meaning of a modules.builtin text: the names of its modules, in order
abbrev pub builtin_names : List ℕ → List (List ℕ)
builtin_names text = filter_map builtin_name (lines text)

-- whether a name is among others
abbrev pub is_among : List (List ℕ) → List ℕ → Bool
is_among names name = list_any (bytes_eq name) names

-- the value and the module, if the key is `alias` and neither is empty
abbrev pub alias_value : List ℕ → Option (List ℕ × List ℕ) → Option (List ℕ × List ℕ)
alias_value value None = None
alias_value value (Some parts) =
    if bytes_eq parts.1 (codes "alias") && is_filled parts.0 && is_filled value then Some (value, parts.0) else None

-- the module is what stands before the first `.` of what stands before the first `=`
abbrev pub value_parts : Option (List ℕ × List ℕ) → Option (List ℕ × List ℕ)
value_parts None = None
value_parts (Some parts) = alias_value parts.1 (at_first 46 parts.0)

-- an alias and its module, as one entry says
abbrev pub modinfo_parts : List ℕ → Option (List ℕ × List ℕ)
modinfo_parts entry = value_parts (at_first 61 entry)

abbrev pub alias_of_entry : ℕ × List ℕ → Option Keyed
alias_of_entry entry = in_normal_form (keyed_from entry.0 (modinfo_parts entry.1))

-- the aliases of a modules.builtin.modinfo text, in order; the number of each is that of its entry, from 1
abbrev pub builtin_aliases : List ℕ → List Keyed
builtin_aliases text = filter_map alias_of_entry (enumerate_from 1 (slice_split (λ byte. byte == 0) text))
