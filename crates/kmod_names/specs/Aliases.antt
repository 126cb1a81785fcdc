-- Aliases that match.
use Rattle.std.specs.Prelude.{ℕ, List, filter}
use Rattle.kmod_names.specs.declared.alias_table.AliasEntry.{AliasEntry}
use Rattle.kmod_names.specs.Patterns.{matches_pattern}

-- the entries whose pattern matches, in their order
abbrev pub matching_entries : List AliasEntry → List ℕ → List AliasEntry
matching_entries entries text = filter (λ entry. matches_pattern entry.pattern text) entries
