-- What a name of a configuration stands for, by the configuration and the texts of a folder of modules (modprobe(8)).
use Rattle.std.specs.Prelude.{ℕ, Bool, not, ◌&&◌, ◌||◌, ◌==◌, nat_lt, List, length, is_some}
use Rattle.std.specs.List.{list_any}
use Rattle.std.specs.Str.{bytes_eq}
use Rattle.kmod_conf.specs.Configuration.{Configuration}
use Rattle.kmod_conf.specs.LookUps.{has_install_named, has_remove_named, install_of, matching_aliases, remove_of}
use Rattle.kmod_index.specs.Builtins.{is_among}
use Rattle.kmod_index.specs.Dependencies.{line_of}
use Rattle.kmod_index.specs.Indexes.{Indexes}
use Rattle.kmod_index.specs.Lines.{lines_of_key}
use Rattle.kmod_index.specs.Tries.{in_order, is_wild, matching_lines}

-- `*`, `?`, `[` or a backslash, by which a name may match others as a pattern (glob(7))
abbrev pub is_pattern_byte : ℕ → Bool
is_pattern_byte byte = is_wild byte || byte == 92

abbrev pub has_pattern : List ℕ → Bool
has_pattern name = list_any is_pattern_byte name

-- modules.dep has the module
abbrev pub has_file : Indexes → List ℕ → Bool
has_file index name = is_some (line_of index.dependencies name)

-- an alias of the configuration or of modules.alias matches the name, or a symbol is this name
abbrev pub is_alias : Configuration → Indexes → List ℕ → Bool
is_alias conf index name =
    nat_lt 0 (length (matching_aliases conf name)) || nat_lt 0 (length (matching_lines index.aliases name))
    || nat_lt 0 (length (lines_of_key index.symbols name))

-- an alias of a module in the kernel matches the name
abbrev pub is_builtin_alias : Indexes → List ℕ → Bool
is_builtin_alias index name = nat_lt 0 (length (in_order (matching_lines index.builtin_aliases name)))

-- a module in the kernel has the name, or an alias that matches it
abbrev pub is_in_kernel : Indexes → List ℕ → Bool
is_in_kernel index name = is_among index.builtin_names name || is_builtin_alias index name

-- The name is that of an alias of a module in the kernel alone. A command of this name takes the place of that module.
abbrev pub is_kernel_alias : Indexes → List ℕ → Bool
is_kernel_alias index name = not (is_among index.builtin_names name) && is_builtin_alias index name

-- an alias line of the configuration has this very name for its pattern, by which it gives options to its module
abbrev pub is_alias_pattern : Configuration → List ℕ → Bool
is_alias_pattern conf name = list_any (λ line. bytes_eq line.pattern name) conf.aliases

-- an alias line of the configuration leads to this name, as to a module
abbrev pub is_target : Configuration → List ℕ → Bool
is_target conf name = list_any (λ line. bytes_eq line.target name) conf.aliases

-- an install or a remove line matches this name
abbrev pub is_matched : Configuration → List ℕ → Bool
is_matched conf name = is_some (install_of conf name) || is_some (remove_of conf name)

-- a command is run for the name: a line has this very name, or one matches it and an alias leads to it
abbrev pub is_commanded : Configuration → List ℕ → Bool
is_commanded conf name =
    has_install_named conf name || has_remove_named conf name || (is_target conf name && is_matched conf name)

-- the name leads to a file of a module, or is an alias outside the kernel
abbrev pub is_named : Configuration → Indexes → List ℕ → Bool
is_named conf index name = has_file index name || is_alias conf index name || is_alias_pattern conf name

-- the same, or a command is run for it
abbrev pub is_used : Configuration → Indexes → List ℕ → Bool
is_used conf index name = is_named conf index name || is_commanded conf name

-- a look-up of the name finds something
abbrev pub is_found : Configuration → Indexes → List ℕ → Bool
is_found conf index name =
    has_file index name || is_alias conf index name || is_in_kernel index name || has_install_named conf name
    || has_remove_named conf name

-- a line that counts for modules alone may count for this name: it has a file, a command is run for it, or an alias leads to it
abbrev pub is_module : Configuration → Indexes → List ℕ → Bool
is_module conf index name = has_file index name || is_commanded conf name || is_target conf name

-- the name stands for the module of this very name, since no alias of the configuration matches it
abbrev pub is_own : Configuration → Indexes → List ℕ → Bool
is_own conf index name = has_file index name && not (nat_lt 0 (length (matching_aliases conf name)))

-- the name is an alias, and not that of a module in the kernel
abbrev pub is_only_alias : Configuration → Indexes → List ℕ → Bool
is_only_alias conf index name =
    not (is_among index.builtin_names name)
    && (is_alias conf index name || is_alias_pattern conf name || is_builtin_alias index name)

-- a module that is loaded by its name: it has a file or is built in, or a command is run for it
abbrev pub is_loadable : Configuration → Indexes → List ℕ → Bool
is_loadable conf index name = has_file index name || is_among index.builtin_names name || is_commanded conf name
