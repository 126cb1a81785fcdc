-- Definitions that serve proofs alone: how contracts see values of the code.
use Rattle.std.specs.Prelude.{ℕ, List, [], ◌∷◌, ◌++◌}
use Rattle.alias_match.specs.Aliases.{Entries}
use Rattle.modprobe_conf.specs.declared.settings.Line.{Line as CodeLine}
use Rattle.modprobe_conf.specs.declared.settings.Line.TheVariants.{Blacklist, Install, Remove, Options, Softdep}
use Rattle.modprobe_conf.specs.declared.entry.Entry.{Entry as CodeEntry}
use Rattle.modprobe_conf.specs.declared.entry.Entry.TheVariants.{Aliased, Named}
use Rattle.modprobe_conf.specs.Configuration.{Line, blacklist, install, remove, options, softdep, Entry, alias, named}
use Rattle.modprobe_conf.specs.Configuration.{Configuration, with_named, aliases_in, modules_from}

abbrev pub line_of : CodeLine → Line
line_of Blacklist = blacklist
line_of Install = install
line_of Remove = remove
line_of (Options ws) = options ws.items
line_of (Softdep items) = softdep items

abbrev pub entry_seen : CodeEntry → Entry
entry_seen (Aliased own) = alias own
entry_seen (Named name said) = named name (line_of said)

-- no line was read
abbrev pub no_configuration : Configuration
no_configuration = record { aliases = []; modules = []; skipped = [] }

-- what an entry more says
abbrev pub with_entry : Configuration → Entry → Configuration
with_entry configuration (alias own) = record configuration { aliases = configuration.aliases ++ own ∷ [] }
with_entry configuration (named name line) =
    record configuration { modules = with_named configuration.modules name line }

-- what later lines add to what was read
abbrev pub with_lines : Configuration → Entries Entry → Configuration
with_lines configuration later =
    record {
      aliases = configuration.aliases ++ aliases_in later.entries;
      modules = modules_from configuration.modules later.entries;
      skipped = configuration.skipped ++ later.skipped;
    }
