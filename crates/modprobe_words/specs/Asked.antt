-- What a command line asks for (modprobe(8)).
use Rattle.std.specs.Prelude.{ℕ, Bool, ◌+◌, ◌-◌, ◌^◌, ◌&&◌, min, true, false, if◌then◌else◌, List, [], ◌∷◌, ◌++◌, fold, Option, Some, None, option_map, unwrap_or}
use Rattle.std.specs.Borrow.{Bor}
use Rattle.std.specs.Option.{option_or}
use Rattle.text_parts.specs.Text.{texts_of}
use Rattle.kmod_version.specs.declared.kmod.Kmod.{Kmod}
use Rattle.kmod_version.specs.declared.kmod.Kmod.TheVariants.{Version34}
use Rattle.kmod_version.specs.Versions.{kmod_of}
use Rattle.modprobe_words.specs.declared.options.Switch.{Switch as SwitchOption}
use Rattle.modprobe_words.specs.declared.options.Switch.TheVariants as switch
use Rattle.modprobe_words.specs.declared.options.Valued.{Valued}
use Rattle.modprobe_words.specs.declared.options.Valued.TheVariants as valued
use Rattle.modprobe_words.specs.declared.form.Form.{Form}
use Rattle.modprobe_words.specs.declared.form.Form.TheVariants.{Json, Text}
use Rattle.modprobe_words.specs.declared.switches.Switches.{Switches}
use Rattle.modprobe_words.specs.declared.asked.Asked.{Asked as CodeAsked}
use Rattle.modprobe_words.specs.declared.asked.Other.{Other as CodeOther}
use Rattle.modprobe_words.specs.Forms.{form_of}
use Rattle.modprobe_words.specs.Words.{Item, plain, with_value, operand, fault}

-- One option more. `-q` sets the verbosity to 0 and `-v` adds 1 to it; `--json` is `--explain=json` too.
abbrev pub with_switch : Switches → SwitchOption → Switches
with_switch s switch.All = record s { all = true }
with_switch s switch.Remove = record s { remove = true }
with_switch s switch.RemoveHolders = record s { remove_holders = true }
with_switch s switch.ResolveAlias = record s { resolve = true }
with_switch s switch.FirstTime = record s { first_time = true }
with_switch s switch.IgnoreCommands = record s { ignore_commands = true }
with_switch s switch.UseBlacklist = record s { use_blacklist = true }
with_switch s switch.ShowDepends = record s { show_depends = true }
with_switch s switch.ShowConfig = record s { show_config = true }
with_switch s switch.ShowModversions = record s { show_module = true }
with_switch s switch.ShowExports = record s { show_module = true }
with_switch s switch.DryRun = record s { dry_run = true }
with_switch s switch.Quiet = record s { verbosity = 0 }
with_switch s switch.Verbose = record s { verbosity = min (s.verbosity + 1) (2 ^ 64 - 1) }
with_switch s switch.Explain = record s { explain = Some Text }
with_switch s switch.Lint = record s { lint = true }
with_switch s switch.Whole = record s { whole = true }
with_switch s switch.Why = record s { why = true }
with_switch s switch.Json = record s { json = true; explain = Some Json }
with_switch s switch.Shell = record s { shell = true }
with_switch s switch.Diff = record s { diff = true }
with_switch s switch.Strict = record s { strict = true }
with_switch s switch.Force = s
with_switch s switch.ForceModversion = s
with_switch s switch.ForceVermagic = s
with_switch s switch.Syslog = s
with_switch s switch.Version = s
with_switch s switch.Help = s

abbrev pub no_switch : Switches
no_switch =
    record {
      all = false;
      remove = false;
      remove_holders = false;
      resolve = false;
      first_time = false;
      ignore_commands = false;
      use_blacklist = false;
      show_depends = false;
      show_config = false;
      show_module = false;
      dry_run = false;
      explain = None;
      lint = false;
      whole = false;
      why = false;
      json = false;
      shell = false;
      diff = false;
      strict = false;
      verbosity = 4;
    }

-- the last form counts, of `--explain` or `--lint`
abbrev pub with_form : Switches → Option Form → Switches
with_form s form = record s { explain = option_or form s.explain }

-- of which files another machine is: each -C, the last -d, -S and --root behind --diff
pub record Other : Type 0 where
  pub configurations : List (List ℕ)
  pub directory : Option (List ℕ)
  pub release : Option (List ℕ)
  pub root : Option (List ℕ)

abbrev pub no_other : Other
no_other = record { configurations = []; directory = None; release = None; root = None }

-- options without values, each -C, each --ignore, the last -d, -S, --root and --as, what stands behind --diff, and the other words
pub record Asked : Type 0 where
  pub switches : Switches
  pub configurations : List (List ℕ)
  pub ignores : List (List ℕ)
  pub directory : Option (List ℕ)
  pub release : Option (List ℕ)
  pub root : Option (List ℕ)
  pub other : Other
  pub kmod : Kmod
  pub words : List (List ℕ)

abbrev pub with_option : Asked → Valued → List ℕ → Asked
with_option a valued.Wait text = a
with_option a valued.Config text = record a { configurations = a.configurations ++ text ∷ [] }
with_option a valued.Dirname text = record a { directory = Some text }
with_option a valued.SetVersion text = record a { release = Some text }
with_option a valued.Root text = record a { root = Some text }
with_option a valued.As text = record a { kmod = unwrap_or (kmod_of text) a.kmod }
with_option a valued.Explain text = record a { switches = with_form a.switches (form_of text) }
with_option a valued.Lint text = record a { switches = with_form (with_switch a.switches switch.Lint) (form_of text) }
with_option a valued.Ignore text = record a { ignores = a.ignores ++ text ∷ [] }

-- an option that says which files are meant
abbrev pub names_files : Valued → Bool
names_files valued.Config = true
names_files valued.Dirname = true
names_files valued.SetVersion = true
names_files valued.Root = true
names_files valued.Wait = false
names_files valued.As = false
names_files valued.Explain = false
names_files valued.Lint = false
names_files valued.Ignore = false

abbrev pub with_place : Other → Valued → List ℕ → Other
with_place o valued.Config text = record o { configurations = o.configurations ++ text ∷ [] }
with_place o valued.Dirname text = record o { directory = Some text }
with_place o valued.SetVersion text = record o { release = Some text }
with_place o valued.Root text = record o { root = Some text }
with_place o valued.Wait text = o
with_place o valued.As text = o
with_place o valued.Explain text = o
with_place o valued.Lint text = o
with_place o valued.Ignore text = o

-- behind --diff such an option is about the other machine
abbrev pub with_valued : Asked → Valued → List ℕ → Asked
with_valued a option text =
    if a.switches.diff && names_files option then record a { other = with_place a.other option text } else with_option a option text

abbrev pub with_item : Asked → Item → Asked
with_item a (plain option) = record a { switches = with_switch a.switches option }
with_item a (with_value option text) = with_valued a option text
with_item a (operand word) = record a { words = a.words ++ word ∷ [] }
with_item a (fault why) = a

-- without --as the answers are those of kmod 34
abbrev pub nothing_asked : Asked
nothing_asked =
    record {
      switches = no_switch;
      configurations = [];
      ignores = [];
      directory = None;
      release = None;
      root = None;
      other = no_other;
      kmod = Version34;
      words = [];
    }

-- what items ask for, one after another
abbrev pub asked_by : List Item → Asked
asked_by items = fold with_item nothing_asked items

-- how contracts see the code's
abbrev pub text_of : Option (Bor (List ℕ)) → Option (List ℕ)
text_of text = option_map (λ t. t.now) text

abbrev pub other_of : CodeOther → Other
other_of o =
    record {
      configurations = texts_of o.configurations.items;
      directory = text_of o.directory;
      release = text_of o.release;
      root = text_of o.root;
    }

abbrev pub asked_of : CodeAsked → Asked
asked_of a =
    record {
      switches = a.switches;
      configurations = texts_of a.configurations.items;
      ignores = texts_of a.ignores.items;
      directory = text_of a.directory;
      release = text_of a.release;
      root = text_of a.root;
      other = other_of a.other;
      kmod = a.kmod;
      words = texts_of a.words.items;
    }

-- What is asked of the other machine: the same, of the files that stand behind --diff. Its configurations come first.
abbrev pub second_of : Asked → Asked
second_of a =
    record a {
      configurations = a.other.configurations ++ a.configurations;
      directory = option_or a.other.directory a.directory;
      release = option_or a.other.release a.release;
      root = option_or a.other.root a.root;
      other = no_other;
    }
