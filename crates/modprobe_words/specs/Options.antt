-- The options of modprobe(8), and `--explain`, `--lint`, `--root`, `--as`, `--whole`, `--why`, `--json`, `--shell`, `--diff`,
-- `--strict` and `--ignore=FILE`, which it has not.
use Rattle.std.specs.Prelude.{ℕ, Bool, true, false, ◌+◌, ◌==◌, if◌then◌else◌, List, [], ◌∷◌, codes, Option, Some, None}
use Rattle.modprobe_words.specs.declared.options.Switch.{Switch}
use Rattle.modprobe_words.specs.declared.options.Switch.TheVariants as switch
use Rattle.modprobe_words.specs.declared.options.Valued.{Valued}
use Rattle.modprobe_words.specs.declared.options.Valued.TheVariants as valued
use Rattle.modprobe_words.specs.declared.options.Meaning.{Meaning}
use Rattle.modprobe_words.specs.declared.options.Meaning.TheVariants.{Plain, WithValue}
use Rattle.modprobe_words.specs.declared.options.LongOption.{LongOption}
use Rattle.modprobe_words.specs.declared.options.LongOption.TheVariants.{AllWord, RemoveWord, RemoveDependenciesWord, RemoveHoldersWord, WaitWord, ResolveAliasWord, FirstTimeWord, IgnoreInstallWord, IgnoreRemoveWord, UseBlacklistWord, ForceWord, ForceModversionWord, ForceVermagicWord, ShowDependsWord, ShowconfigWord, ShowConfigWord, ShowModversionsWord, DumpModversionsWord, ShowExportsWord, DryRunWord, ShowWord, ConfigWord, DirnameWord, SetVersionWord, SyslogWord, QuietWord, VerboseWord, VersionWord, HelpWord, ExplainWord, LintWord, RootWord, AsWord, WholeWord, WhyWord, JsonWord, ShellWord, DiffWord, StrictWord, IgnoreWord}

-- the option of a letter
unfoldable pub meaning_of_letter : ℕ → Option Meaning
meaning_of_letter letter =
    if letter == 97 then Some (Plain switch.All)
    else (if letter == 114 then Some (Plain switch.Remove)
    else (if letter == 119 then Some (WithValue valued.Wait)
    else (if letter == 82 then Some (Plain switch.ResolveAlias)
    else (if letter == 105 then Some (Plain switch.IgnoreCommands)
    else (if letter == 98 then Some (Plain switch.UseBlacklist)
    else (if letter == 102 then Some (Plain switch.Force)
    else (if letter == 68 then Some (Plain switch.ShowDepends)
    else (if letter == 99 then Some (Plain switch.ShowConfig)
    else (if letter == 110 then Some (Plain switch.DryRun)
    else (if letter == 67 then Some (WithValue valued.Config)
    else (if letter == 100 then Some (WithValue valued.Dirname)
    else (if letter == 83 then Some (WithValue valued.SetVersion)
    else (if letter == 115 then Some (Plain switch.Syslog)
    else (if letter == 113 then Some (Plain switch.Quiet)
    else (if letter == 118 then Some (Plain switch.Verbose)
    else (if letter == 86 then Some (Plain switch.Version)
    else (if letter == 104 then Some (Plain switch.Help)
    else None)))))))))))))))))

-- options of one kind are the same option under several words
abbrev pub switch_number : Switch → ℕ
switch_number switch.All = 0
switch_number switch.Remove = 1
switch_number switch.RemoveHolders = 2
switch_number switch.ResolveAlias = 3
switch_number switch.FirstTime = 4
switch_number switch.IgnoreCommands = 5
switch_number switch.UseBlacklist = 6
switch_number switch.Force = 7
switch_number switch.ForceModversion = 8
switch_number switch.ForceVermagic = 9
switch_number switch.ShowDepends = 10
switch_number switch.ShowConfig = 11
switch_number switch.ShowModversions = 12
switch_number switch.ShowExports = 13
switch_number switch.DryRun = 14
switch_number switch.Syslog = 15
switch_number switch.Quiet = 16
switch_number switch.Verbose = 17
switch_number switch.Version = 18
switch_number switch.Help = 19
switch_number switch.Explain = 20
switch_number switch.Lint = 21
switch_number switch.Whole = 22
switch_number switch.Why = 23
switch_number switch.Json = 24
switch_number switch.Shell = 25
switch_number switch.Diff = 26
switch_number switch.Strict = 27

abbrev pub valued_number : Valued → ℕ
valued_number valued.Wait = 0
valued_number valued.Config = 1
valued_number valued.Dirname = 2
valued_number valued.SetVersion = 3
valued_number valued.Root = 4
valued_number valued.As = 5
valued_number valued.Explain = 6
valued_number valued.Lint = 7
valued_number valued.Ignore = 8

unfoldable pub kind_of : Meaning → ℕ
kind_of (Plain switch) = switch_number switch
kind_of (WithValue valued) = 100 + valued_number valued

-- the word of an option, behind `--`
unfoldable pub word_of : LongOption → List ℕ
word_of AllWord = codes "all"
word_of RemoveWord = codes "remove"
word_of RemoveDependenciesWord = codes "remove-dependencies"
word_of RemoveHoldersWord = codes "remove-holders"
word_of WaitWord = codes "wait"
word_of ResolveAliasWord = codes "resolve-alias"
word_of FirstTimeWord = codes "first-time"
word_of IgnoreInstallWord = codes "ignore-install"
word_of IgnoreRemoveWord = codes "ignore-remove"
word_of UseBlacklistWord = codes "use-blacklist"
word_of ForceWord = codes "force"
word_of ForceModversionWord = codes "force-modversion"
word_of ForceVermagicWord = codes "force-vermagic"
word_of ShowDependsWord = codes "show-depends"
word_of ShowconfigWord = codes "showconfig"
word_of ShowConfigWord = codes "show-config"
word_of ShowModversionsWord = codes "show-modversions"
word_of DumpModversionsWord = codes "dump-modversions"
word_of ShowExportsWord = codes "show-exports"
word_of DryRunWord = codes "dry-run"
word_of ShowWord = codes "show"
word_of ConfigWord = codes "config"
word_of DirnameWord = codes "dirname"
word_of SetVersionWord = codes "set-version"
word_of SyslogWord = codes "syslog"
word_of QuietWord = codes "quiet"
word_of VerboseWord = codes "verbose"
word_of VersionWord = codes "version"
word_of HelpWord = codes "help"
word_of ExplainWord = codes "explain"
word_of LintWord = codes "lint"
word_of RootWord = codes "root"
word_of AsWord = codes "as"
word_of WholeWord = codes "whole"
word_of WhyWord = codes "why"
word_of JsonWord = codes "json"
word_of ShellWord = codes "shell"
word_of DiffWord = codes "diff"
word_of StrictWord = codes "strict"
word_of IgnoreWord = codes "ignore"

unfoldable pub meaning_of : LongOption → Meaning
meaning_of AllWord = Plain switch.All
meaning_of RemoveWord = Plain switch.Remove
meaning_of RemoveDependenciesWord = Plain switch.RemoveHolders
meaning_of RemoveHoldersWord = Plain switch.RemoveHolders
meaning_of WaitWord = WithValue valued.Wait
meaning_of ResolveAliasWord = Plain switch.ResolveAlias
meaning_of FirstTimeWord = Plain switch.FirstTime
meaning_of IgnoreInstallWord = Plain switch.IgnoreCommands
meaning_of IgnoreRemoveWord = Plain switch.IgnoreCommands
meaning_of UseBlacklistWord = Plain switch.UseBlacklist
meaning_of ForceWord = Plain switch.Force
meaning_of ForceModversionWord = Plain switch.ForceModversion
meaning_of ForceVermagicWord = Plain switch.ForceVermagic
meaning_of ShowDependsWord = Plain switch.ShowDepends
meaning_of ShowconfigWord = Plain switch.ShowConfig
meaning_of ShowConfigWord = Plain switch.ShowConfig
meaning_of ShowModversionsWord = Plain switch.ShowModversions
meaning_of DumpModversionsWord = Plain switch.ShowModversions
meaning_of ShowExportsWord = Plain switch.ShowExports
meaning_of DryRunWord = Plain switch.DryRun
meaning_of ShowWord = Plain switch.DryRun
meaning_of ConfigWord = WithValue valued.Config
meaning_of DirnameWord = WithValue valued.Dirname
meaning_of SetVersionWord = WithValue valued.SetVersion
meaning_of SyslogWord = Plain switch.Syslog
meaning_of QuietWord = Plain switch.Quiet
meaning_of VerboseWord = Plain switch.Verbose
meaning_of VersionWord = Plain switch.Version
meaning_of HelpWord = Plain switch.Help
meaning_of ExplainWord = Plain switch.Explain
meaning_of LintWord = Plain switch.Lint
meaning_of RootWord = WithValue valued.Root
meaning_of AsWord = WithValue valued.As
meaning_of WholeWord = Plain switch.Whole
meaning_of WhyWord = Plain switch.Why
meaning_of JsonWord = Plain switch.Json
meaning_of ShellWord = Plain switch.Shell
meaning_of DiffWord = Plain switch.Diff
meaning_of StrictWord = Plain switch.Strict
meaning_of IgnoreWord = Plain switch.IgnoreCommands

-- in the order of `modprobe --help`
unfoldable pub long_options : List LongOption
long_options =
    AllWord ∷ RemoveWord ∷ RemoveDependenciesWord ∷ RemoveHoldersWord ∷ WaitWord
    ∷ ResolveAliasWord ∷ FirstTimeWord ∷ IgnoreInstallWord ∷ IgnoreRemoveWord ∷ UseBlacklistWord
    ∷ ForceWord ∷ ForceModversionWord ∷ ForceVermagicWord ∷ ShowDependsWord ∷ ShowconfigWord
    ∷ ShowConfigWord ∷ ShowModversionsWord ∷ DumpModversionsWord ∷ ShowExportsWord ∷ DryRunWord
    ∷ ShowWord ∷ ConfigWord ∷ DirnameWord ∷ SetVersionWord ∷ SyslogWord
    ∷ QuietWord ∷ VerboseWord ∷ VersionWord ∷ HelpWord ∷ ExplainWord
    ∷ LintWord ∷ RootWord ∷ AsWord ∷ WholeWord ∷ WhyWord
    ∷ JsonWord ∷ ShellWord ∷ DiffWord ∷ StrictWord ∷ IgnoreWord ∷ []

-- An option that may be cut. `--as`, `--whole`, `--why`, `--shell`, `--diff`, `--strict` and `--ignore` may not, so that `--a` is
-- `--all`, `--w` is `--wait` and `--di` is `--dirname`, as with modprobe. With modprobe `--ignore` is `--ignore-install` cut
-- short, and so it is without a value.
abbrev pub may_be_cut : LongOption → Bool
may_be_cut AsWord = false
may_be_cut WholeWord = false
may_be_cut WhyWord = false
may_be_cut ShellWord = false
may_be_cut DiffWord = false
may_be_cut StrictWord = false
may_be_cut IgnoreWord = false
may_be_cut option = true

-- what an option without a value stands for if it has one all the same; only `--explain`, `--lint` and `--ignore` may have one
abbrev pub valued_form : LongOption → Option Valued
valued_form ExplainWord = Some valued.Explain
valued_form LintWord = Some valued.Lint
valued_form IgnoreWord = Some valued.Ignore
valued_form _ = None
