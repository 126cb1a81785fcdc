-- What the options of a command line wish for (modprobe(8)). `--lint` counts before all others, then `--diff`, then `--showconfig`, then
-- `--show-modversions` and `--show-exports`, then `--remove`, then `--why`, then `--resolve-alias`.
use Rattle.std.specs.Prelude.{Bool, not, if◌then◌else◌}
use Rattle.modprobe_words.specs.declared.switches.Switches.{Switches}
use Rattle.modprobe_words.specs.declared.wishes.Wish.{Wish}
use Rattle.modprobe_words.specs.declared.wishes.Wish.TheVariants as wish

abbrev pub loads : Switches → Wish
loads s =
    if s.why then wish.Why
    else (if s.resolve then wish.Resolve
    else (if s.show_depends then wish.ShowDepends
    else (if s.dry_run then wish.DryRun else wish.Load)))

-- a removal with neither `--dry-run` nor `--show-depends` is refused
abbrev pub removes : Switches → Wish
removes s =
    if s.remove_holders then wish.RemoveHolders
    else (if s.show_depends then wish.ShowRemoval
    else (if s.dry_run then wish.Remove else wish.Removal))

abbrev pub asks : Switches → Bool → Wish
asks s has_name =
    if s.show_config then wish.ShowConfig
    else (if not has_name then wish.NoName
    else (if s.show_module then wish.ShowModule
    else (if s.remove then removes s else loads s)))

abbrev pub asks_of_two : Switches → Bool → Wish
asks_of_two s has_name = if s.diff then wish.Diff else asks s has_name

-- with `--lint` no name is looked up, whatever else is given: its words are files
unfoldable pub wish_of : Switches → Bool → Wish
wish_of s has_name = if s.lint then wish.Lint else asks_of_two s has_name
