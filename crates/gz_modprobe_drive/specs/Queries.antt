-- Which query a command line asks.
use Rattle.std.specs.Prelude.{◌≡◌, ℕ, Bool, true, false, List, Option, Some, None}
use Rattle.text_parts.specs.Text.{texts_of}
use Rattle.kmod_query.specs.declared.query.Ask.{Ask}
use Rattle.kmod_query.specs.declared.query.Ask.TheVariants as asks
use Rattle.kmod_query.specs.declared.query.Query.{Query}
use Rattle.modprobe_words.specs.declared.switches.Switches.{Switches}
use Rattle.modprobe_words.specs.declared.wishes.Wish.{Wish}
use Rattle.modprobe_words.specs.declared.wishes.Wish.TheVariants as wishes

-- what a wish asks; none if it is refused
abbrev pub ask_of : Wish → Option Ask
ask_of wishes.ShowConfig = Some asks.ShowConfig
ask_of wishes.ShowDepends = Some asks.ShowDepends
ask_of wishes.DryRun = Some asks.DryRun
ask_of wishes.Resolve = Some asks.Resolve
ask_of wishes.Remove = Some asks.Remove
ask_of wishes.ShowRemoval = Some asks.ShowRemoval
ask_of wishes.Lint = None
ask_of wishes.Why = None
ask_of wishes.Diff = None
ask_of wishes.NoName = None
ask_of wishes.ShowModule = None
ask_of wishes.RemoveHolders = None
ask_of wishes.Load = None
ask_of wishes.Removal = None

-- `--lint` alone is wished for
abbrev pub is_lint : Wish → Bool
is_lint wishes.Lint = true
is_lint wishes.ShowConfig = false
is_lint wishes.ShowDepends = false
is_lint wishes.DryRun = false
is_lint wishes.Resolve = false
is_lint wishes.Remove = false
is_lint wishes.ShowRemoval = false
is_lint wishes.Why = false
is_lint wishes.Diff = false
is_lint wishes.NoName = false
is_lint wishes.ShowModule = false
is_lint wishes.RemoveHolders = false
is_lint wishes.Load = false
is_lint wishes.Removal = false

-- facts of names are wished for: what leads to them, or what two machines answer otherwise
abbrev pub is_why : Wish → Bool
is_why wishes.Why = true
is_why wishes.Diff = true
is_why wishes.ShowConfig = false
is_why wishes.ShowDepends = false
is_why wishes.DryRun = false
is_why wishes.Resolve = false
is_why wishes.Remove = false
is_why wishes.ShowRemoval = false
is_why wishes.Lint = false
is_why wishes.NoName = false
is_why wishes.ShowModule = false
is_why wishes.RemoveHolders = false
is_why wishes.Load = false
is_why wishes.Removal = false

-- what is asked, as the options and the words of a command line say
pub record IsQueryOf (wish : Wish) (switches : Switches) (given : List (List ℕ)) (query : Query) : Type 0 where
  pub ask : ask_of wish ≡ Some query.ask
  pub all : query.all ≡ switches.all
  pub use_blacklist : query.use_blacklist ≡ switches.use_blacklist
  pub ignore_commands : query.ignore_commands ≡ switches.ignore_commands
  pub first_time : query.first_time ≡ switches.first_time
  pub verbosity : query.verbosity ≡ switches.verbosity
  pub words : texts_of query.words.now ≡ given

-- states count for a dry run and for a removal
abbrev pub asks_states : Ask → Bool
asks_states asks.DryRun = true
asks_states asks.Remove = true
asks_states asks.ShowRemoval = true
asks_states asks.ShowDepends = false
asks_states asks.Resolve = false
asks_states asks.ShowConfig = false

-- Modules are to be removed. Users count then; of states a load asks only which modules are live (kmod_query's
-- only_live_modules_count).
abbrev pub is_removal : Ask → Bool
is_removal asks.DryRun = false
is_removal asks.Remove = true
is_removal asks.ShowRemoval = true
is_removal asks.ShowDepends = false
is_removal asks.Resolve = false
is_removal asks.ShowConfig = false
