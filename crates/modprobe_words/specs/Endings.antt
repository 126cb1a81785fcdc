-- What ends a command line before a query is answered.
use Rattle.std.specs.Prelude.{◌≡◌, ℕ, if◌then◌else◌, List, [], ◌∷◌, Option, Some, None, is_some}
use Rattle.std.specs.Io.KnownBytes.{Appends}
use Rattle.kmod_version.specs.Versions.{kmod_of}
use Rattle.modprobe_words.specs.declared.help.TheConstants.{HELP, VERSION}
use Rattle.modprobe_words.specs.declared.options.Switch.TheVariants as switch
use Rattle.modprobe_words.specs.declared.options.Valued.TheVariants as valued
use Rattle.modprobe_words.specs.declared.endings.Ending.{Ending as CodeEnding}
use Rattle.modprobe_words.specs.declared.endings.Ending.TheVariants as code_ending
use Rattle.modprobe_words.specs.Begun.{IsBegun}
use Rattle.modprobe_words.specs.Forms.{form_of}
use Rattle.modprobe_words.specs.Numbers.{is_number}
use Rattle.modprobe_words.specs.Words.{Item, plain, with_value, operand, fault, Fault, fault_of}

-- the version or the help is asked for, `--wait` has no number, `--as` no version, `--explain` or `--lint` no form that is known, or the words are
-- refused
pub data Ending : Type 0 where
  version : Ending
  help : Ending
  bad_wait : List ℕ → Ending
  bad_kmod : List ℕ → Ending
  bad_form : List ℕ → Ending
  bad_lint : List ℕ → Ending
  refused : Fault → Ending

abbrev pub ending_of : Item → Option Ending
ending_of (plain switch.Version) = Some version
ending_of (plain switch.Help) = Some help
ending_of (plain _) = None
ending_of (with_value valued.Wait text) = if is_number text then None else Some (bad_wait text)
ending_of (with_value valued.As text) = if is_some (kmod_of text) then None else Some (bad_kmod text)
ending_of (with_value valued.Explain text) = if is_some (form_of text) then None else Some (bad_form text)
ending_of (with_value valued.Lint text) = if is_some (form_of text) then None else Some (bad_lint text)
ending_of (with_value _ text) = None
ending_of (operand word) = None
ending_of (fault why) = Some (refused why)

abbrev pub or_later : Option Ending → Option Ending → Option Ending
or_later None later = later
or_later (Some first) later = Some first

-- the first item that ends a command line
abbrev pub first_ending : List Item → Option Ending
first_ending [] = None
first_ending (item ∷ items) = or_later (ending_of item) (first_ending items)

-- the text that an ending shows on standard output; a refusal shows none there
abbrev pub shown_by : Ending → Option (List ℕ)
shown_by version = Some VERSION.now
shown_by help = Some HELP.now
shown_by (bad_wait text) = None
shown_by (bad_kmod text) = None
shown_by (bad_form text) = None
shown_by (bad_lint text) = None
shown_by (refused why) = None

-- the status if a text is to be shown is 0 only if it was written, and if there is none, it is 1
abbrev pub IsShown : Option (List ℕ) → Option (List ℕ) → Option (List ℕ) → ℕ → Type 0
IsShown None before after status = status ≡ 1
IsShown (Some text) before after status = status ≡ 0 → Appends before after text

-- how an ending ends the program, by what standard output has before and after, and the status
abbrev pub IsEnded : Ending → Option (List ℕ) → Option (List ℕ) → ℕ → Type 0
IsEnded ending before after status = IsShown (shown_by ending) before after status

-- what is to be shown was written, or a beginning of it; if nothing is to be shown, nothing was
abbrev pub IsShownPart : Option (List ℕ) → Option (List ℕ) → Option (List ℕ) → Type 0
IsShownPart None before after = after ≡ before
IsShownPart (Some text) before after = IsBegun before after text

-- how contracts see the code's
abbrev pub seen : CodeEnding → Ending
seen code_ending.Version = version
seen code_ending.Help = help
seen (code_ending.BadWait text) = bad_wait text.now
seen (code_ending.BadKmod text) = bad_kmod text.now
seen (code_ending.BadForm text) = bad_form text.now
seen (code_ending.BadLint text) = bad_lint text.now
seen (code_ending.Refused why) = refused (fault_of why)
