-- What options before a command say. Words are read in order, up to the first that is no option.
use Rattle.std.specs.Prelude.{ℕ, ◌+◌, ◌-◌, ◌*◌, Bool, true, false, ◌&&◌, nat_lt, nat_eq, if◌then◌else◌, List, [], ◌∷◌, length, drop, codes, Option, Some, None, Result, Ok, Err}
use Rattle.std.specs.Borrow.{Bor}
use Rattle.std.specs.List.{starts_with}
use Rattle.std.specs.Option.{option_map}
use Rattle.std.specs.Str.{bytes_eq}
use Rattle.text_parts.specs.Text.{number_within, texts_of}
use Rattle.table_words.specs.declared.options.Valued.{Valued}
use Rattle.table_words.specs.declared.options.Valued.TheVariants.{Wait, Release, Root, As, Mode}
use Rattle.table_words.specs.declared.options.Options as code_options
use Rattle.table_words.specs.declared.fault.Fault as code_fault
use Rattle.table_words.specs.declared.fault.Fault.TheVariants as code_fault_is
use Rattle.table_words.specs.declared.fault.Stop as code_stop
use Rattle.table_words.specs.declared.fault.Stop.TheVariants as code_stop_is
use Rattle.table_words.specs.declared.step.Step as code_step
use Rattle.table_words.specs.declared.step.Step.TheVariants as code_step_is
use Rattle.table_words.specs.declared.step.Read as code_read

-- why words are refused
pub data Fault : Type 0 where
  unknown_option : List ℕ → Fault
  wants_value : Valued → Fault
  bad_wait : List ℕ → Fault
  bad_mode : List ℕ → Fault
  no_folder : Fault
  no_file : Fault
  extra_word : List ℕ → Fault
  nothing_to_create : Fault
  wants_host : Fault
  bad_word : List ℕ → Fault
  bad_holder : List ℕ → Fault

-- why no work is asked
pub data Stop : Type 0 where
  help : Stop
  version : Stop
  refused : Fault → Stop

-- what options say; the last of a kind counts
pub record Options : Type 0 where
  pub wait : ℕ
  pub sync : Bool
  pub host : Bool
  pub release : Option (List ℕ)
  pub root : Option (List ℕ)
  pub kmod : Option (List ℕ)
  pub mode : ℕ

-- if no option stands, another process is waited for 10 seconds, and a new folder has the mode 0700
abbrev pub no_options : Options
no_options = record { wait = 10; sync = true; host = false; release = None; root = None; kmod = None; mode = 448 }

-- what comes of a word: it is no option, or what all say with it and the option whose value is the next word, or the end
pub data Next : Type 0 where
  over : Next
  on : Options → Option Valued → Next
  stopped : Stop → Next

abbrev pub plain : Options → Next
plain options = on options None

-- a number of seconds has 1 to 10 digits, and is below 2^32
abbrev pub waits : Options → List ℕ → Option ℕ → Next
waits options value None = stopped (refused (bad_wait value))
waits options value (Some seconds) = plain (record options { wait = seconds })

-- what an octal digit counts
abbrev pub octal : ℕ → Option ℕ
octal byte = if nat_lt 47 byte && nat_lt byte 56 then Some (byte - 48) else None

-- what the owner may do, the group, and others
abbrev pub mode_by : Option ℕ → Option ℕ → Option ℕ → Option ℕ
mode_by (Some owner) (Some group) (Some others) = Some (owner * 64 + group * 8 + others)
mode_by _ _ _ = None

-- a mode has three octal digits
abbrev pub mode_of : List ℕ → Option ℕ
mode_of (owner ∷ group ∷ others ∷ []) = mode_by (octal owner) (octal group) (octal others)
mode_of _ = None

abbrev pub has_mode : Options → List ℕ → Option ℕ → Next
has_mode options value None = stopped (refused (bad_mode value))
has_mode options value (Some mode) = plain (record options { mode = mode })

abbrev pub with_value : Options → Valued → List ℕ → Next
with_value options Wait value = waits options value (number_within 4294967295 value)
with_value options Release value = plain (record options { release = Some value })
with_value options Root value = plain (record options { root = Some value })
with_value options As value = plain (record options { kmod = Some value })
with_value options Mode value = has_mode options value (mode_of value)

abbrev pub is_either : List ℕ → List ℕ → List ℕ → Bool
is_either word one other = if bytes_eq word one then true else bytes_eq word other

abbrev pub begins : List ℕ → List ℕ → Bool
begins word front = starts_with nat_eq word front

-- the option that says who may use the table
abbrev pub mode_option : Options → List ℕ → Next
mode_option options word =
    if bytes_eq word (codes "--mode") then on options (Some Mode)
    else (if begins word (codes "--mode=") then with_value options Mode (drop 7 word)
    else stopped (refused (unknown_option word)))

-- the option that names a version of kmod, or a later one
abbrev pub kmod_option : Options → List ℕ → Next
kmod_option options word =
    if bytes_eq word (codes "--as") then on options (Some As)
    else (if begins word (codes "--as=") then with_value options As (drop 5 word) else mode_option options word)

-- the option that names a root, or a later one
abbrev pub root_option : Options → List ℕ → Next
root_option options word =
    if bytes_eq word (codes "--root") then on options (Some Root)
    else (if begins word (codes "--root=") then with_value options Root (drop 7 word) else kmod_option options word)

-- an option that `create` alone has
abbrev pub create_option : Options → List ℕ → Next
create_option options word =
    if bytes_eq word (codes "--host") then plain (record options { host = true })
    else (if is_either word (codes "-S") (codes "--set-version") then on options (Some Release)
    else root_option options word)

-- an option with a value, or one that `create` alone has
abbrev pub later_option : Bool → Options → List ℕ → Next
later_option creates options word =
    if bytes_eq word (codes "--wait") then on options (Some Wait)
    else (if begins word (codes "--wait=") then with_value options Wait (drop 7 word)
    else (if creates then create_option options word else stopped (refused (unknown_option word))))

-- an option before any command, or behind `create`
abbrev pub any_option : Bool → Options → List ℕ → Next
any_option creates options word =
    if is_either word (codes "-h") (codes "--help") then stopped help
    else (if is_either word (codes "-V") (codes "--version") then stopped version
    else (if bytes_eq word (codes "--no-sync") then plain (record options { sync = false })
    else later_option creates options word))

abbrev pub is_option : List ℕ → Bool
is_option word = begins word (codes "-") && nat_lt 1 (length word)

-- what comes of a word that may be the value of the option before it
abbrev pub next : Bool → Options → Option Valued → List ℕ → Next
next creates options (Some valued) word = with_value options valued word
next creates options None word = if is_option word then any_option creates options word else over

-- what options say, and the words from the first that is no option
pub record Front : Type 0 where
  pub options : Options
  pub rest : List (List ℕ)

abbrev pub ended : Options → Option Valued → Result Front Stop
ended options (Some valued) = Err (refused (wants_value valued))
ended options None = Ok (record { options = options; rest = [] })

abbrev pub then_read : Next → Options → List (List ℕ) → (Options → Option Valued → Result Front Stop) → Result Front Stop
then_read over options words go = Ok (record { options = options; rest = words })
then_read (on more waiting) options words go = go more waiting
then_read (stopped stop) options words go = Err stop

abbrev pub front_from : Bool → Options → Option Valued → List (List ℕ) → Result Front Stop
front_from creates options waiting [] = ended options waiting
front_from creates options waiting (word ∷ words) =
    then_read (next creates options waiting word) options (word ∷ words) (λ more later. front_from creates more later words)

abbrev pub front : Bool → Options → List (List ℕ) → Result Front Stop
front creates options words = front_from creates options None words

-- how contracts see the code's
abbrev pub text_of : Option (Bor (List ℕ)) → Option (List ℕ)
text_of text = option_map (λ word. word.now) text

abbrev pub fault_of : code_fault.Fault → Fault
fault_of (code_fault_is.UnknownOption word) = unknown_option word.now
fault_of (code_fault_is.WantsValue valued) = wants_value valued
fault_of (code_fault_is.BadWait value) = bad_wait value.now
fault_of (code_fault_is.BadMode value) = bad_mode value.now
fault_of code_fault_is.NoFolder = no_folder
fault_of code_fault_is.NoFile = no_file
fault_of (code_fault_is.ExtraWord word) = extra_word word.now
fault_of code_fault_is.NothingToCreate = nothing_to_create
fault_of code_fault_is.WantsHost = wants_host
fault_of (code_fault_is.BadWord word) = bad_word word.now
fault_of (code_fault_is.BadHolder word) = bad_holder word.now

abbrev pub stop_of : code_stop.Stop → Stop
stop_of code_stop_is.Help = help
stop_of code_stop_is.Version = version
stop_of (code_stop_is.Refused fault) = refused (fault_of fault)

abbrev pub options_of : code_options.Options → Options
options_of o = record { wait = o.wait; sync = o.sync; host = o.host; release = text_of o.release; root = text_of o.root; kmod = text_of o.kmod; mode = o.mode }

abbrev pub next_of : code_step.Step → Next
next_of code_step_is.Over = over
next_of (code_step_is.On options waiting) = on (options_of options) waiting
next_of (code_step_is.Stopped stop) = stopped (stop_of stop)

abbrev pub front_of : code_read.Read → Front
front_of f = record { options = options_of f.options; rest = texts_of f.rest.now }
