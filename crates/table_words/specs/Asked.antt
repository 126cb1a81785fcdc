-- What the words of a program ask for: options, the folder of the table, and a command with its words.
use Rattle.std.specs.Prelude.{ℕ, Bool, true, false, not, ◌&&◌, ◌||◌, nat_lt, length, if◌then◌else◌, List, [], ◌∷◌, find, codes, Option, Some, None, Result, Ok, Err}
use Rattle.std.specs.Option.{is_some}
use Rattle.std.specs.Str.{bytes_eq}
use Rattle.text_parts.specs.Text.{texts_of}
use Rattle.table_words.specs.Lines.{is_line_word}
use Rattle.table_words.specs.Options.{Front, Options, Stop, bad_holder, bad_word, extra_word, front, is_option, no_file, no_folder, no_options, nothing_to_create, refused, text_of, wants_host}
use Rattle.table_words.specs.declared.asked.Asked as code_asked
use Rattle.table_words.specs.declared.asked.Job as code_job
use Rattle.table_words.specs.declared.asked.Job.TheVariants as code_job_is
use Rattle.table_words.specs.declared.asked.Machine as code_machine
use Rattle.table_words.specs.declared.asked.Making.{Making}
use Rattle.table_words.specs.declared.asked.Making.TheVariants as making_is
use Rattle.table_words.specs.declared.asked.Origin as code_origin
use Rattle.table_words.specs.declared.asked.Origin.TheVariants as code_origin_is

-- a machine whose files a table is made of: its release, its root, and the version of kmod as which they are read, each if it
-- is named
pub record Machine : Type 0 where
  pub release : Option (List ℕ)
  pub root : Option (List ℕ)
  pub kmod : Option (List ℕ)

-- what a table is made of: a machine's files, or words that name sections
pub data Origin : Type 0 where
  host : Machine → Origin
  sections : List (List ℕ) → Origin

-- a table is made, in a folder of this mode if there is none; the table gets another setup; the words are one command; the lines of standard input are commands; the table is brought to a
-- kernel's modules, as a file lists them; the journal is written anew; it is said what stands there; what is damaged is cut
-- off
pub data Job : Type 0 where
  create : Origin → ℕ → Job
  renew : Origin → Job
  command : List (List ℕ) → Job
  lines : Job
  adopt : List ℕ → Job
  compact : Job
  check : Job
  repair : Job

-- a job on the table of a folder, how many seconds another process is waited for, and whether each change is on the disk
-- before it is answered
pub record Asked : Type 0 where
  pub folder : List ℕ
  pub wait : ℕ
  pub sync : Bool
  pub job : Job

-- a job that no word follows
abbrev pub alone : Job → List (List ℕ) → Result Job Stop
alone job [] = Ok job
alone job (word ∷ words) = Err (refused (extra_word word))

-- a release, a root and a version of kmod are those of a machine
abbrev pub asks_machine : Options → Bool
asks_machine options = is_some options.release || (is_some options.root || is_some options.kmod)

abbrev pub machine_in : Options → Machine
machine_in options = record { release = options.release; root = options.root; kmod = options.kmod }

-- what is made of an origin: a table, or the setup of one that is there
abbrev pub made : Making → Origin → ℕ → Job
made making_is.Table origin mode = create origin mode
made making_is.Setup origin mode = renew origin

-- what is made of a machine's files has no sections of its own, and something is to be made
abbrev pub origin_in : Making → Options → List (List ℕ) → Result Job Stop
origin_in making options words =
    if options.host then alone (made making (host (machine_in options)) options.mode) words
    else (if asks_machine options then Err (refused wants_host)
    else (if nat_lt 0 (length words) then Ok (made making (sections words) options.mode) else Err (refused nothing_to_create)))

abbrev pub origin_of_front : Making → Result Front Stop → Result Job Stop
origin_of_front making (Ok read) = origin_in making read.options read.rest
origin_of_front making (Err stop) = Err stop

-- a word that cannot stand in a line
abbrev pub is_stray : List ℕ → Bool
is_stray word = not (is_line_word word)

-- the next word of a command that begins so is a holder
abbrev pub names_holder : List ℕ → Bool
names_holder first =
    bytes_eq first (codes "get") || (bytes_eq first (codes "put") || (bytes_eq first (codes "hold") || (bytes_eq first (codes "release") || bytes_eq first (codes "held"))))

-- `--again` of `hold`
abbrev pub is_again : List ℕ → List ℕ → Bool
is_again first word = bytes_eq first (codes "hold") && bytes_eq word (codes "--again")

abbrev pub first_of : List (List ℕ) → Option (List ℕ)
first_of [] = None
first_of (word ∷ words) = Some word

abbrev pub holder_behind : List ℕ → List (List ℕ) → Option (List ℕ)
holder_behind first [] = None
holder_behind first (word ∷ words) = if is_again first word then first_of words else Some word

-- the word in the place of a holder, if the command has one
abbrev pub holder_in : List (List ℕ) → Option (List ℕ)
holder_in [] = None
holder_in (first ∷ words) = if names_holder first then holder_behind first words else None

-- the word, if it is an option
abbrev pub if_option : Option (List ℕ) → Option (List ℕ)
if_option None = None
if_option (Some word) = if is_option word then Some word else None

-- one command, unless an option stands in the place of a holder
abbrev pub held_command : List (List ℕ) → Option (List ℕ) → Result Job Stop
held_command words None = Ok (command words)
held_command words (Some word) = Err (refused (bad_holder word))

-- one command, if its words are words of a line
abbrev pub command_of : List (List ℕ) → Option (List ℕ) → Result Job Stop
command_of words None = held_command words (if_option (holder_in words))
command_of words (Some word) = Err (refused (bad_word word))

-- a table is brought to what one file lists
abbrev pub adopt_of : List (List ℕ) → Result Job Stop
adopt_of [] = Err (refused no_file)
adopt_of (file ∷ words) = alone (adopt file) words

-- a check may repair
abbrev pub check_of : List (List ℕ) → Result Job Stop
check_of [] = Ok check
check_of (word ∷ words) = if bytes_eq word (codes "--repair") then alone repair words else Err (refused (extra_word word))

-- the job that these words are, behind options
abbrev pub job_of : Options → List (List ℕ) → Result Job Stop
job_of options [] = Ok lines
job_of options (word ∷ words) =
    if bytes_eq word (codes "create") then origin_of_front making_is.Table (front true options words)
    else (if bytes_eq word (codes "renew") then origin_of_front making_is.Setup (front true options words)
    else (if bytes_eq word (codes "compact") then alone compact words
    else (if bytes_eq word (codes "check") then check_of words
    else (if bytes_eq word (codes "adopt") then adopt_of words
    else command_of (word ∷ words) (find is_stray (word ∷ words))))))

abbrev pub ask_job : List ℕ → Options → Result Job Stop → Result Asked Stop
ask_job folder options (Ok job) = Ok (record { folder = folder; wait = options.wait; sync = options.sync; job = job })
ask_job folder options (Err stop) = Err stop

-- the job on the table of a folder
abbrev pub asked_in : List ℕ → Result Front Stop → Result Asked Stop
asked_in folder (Ok read) = ask_job folder read.options (job_of read.options read.rest)
asked_in folder (Err stop) = Err stop

-- the first word that is no option is the folder, if the environment names none
abbrev pub asked_behind : Option (List ℕ) → Options → List (List ℕ) → Result Asked Stop
asked_behind (Some folder) options words = asked_in folder (Ok (record { options = options; rest = words }))
asked_behind None options [] = Err (refused no_folder)
asked_behind None options (folder ∷ words) = asked_in folder (front false options words)

abbrev pub asked_of_front : Option (List ℕ) → Result Front Stop → Result Asked Stop
asked_of_front table (Ok read) = asked_behind table read.options read.rest
asked_of_front table (Err stop) = Err stop

-- what words ask for, by the folder that the environment names
abbrev pub asked : Option (List ℕ) → List (List ℕ) → Result Asked Stop
asked table words = asked_of_front table (front false no_options words)

-- how contracts see the code's
abbrev pub machine_of : code_machine.Machine → Machine
machine_of m = record { release = text_of m.release; root = text_of m.root; kmod = text_of m.kmod }

abbrev pub origin_of : code_origin.Origin → Origin
origin_of (code_origin_is.Host machine) = host (machine_of machine)
origin_of (code_origin_is.Sections words) = sections (texts_of words.now)

abbrev pub job_view : code_job.Job → Job
job_view (code_job_is.Create origin mode) = create (origin_of origin) mode
job_view (code_job_is.Renew origin) = renew (origin_of origin)
job_view (code_job_is.Command words) = command (texts_of words.now)
job_view code_job_is.Lines = lines
job_view (code_job_is.Adopt file) = adopt file.now
job_view code_job_is.Compact = compact
job_view code_job_is.Check = check
job_view code_job_is.Repair = repair

abbrev pub asked_view : code_asked.Asked → Asked
asked_view a = record { folder = a.folder.now; wait = a.wait; sync = a.sync; job = job_view a.job }
