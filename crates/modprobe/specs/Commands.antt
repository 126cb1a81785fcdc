-- What a session line asks for, after insmod(8), rmmod(8), lsmod(8), modinfo(8) and modprobe(8).
use Rattle.std.specs.Prelude.{ℕ, Bool, ◌&&◌, if◌then◌else◌, ◌==◌, ◌||◌, List, [], ◌∷◌, codes, Option, Some, None, slice_index}
use Rattle.std.specs.Str.{bytes_eq}
use Rattle.text_parts.specs.Text.{words, is_comment, normal_form, number_within}

-- what is done to one module of the catalogue; a load has the words of its parameters
pub data Action : Type 0 where
  insmod : List (List ℕ) → Action
  rmmod : Action
  drain : Action
  query : Action
  get : ℕ → Action
  put : ℕ → Action

-- what is asked for by a name
pub data Request : Type 0 where
  act : Action → Request
  modinfo : Request
  plan : Request
  modprobe : List (List ℕ) → Request
  modprobe_remove : Request

-- a line asks for nothing, is no command, asks for something by a name, or for a listing of the table
pub data Command : Type 0 where
  nothing : Command
  malformed : List ℕ → Command
  by_name : List ℕ → Request → Command
  lsmod : Command
  proc : Command

-- what a first word asks for that stands alone
abbrev pub listing_of : List ℕ → Command
listing_of first =
    if bytes_eq first (codes "lsmod") then lsmod
    else (if bytes_eq first (codes "proc") then proc else malformed first)

-- what a first word asks for that a name alone follows
abbrev pub plain_request_of : List ℕ → Option Request
plain_request_of first =
    if bytes_eq first (codes "rmmod") then Some (act rmmod)
    else (if bytes_eq first (codes "drain") then Some (act drain)
    else (if bytes_eq first (codes "query") then Some (act query)
    else (if bytes_eq first (codes "modinfo") then Some modinfo
    else (if bytes_eq first (codes "plan") then Some plan else None))))

abbrev pub if_no_words : List (List ℕ) → Option Request → Option Request
if_no_words [] request = request
if_no_words (_ ∷ _) request = None

-- what a first word asks for that a name and these words follow
abbrev pub request_of : List ℕ → List (List ℕ) → Option Request
request_of first words =
    if bytes_eq first (codes "insmod") then Some (act (insmod words))
    else (if bytes_eq first (codes "modprobe") then Some (modprobe words)
    else if_no_words words (plain_request_of first))

-- what a first word asks for that a worker and a name follow
abbrev pub worker_request_of : List ℕ → ℕ → Option Request
worker_request_of first worker =
    if bytes_eq first (codes "get") then Some (act (get worker))
    else (if bytes_eq first (codes "put") then Some (act (put worker)) else None)

abbrev pub takes_worker : List ℕ → Bool
takes_worker first = bytes_eq first (codes "get") || bytes_eq first (codes "put")

-- a word that begins with `-` is no name
abbrev pub is_option : List ℕ → Bool
is_option word = slice_index word 0 == 45

abbrev pub with_name : List ℕ → List ℕ → Option Request → Command
with_name first name None = malformed first
with_name first name (Some request) = if is_option name then malformed first else by_name (normal_form name) request

-- a worker is 1 to 10 decimal digits, and one name follows it
abbrev pub with_worker : List ℕ → Option ℕ → List (List ℕ) → Command
with_worker first (Some worker) (name ∷ []) = with_name first name (worker_request_of first worker)
with_worker first _ _ = malformed first

-- `modprobe -r`: one name follows
abbrev pub with_removal : List ℕ → List (List ℕ) → Command
with_removal first (name ∷ []) = with_name first name (Some modprobe_remove)
with_removal first _ = malformed first

abbrev pub is_removal : List ℕ → List ℕ → Bool
is_removal first second = bytes_eq first (codes "modprobe") && bytes_eq second (codes "-r")

abbrev pub by_second : List ℕ → List ℕ → List (List ℕ) → Command
by_second first second rest =
    if takes_worker first then with_worker first (number_within 9999999999 second) rest
    else (if is_removal first second then with_removal first rest
    else with_name first second (request_of first rest))

abbrev pub by_first : List ℕ → List (List ℕ) → Command
by_first first [] = listing_of first
by_first first (second ∷ rest) = by_second first second rest

abbrev pub by_words : List (List ℕ) → Command
by_words [] = nothing
by_words (first ∷ rest) = by_first first rest

-- the command that a line is; a line whose first byte is `#`, or without a word, asks for nothing
abbrev pub command_of : List ℕ → Command
command_of line = if is_comment line then nothing else by_words (words line)
