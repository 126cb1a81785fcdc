-- How a run ends, by its words.
use Rattle.std.specs.Prelude.{◌≡◌, ℕ, Bool, true, false, not, ◌||◌, if◌then◌else◌, nat_lt, List, [], ◌++◌, length, Option, Some, None, unwrap_or}
use Rattle.kmod_version.specs.declared.kmod.Kmod.{Kmod}
use Rattle.kmod_query.specs.Answers.{Answer}
use Rattle.kmod_query.specs.declared.query.Query.{Query}
use Rattle.kmod_query.specs.declared.taken.Holders.{Holders}
use Rattle.modprobe_files.specs.declared.texts.ConfTexts.{ConfTexts}
use Rattle.modprobe_words.specs.declared.wishes.Wish.{Wish}
use Rattle.modprobe_words.specs.Asked.{Asked, asked_by}
use Rattle.modprobe_words.specs.Endings.{Ending, IsEnded, first_ending}
use Rattle.modprobe_words.specs.Variable.{words_of}
use Rattle.modprobe_words.specs.Wishes.{wish_of}
use Rattle.modprobe_words.specs.Words.{items}
use Rattle.gz_modprobe_drive.specs.Answered.{IsAnswer, Known}
use Rattle.gz_modprobe_drive.specs.Paths.{paths_of, words_of as path_words}
use Rattle.gz_modprobe_drive.specs.Formed.{form_by}
use Rattle.gz_modprobe_drive.specs.Leads.{WasTold}
use Rattle.gz_modprobe_drive.specs.Linted.{WasLinted}
use Rattle.gz_modprobe_drive.specs.Queries.{IsQueryOf, is_lint, is_why}
use Rattle.gz_modprobe_drive.specs.declared.shape.Shape.{Shape}
use Rattle.gz_modprobe_drive.specs.Shapes.{IsWhole, shape_of}
use Rattle.gz_modprobe_drive.specs.Texts.{conf_of}

-- the words of a run: those of MODPROBE_OPTIONS, and then those of the command line (modprobe(8))
abbrev pub given : Option (List ℕ) → List (List ℕ) → List (List ℕ)
given options words = words_of (unwrap_or options []) ++ words

-- the configuration of a machine is what texts say to this version of kmod
pub record IsReadBy (kmod : Kmod) (known : Known) : Type 0 where
  pub texts : ConfTexts
  pub version : texts.kmod ≡ kmod
  pub is : known.conf ≡ conf_of texts

-- An answer to a query is that of a machine, whose configuration is as this version of kmod reads it, and so are the words
-- that are paths. With --whole a removal is answered as it is made.
pub record IsAnswerBy (kmod : Kmod) (whole : Bool) (query : Query) (answer : Answer) : Type 0 where
  pub known : Known
  pub holders : List Holders
  pub read : IsReadBy kmod known
  pub paths : path_words known.paths ≡ paths_of kmod query
  pub is : IsAnswer known (record { whole = whole; holders = holders }) query answer

-- A query was answered well: standard output has grown by such an answer, as it is asked for, in which no name failed.
pub record WasAnswered (kmod : Kmod) (whole : Bool) (shape : Shape) (query : Query) (before after : Option (List ℕ)) : Type 0 where
  pub answer : Answer
  pub is : IsAnswerBy kmod whole query answer
  pub well : answer.failed ≡ false
  pub written : IsWhole shape answer before after

-- what a command line wishes for
abbrev pub wish_by : Asked → Wish
wish_by asked = wish_of asked.switches (nat_lt 0 (length asked.words))

-- what is asked for is a query, and it was answered well
pub record WereAnswered (asked : Asked) (before after : Option (List ℕ)) : Type 0 where
  pub query : Query
  pub asks : IsQueryOf (wish_by asked) asked.switches asked.words query
  pub answered : WasAnswered asked.kmod asked.switches.whole (shape_of asked.switches) query before after

-- A lint ends well if nothing was noted that counts, what leads to names if facts of it were written, and a query if it was answered
-- well.
abbrev pub EndsWell : Bool → Bool → Asked → Option (List ℕ) → Option (List ℕ) → Type 0
EndsWell true why asked before after = WasLinted asked.kmod asked.switches.strict before after
EndsWell false true asked before after = WasTold (form_by asked.switches.explain) before after
EndsWell false false asked before after = WereAnswered asked before after

abbrev pub IsDone : Asked → Option (List ℕ) → Option (List ℕ) → Type 0
IsDone asked before after = EndsWell (is_lint (wish_by asked)) (is_why (wish_by asked)) asked before after

-- The greatest status. A lint may find that it cannot judge, and so may what leads to names; a query never ends with 2.
abbrev pub worst_of : Asked → ℕ
worst_of asked = if is_lint (wish_by asked) || is_why (wish_by asked) then 2 else 1

abbrev pub worst_by : Option Ending → Asked → ℕ
worst_by (Some ending) asked = 1
worst_by None asked = worst_of asked

-- the greatest status that words may have
abbrev pub worst_status : List (List ℕ) → ℕ
worst_status words = worst_by (first_ending (items words)) (asked_by (items words))

-- `--root` has an empty value, which names no folder
abbrev pub is_root_empty : Option (List ℕ) → Bool
is_root_empty None = false
is_root_empty (Some root) = not (nat_lt 0 (length root))

-- what is asked for ended well, of the machine itself or of one below a root that was named
pub record IsDoneWithin (asked : Asked) (before after : Option (List ℕ)) : Type 0 where
  pub root : is_root_empty asked.root ≡ false
  pub done : IsDone asked before after

-- words that ask for an end before a query end so; other ones end with 0 only if what they ask for ended well
abbrev pub IsEndBy : Option Ending → Asked → Option (List ℕ) → Option (List ℕ) → ℕ → Type 0
IsEndBy (Some ending) asked before after status = IsEnded ending before after status
IsEndBy None asked before after status = status ≡ 0 → IsDoneWithin asked before after

-- how words end a run, by what standard output has before and after, and the status
abbrev pub IsEndOf : List (List ℕ) → Option (List ℕ) → Option (List ℕ) → ℕ → Type 0
IsEndOf words before after status = IsEndBy (first_ending (items words)) (asked_by (items words)) before after status
