-- What a query is answered, by the texts and the states of a machine.
use Rattle.std.specs.Prelude.{◌≡◌, ◌≢◌, ℕ, Bool, true, false, not, ◌||◌, ◌&&◌, List, Option, Some, None, if◌then◌else◌}
use Rattle.text_parts.specs.Text.{texts_of}
use Rattle.kmod_conf.specs.Configuration.{Configuration}
use Rattle.kmod_index.specs.Index.{Texts, indexes_of}
use Rattle.kmod_index.specs.Indexes.{Indexes}
use Rattle.kmod_query.specs.declared.paths.PathWord.{PathWord}
use Rattle.kmod_query.specs.declared.query.Query.{Query}
use Rattle.kmod_query.specs.declared.states.ModuleStatus.{ModuleStatus}
use Rattle.kmod_query.specs.declared.taken.Holders.{Holders}
use Rattle.kmod_query.specs.declared.world.World.{World}
use Rattle.kmod_query.specs.AnswerOf.{answer_of}
use Rattle.kmod_query.specs.Answers.{Answer}
use Rattle.kmod_query.specs.Early.{is_early, is_symbolless}
use Rattle.kmod_query.specs.Paths.{own_of}
use Rattle.kmod_query.specs.Whole.{answer_by, whole_of}
use Rattle.kmod_query.specs.World.{facts_of}
use Rattle.modprobe_words.specs.declared.written.Written.{Written}
use Rattle.modprobe_words.specs.declared.written.Written.TheVariants as written
use Rattle.gz_modprobe_drive.specs.declared.answered.Answered.{Answered}
use Rattle.gz_modprobe_drive.specs.declared.texts.Machine.{Machine}
use Rattle.gz_modprobe_drive.specs.declared.shape.Shape.{Shape}
use Rattle.gz_modprobe_drive.specs.Queries.{is_removal}
use Rattle.gz_modprobe_drive.specs.Shapes.{IsPart, IsWhole}
use Rattle.gz_modprobe_drive.specs.Texts.{AreRead, Large, conf_of, folder_texts, large_texts}

-- what is known of a machine; no module has a file of its own at first
pub record Known : Type 0 where
  pub conf : Configuration
  pub index : Indexes
  pub states : List (List ℕ × ModuleStatus)
  pub directory : List ℕ
  pub paths : List PathWord
  pub own : Option (List ℕ × List ℕ)

-- what is known, by its parts
abbrev pub known_by : Configuration → Indexes → List (List ℕ × ModuleStatus) → List ℕ → List PathWord → Known
known_by conf index states directory paths =
    record { conf = conf; index = index; states = states; directory = directory; paths = paths; own = None }

-- what a machine's states and texts say, if these are the texts of its folder of modules
unfoldable pub said_by : Machine → Texts → Known
said_by machine whole =
    record {
      conf = conf_of machine.conf.now;
      index = indexes_of whole;
      states = machine.states.now;
      directory = machine.directory.now;
      paths = machine.paths.now;
      own = None;
    }

-- the texts of its folder of modules, as far as they were read
abbrev pub texts_of_folder : Machine → Texts
texts_of_folder machine = folder_texts machine.modules.now machine.later.now

-- what a world has
abbrev pub known_of : World → Known
known_of world =
    record {
      conf = world.conf.now;
      index = world.index.now;
      states = world.states.now;
      directory = world.directory.now;
      paths = world.paths.now;
      own = own_of world.own;
    }

-- how a removal is answered: as it is made, or as a dry run shows it; and who holds modules, as far as that was read
pub record Manner : Type 0 where
  pub whole : Bool
  pub holders : List Holders

abbrev pub manner_of : Machine → Manner
manner_of machine = record { whole = machine.whole; holders = machine.evidence.now.holders.items }

-- the answer to a query: kmod's, or what its removal would do if it were made
abbrev pub answer_for : Manner → World → Query → Answer
answer_for manner world query =
    if manner.whole && is_removal query.ask
    then answer_by query (whole_of (facts_of world) manner.holders query (texts_of query.words.now)) else answer_of world query

-- an answer is that of kmod_query, in this manner, to a world that has what is known
pub record IsAnswer (known : Known) (manner : Manner) (query : Query) (answer : Answer) : Type 0 where
  pub world : World
  pub has : known_of world ≡ known
  pub is : answer ≡ answer_for manner world query

-- a query of what is known is answered early
pub record IsEarly (known : Known) (query : Query) : Type 0 where
  pub world : World
  pub has : known_of world ≡ known
  pub is : is_early (facts_of world) query (texts_of query.words.now) ≡ true

-- a query is one that modules.symbols does not matter for, if that text was not read
abbrev pub IsEnoughFor : Option (List ℕ) → Query → Type 0
IsEnoughFor None query = is_symbolless query (texts_of query.words.now) ≡ true
IsEnoughFor (Some symbols) query = Unit {0}

abbrev pub IsEnoughBy : Option (List ℕ) → Option (List ℕ) → Machine → Query → Type 0
IsEnoughBy None symbols machine query = IsEarly (said_by machine (texts_of_folder machine)) query
IsEnoughBy (Some alias) symbols machine query = IsEnoughFor symbols query

-- what was read is enough for a query: it is answered early, or modules.alias was read, and modules.symbols if it matters
pub record IsEnough (machine : Machine) (query : Query) : Type 0 where
  pub is : IsEnoughBy (large_texts machine.later.now).alias (large_texts machine.later.now).symbols machine query

-- an answer is that of the machine's texts and states, whatever stands in texts that were not read
pub record IsAnswerOf (machine : Machine) (query : Query) (answer : Answer) : Type 0 where
  pub is : (whole : Texts) → AreRead machine.modules.now (large_texts machine.later.now) whole → IsAnswer (said_by machine whole) (manner_of machine) query answer

-- an answer is that of the machine's texts and states, once large texts of its folder were read, whatever stands in those
-- that were not
pub record IsAnswerWith (machine : Machine) (query : Query) (answer : Answer) : Type 0 where
  pub large : Large
  pub is : (whole : Texts) → AreRead machine.modules.now large whole → IsAnswer (said_by machine whole) (manner_of machine) query answer

abbrev pub is_whole : Written → Bool
is_whole written.Whole = true
is_whole written.Closed = false
is_whole written.Failed = false

-- 1 if a name failed, or the answer was not written whole
abbrev pub status_of : Answer → Written → ℕ
status_of answer how = if answer.failed || not (is_whole how) then 1 else 0

-- What was written of an answer: a beginning of what is told of it, if anything was, and all of it if no write failed.
pub record IsWritten (shape : Shape) (before after : Option (List ℕ)) (own : Answered) : Type 0 where
  pub begun : after ≢ before → IsPart shape own.answer before after
  pub whole : own.written ≡ written.Whole → IsWhole shape own.answer before after
