-- What a run writes to standard output, whatever its status.
use Rattle.std.specs.Prelude.{◌≡◌, ◌≢◌, ℕ, Bool, true, false, ◌||◌, List, Option, Some, None}
use Rattle.kmod_version.specs.declared.kmod.Kmod.{Kmod}
use Rattle.kmod_query.specs.Answers.{Answer}
use Rattle.kmod_query.specs.declared.query.Ask.{Ask}
use Rattle.kmod_query.specs.declared.query.Query.{Query}
use Rattle.modprobe_words.specs.Asked.{Asked, asked_by}
use Rattle.modprobe_words.specs.Endings.{Ending, IsShownPart, first_ending, shown_by}
use Rattle.modprobe_words.specs.Words.{items}
use Rattle.gz_modprobe_drive.specs.Begun.{WritesFacts}
use Rattle.gz_modprobe_drive.specs.Ends.{IsAnswerBy, is_root_empty, wish_by}
use Rattle.gz_modprobe_drive.specs.Formed.{form_by}
use Rattle.gz_modprobe_drive.specs.declared.shape.Shape.{Shape}
use Rattle.gz_modprobe_drive.specs.Shapes.{IsPart, shape_of}
use Rattle.gz_modprobe_drive.specs.Queries.{IsQueryOf, ask_of, is_lint, is_why}

-- a beginning of an answer to a query was written, whether or not names failed in it
pub record WasBegun (kmod : Kmod) (whole : Bool) (shape : Shape) (query : Query) (before after : Option (List ℕ)) : Type 0 where
  pub answer : Answer
  pub is : IsAnswerBy kmod whole query answer
  pub begun : IsPart shape answer before after

-- if anything was written, it is such a beginning
abbrev pub WritesAnswer : Kmod → Bool → Shape → Query → Option (List ℕ) → Option (List ℕ) → Type 0
WritesAnswer kmod whole shape query before after = after ≢ before → WasBegun kmod whole shape query before after

-- what is asked for is a query, and a beginning of an answer to it was written
pub record WereBegun (asked : Asked) (before after : Option (List ℕ)) : Type 0 where
  pub query : Query
  pub asks : IsQueryOf (wish_by asked) asked.switches asked.words query
  pub begun : WasBegun asked.kmod asked.switches.whole (shape_of asked.switches) query before after

-- A wish that is refused writes nothing. A query writes no more than an answer to it, and a lint, and what leads to names,
-- no more than lines of facts.
abbrev pub IsOutputFor : Bool → Option Ask → Asked → Option (List ℕ) → Option (List ℕ) → Type 0
IsOutputFor true ask asked before after = WritesFacts (form_by asked.switches.explain) before after
IsOutputFor false None asked before after = after ≡ before
IsOutputFor false (Some ask) asked before after = after ≢ before → WereBegun asked before after

abbrev pub IsOutput : Asked → Option (List ℕ) → Option (List ℕ) → Type 0
IsOutput asked before after = IsOutputFor (is_lint (wish_by asked) || is_why (wish_by asked)) (ask_of (wish_by asked)) asked before after

-- with an empty root nothing is written
pub record IsOutputWithin (asked : Asked) (before after : Option (List ℕ)) : Type 0 where
  pub root : is_root_empty asked.root ≡ true → after ≡ before
  pub output : IsOutput asked before after

-- words that end early write no more than the text that they ask for, if they ask for one
abbrev pub IsOutputBy : Option Ending → Asked → Option (List ℕ) → Option (List ℕ) → Type 0
IsOutputBy (Some ending) asked before after = IsShownPart (shown_by ending) before after
IsOutputBy None asked before after = IsOutputWithin asked before after

-- what words have a run write, by what standard output has before and after
abbrev pub IsOutputOf : List (List ℕ) → Option (List ℕ) → Option (List ℕ) → Type 0
IsOutputOf words before after = IsOutputBy (first_ending (items words)) (asked_by (items words)) before after
