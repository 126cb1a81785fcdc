-- What standard output gets of an answer.
use Rattle.std.specs.Prelude.{◌≡◌, ◌≢◌, ℕ, if◌then◌else◌, List, ◌++◌, Option, Some}
use Rattle.std.specs.Io.KnownBytes.{Appends}
use Rattle.answer_facts.specs.declared.fact.Fact.{Fact}
use Rattle.answer_facts.specs.declared.origin.Origin.{Origin}
use Rattle.answer_facts.specs.Plan.{origin_lines, plan_lines}
use Rattle.answer_facts.specs.Shell.{shell_lines}
use Rattle.kmod_query.specs.Answers.{Answer}
use Rattle.modprobe_words.specs.declared.switches.Switches.{Switches}
use Rattle.modprobe_words.specs.Begun.{IsBegun}
use Rattle.gz_modprobe_drive.specs.declared.shape.Shape.{Shape}
use Rattle.gz_modprobe_drive.specs.declared.shape.Shape.TheVariants.{Lines, Json, Shell}

-- by the options of a command line
abbrev pub shape_of : Switches → Shape
shape_of switches = if switches.json then Json else (if switches.shell then Shell else Lines)

-- a text is the lines of some facts in JSON, each with the machine that it is of
pub record AreFacts (origin : Origin) (text : List ℕ) : Type 0 where
  pub facts : List Fact
  pub are : text ≡ origin_lines origin facts

-- each line of an answer as an object, in order, and then the facts that gave it
pub record IsJson (answer : Answer) (text : List ℕ) : Type 0 where
  pub origin : Origin
  pub facts : List ℕ
  pub lines : AreFacts origin facts
  pub is : text ≡ plan_lines origin answer.output ++ facts

-- a text is the answer as it is asked for; an answer that no shell may have has none
abbrev pub IsTold : Shape → Answer → List ℕ → Type 0
IsTold Lines answer text = text ≡ answer.output
IsTold Json answer text = IsJson answer text
IsTold Shell answer text = shell_lines answer.output ≡ Some text

-- standard output has grown by such a text
pub record IsWhole (shape : Shape) (answer : Answer) (before after : Option (List ℕ)) : Type 0 where
  pub told : List ℕ
  pub is : IsTold shape answer told
  pub written : Appends before after told

-- or by a beginning of one
pub record IsPart (shape : Shape) (answer : Answer) (before after : Option (List ℕ)) : Type 0 where
  pub told : List ℕ
  pub is : IsTold shape answer told
  pub begun : IsBegun before after told
