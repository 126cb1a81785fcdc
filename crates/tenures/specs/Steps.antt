-- The steps of a process, and what it made of one.
use Rattle.std.specs.Prelude.{◌≡◌, ◌⊎◌, ℕ, List, [], ◌++◌, map, All}
use Rattle.line_journal.specs.Device.{History, AlwaysLeaves}
use Rattle.line_journal.specs.Lines.{bytes_of, AreLines}
use Rattle.modprobe.specs.Setup.{Setup}
use Rattle.modprobe.specs.Outcomes.{Outcome}
use Rattle.held_table.specs.Held.{Held}
use Rattle.held_lines.specs.declared.reply.HeldReply.{HeldReply}
use Rattle.held_lines.specs.Outcomes.{after}
use Rattle.durable_table.specs.Durable.{FileStands}
use Rattle.durable_table.specs.Groups.{replies_of, KeepsHeldAlong}
use Rattle.tenures.specs.declared.step.Step.{Step}
use Rattle.tenures.specs.declared.step.Step.TheVariants.{Group, Compaction}
use Rattle.tenures.specs.Tenures.{IsFirstOf}

-- the commands of a step; a compaction has none
abbrev pub commands_of : Step → List (List ℕ)
commands_of (Group lines) = bytes_of lines.items
commands_of Compaction = []

-- the groups of steps, one after another
abbrev pub groups_of : List Step → List (List (List ℕ))
groups_of steps = map commands_of steps

-- each command of each step is a line
abbrev pub AreSteps : List Step → Type 0
AreSteps steps = All (λ step. AreLines (commands_of step)) steps

-- the outcomes that replies tell
abbrev pub outcomes_of : List HeldReply → List Outcome
outcomes_of replies = map (λ reply. reply.reply) replies

-- The first of these replies were begun, the last of them at this moment.
pub record HasBegun (replies : List Outcome) (now : ℕ) (old new : List Outcome) (since since_new : ℕ) : Type 0 where
  pub begun : List Outcome
  pub first : IsFirstOf begun replies
  pub grows : new ≡ old ++ begun
  pub moment : ((begun ≡ []) × (since_new ≡ since)) ⊎ (since_new ≡ now)

-- a file stands for the table after the first of some commands, none of which took away what was held before it
abbrev pub StandsAfterFirst : Setup → Held → List (List ℕ) → List ℕ → Type 0
StandsAfterFirst s h commands file =
    (first : List (List ℕ)) × IsFirstOf first commands × KeepsHeldAlong s h first × FileStands s (after s h first) file

-- No reply to a step's commands was begun. A crash meanwhile left the table after the first of them.
pub record IsUnanswered (s : Setup) (h : Held) (commands : List (List ℕ)) (old new : History) (replies begun : List Outcome) (since since_new : ℕ) : Type 0 where
  pub none : begun ≡ replies
  pub same : since_new ≡ since
  pub meanwhile : AlwaysLeaves old new (StandsAfterFirst s h commands)

-- Replies to the first of a step's commands were begun. From then on a crash leaves the table after all of them.
pub record IsAnswered (s : Setup) (h : Held) (commands : List (List ℕ)) (old new : History) (replies begun : List Outcome) (since_new : ℕ) : Type 0 where
  pub more : List Outcome
  pub first : IsFirstOf more (replies_of s h commands)
  pub grows : begun ≡ replies ++ more
  pub now : since_new ≡ new.now
  pub held : KeepsHeldAlong s h commands
  pub leaves : (file : List ℕ) → new.leaves file → FileStands s (after s h commands) file

-- what a process made of a step, as far as it came
abbrev pub IsMade : Setup → Held → List (List ℕ) → History → History → List Outcome → List Outcome → ℕ → ℕ → Type 0
IsMade s h commands old new replies begun since since_new =
    IsUnanswered s h commands old new replies begun since since_new ⊎ IsAnswered s h commands old new replies begun since_new

-- all of a step is made and answered
pub record IsMadeWhole (s : Setup) (h new : Held) (commands : List (List ℕ)) (replies begun : List Outcome) : Type 0 where
  pub answered : begun ≡ replies ++ replies_of s h commands
  pub held : KeepsHeldAlong s h commands
  pub becomes : new ≡ after s h commands
