-- Lines that were answered: what is there of their replies, and what crashes leave of the table.
use Rattle.std.specs.Prelude.{◌≡◌, ℕ, ◌≤◌, List, ◌++◌, length, map, take}
use Rattle.std.specs.List.{flat_map}
use Rattle.modprobe.specs.Setup.{Setup}
use Rattle.modprobe.specs.Outcomes.{Outcome, text_of}
use Rattle.held_table.specs.Held.{Held}
use Rattle.held_lines.specs.Outcomes.{after}
use Rattle.durable_table.specs.Durable.{FileStands}
use Rattle.durable_table.specs.Groups.{replies_of}
use Rattle.table_folder.specs.Endings.{ending_of_outcome}
use Rattle.gz_table_drive.specs.declared.answering.Replies.{Replies}

-- these replies more, and how their lines ended
pub record HasMore (outcomes : List Outcome) (old new : Replies) : Type 0 where
  pub text : new.text.items ≡ old.text.items ++ flat_map text_of outcomes
  pub endings : new.endings.items ≡ old.endings.items ++ map ending_of_outcome outcomes

-- the replies to these lines more, asked one after another of a table
abbrev pub HasAnswered : Setup → Held → List (List ℕ) → Replies → Replies → Type 0
HasAnswered s h lines old new = HasMore (replies_of s h lines) old new

-- the replies to the first of these lines more: to none, some or all
abbrev pub HasAnsweredFirst : Setup → Held → List (List ℕ) → Replies → Replies → Type 0
HasAnsweredFirst s h lines old new = (count : ℕ) × (count ≤ length lines) × HasAnswered s h (take count lines) old new

-- a file stands for the table after the first of these lines, and not fewer than so many
abbrev pub StandsAfter : ℕ → Setup → Held → List (List ℕ) → List ℕ → Type 0
StandsAfter least s h lines file = (count : ℕ) × (least ≤ count) × (count ≤ length lines) × FileStands s (after s h (take count lines)) file

-- The first of these lines were answered. A crash leaves the table after all that were, or after more.
pub record StoppedWithin (s : Setup) (h : Held) (lines : List (List ℕ)) (leaves : List ℕ → Type 0) (old new : Replies) : Type 0 where
  pub count : ℕ
  pub within : count ≤ length lines
  pub answered : HasAnswered s h (take count lines) old new
  pub left : (file : List ℕ) → leaves file → StandsAfter count s h lines file
