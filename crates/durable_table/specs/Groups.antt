-- Lines that are made as one group.
use Rattle.std.specs.Prelude.{◌≡◌, ◌≤◌, ℕ, true, false, List, [], ◌∷◌, length, map, take, drop, All}
use Rattle.line_journal.specs.Lines.{AreLines}
use Rattle.modprobe.specs.Setup.{Setup}
use Rattle.held_table.specs.Held.{Held}
use Rattle.held_lines.specs.declared.reply.HeldReply.{HeldReply}
use Rattle.held_lines.specs.Laws.{KeepsHeld}
use Rattle.modprobe.specs.Outcomes.{Outcome}
use Rattle.held_lines.specs.Outcomes.{held_line_outcome, after}
use Rattle.held_lines.specs.Reading.{is_reading}
use Rattle.durable_table.specs.Seals.{are_sealed}
use Rattle.durable_table.specs.Durable.{FileStands}

-- what lines are answered, one after another
abbrev pub replies_of : Setup → Held → List (List ℕ) → List Outcome
replies_of s h [] = []
replies_of s h (line ∷ lines) = (held_line_outcome s h line).0 ∷ replies_of s (held_line_outcome s h line).1 lines

-- at each of some lines, what anybody held before it is in the table after it
abbrev pub KeepsHeldAlong : Setup → Held → List (List ℕ) → Type 0
KeepsHeldAlong s h [] = Unit {0}
KeepsHeldAlong s h (line ∷ lines) =
    KeepsHeld h.table (held_line_outcome s h line).1.table × KeepsHeldAlong s (held_line_outcome s h line).1 lines

-- a file stands for the table after the first of some lines: none, some or all
abbrev pub AfterFirstOf : Setup → Held → List (List ℕ) → List ℕ → Type 0
AfterFirstOf s h lines file = (count : ℕ) × (count ≤ length lines) × FileStands s (after s h (take count lines)) file

-- The kept ones of some lines leave what all of them leave, and the first of the kept ones what the first of all leave.
pub record LeavesAsMuch (s : Setup) (h : Held) (lines kept : List (List ℕ)) : Type 0 where
  pub all : after s h kept ≡ after s h lines
  pub each : (k : ℕ) → (count : ℕ) × (count ≤ length lines) × (after s h (take k kept) ≡ after s h (take count lines))

-- each of these lines asks, or is no command
abbrev pub AreAsking : List (List ℕ) → Type 0
AreAsking lines = All (λ line. is_reading line ≡ true) lines

-- no reply tells a change
abbrev pub AreIdle : List HeldReply → Type 0
AreIdle replies = All (λ r. r.changed ≡ false) replies

-- Lines were made on a table: what they are answered, the table after them, and the seals of those that are kept, the first of
-- them with this link.
pub record AreMade (s : Setup) (h new : Held) (link : List ℕ) (lines : List (List ℕ)) (replies : List HeldReply) (sealed : List (List ℕ)) : Type 0 where
  pub answered : map (λ r. r.reply) replies ≡ replies_of s h lines
  pub becomes : new ≡ after s h lines
  pub held : KeepsHeldAlong s h lines
  pub seals : are_sealed link sealed ≡ true
  pub are_lines : AreLines sealed
  pub kept : LeavesAsMuch s h lines (map (drop 17) sealed)
  pub idle : AreIdle replies → sealed ≡ []
  pub asking : AreAsking lines → sealed ≡ []
