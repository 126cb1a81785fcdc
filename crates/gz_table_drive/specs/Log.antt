-- The tenures of a run: what each found, which lines it answered, and what crashes leave of what it changed.
use Rattle.std.specs.Prelude.{◌≡◌, ◌≤◌, ℕ, true, List, [], ◌∷◌, ◌++◌, length, take, drop, None, Some, IfSome}
use Rattle.std.specs.declared.snapshot.Snapshot.{Snapshot}
use Rattle.modprobe.specs.Setup.{Setup}
use Rattle.modprobe.specs.Outcomes.{Outcome}
use Rattle.held_table.specs.Held.{Held}
use Rattle.held_lines.specs.Outcomes.{after}
use Rattle.durable_table.specs.Durable.{FileStands}
use Rattle.durable_table.specs.Commands.{head, is_of}
use Rattle.durable_table.specs.Renewing.{CanBeRenewed, IsRenewal, OldOrRenewal}
use Rattle.durable_table.specs.Compacting.{compacted, CanBeRemade}
use Rattle.durable_table.specs.Groups.{replies_of, AreAsking}
use Rattle.line_journal.specs.Lines.{at_rest, lines_of}
use Rattle.file_journal.specs.Belief.{history_of}
use Rattle.file_journal.specs.declared.belief.Belief.{Belief}
use Rattle.table_folder.specs.Setups.{IsNamed, IsNewSetup, IsReadFrom}
use Rattle.table_folder.specs.declared.folder_setup.FolderSetup.{FolderSetup}
use Rattle.gz_table_drive.specs.declared.answering.Replies.{Replies}
use Rattle.gz_table_drive.specs.declared.log.Tenure.{Tenure}
use Rattle.gz_table_drive.specs.declared.log.Tenures.{Tenures}
use Rattle.gz_table_drive.specs.Answers.{HasMore}

-- a file is a journal of this setup: its first line names it, or none (gourzhiel.5)
abbrev pub IsOf : FolderSetup → List ℕ → Type 0
IsOf f file = is_of f.name.items (lines_of file) ≡ true

-- A file is a journal of this setup, and stands for this table.
pub record IsJournalOf (f : FolderSetup) (h : Held) (file : List ℕ) : Type 0 where
  pub stands : FileStands f.setup h file
  pub of : IsOf f file

-- the bytes of the journal that a tenure found
abbrev pub found_by : Tenure → List ℕ
found_by tenure = tenure.found.bytes.value.items

-- one tenure more, which found these bytes, and changed nothing so far
pub record HasBegun (bytes : List ℕ) (old new : Tenures) : Type 0 where
  pub tenure : Tenure
  pub found : found_by tenure ≡ bytes
  pub asks : tenure.left.value ≡ None
  pub more : new.noted.items ≡ old.noted.items ++ tenure ∷ []

-- one tenure more, which found a journal of this setup that stands for this table
abbrev pub HasBegunOver : FolderSetup → Held → Tenures → Tenures → Type 0
HasBegunOver f h old new = (bytes : List ℕ) × HasBegun bytes old new × IsJournalOf f h bytes

-- the same tenure, at whose end this was believed of its file
pub record IsEnded (belief : Belief) (before after : Tenure) : Type 0 where
  pub found : after.found ≡ before.found
  pub last : Snapshot Belief
  pub left : after.left.value ≡ Some last
  pub is : last.value ≡ belief

-- the last tenure has ended so
abbrev pub HasEnded : Belief → Tenures → Tenures → Type 0
HasEnded belief old new =
    (earlier : List Tenure) (before : Tenure) → old.noted.items ≡ earlier ++ before ∷ []
    → (now : Tenure) × (new.noted.items ≡ earlier ++ now ∷ []) × IsEnded belief before now

-- whatever a crash leaves stands for the table after these lines
abbrev pub LeavesAfter : Setup → Held → List (List ℕ) → Belief → Type 0
LeavesAfter s h lines belief = (file : List ℕ) → (history_of belief).leaves file → FileStands s (after s h lines) file

-- whatever a crash leaves is a journal of this setup
abbrev pub LeavesOf : FolderSetup → Belief → Type 0
LeavesOf f belief = (file : List ℕ) → (history_of belief).leaves file → IsOf f file

-- whatever a crash leaves is a journal of this setup, and stands for the table after these lines, and after the first of some others
abbrev pub LeavesBehind : FolderSetup → Held → List (List ℕ) → List (List ℕ) → Belief → Type 0
LeavesBehind f h lines others belief =
    (file : List ℕ) → (history_of belief).leaves file → (count : ℕ) × IsJournalOf f (after f.setup h (lines ++ take count others)) file

-- A tenure over a journal answered these lines, one after another: the journal that it found is of this setup, and stands for a
-- table, and these are the replies of that table. What it left is of the same setup, and stands for the table after these lines,
-- and perhaps after the first of some others, which have no reply. If nothing is known of what it left, all the lines asked, and
-- they changed nothing.
pub record IsTenure (f : FolderSetup) (lines others : List (List ℕ)) (replies : List Outcome) (tenure : Tenure) : Type 0 where
  pub held : Held
  pub found : IsJournalOf f held (found_by tenure)
  pub answered : replies ≡ replies_of f.setup held lines
  pub left : IfSome tenure.left.value (λ last. LeavesBehind f held lines others last.value)
  pub asks : tenure.left.value ≡ None → AreAsking lines

-- these tenures, one after another, answered these lines, and nothing else
abbrev pub AreTenures : FolderSetup → List (List ℕ) → List (List ℕ) → List Outcome → List Tenure → Type 0
AreTenures f lines others replies [] = (lines ≡ []) × (replies ≡ [])
AreTenures f lines others replies (tenure ∷ later) =
    (own more : List (List ℕ)) × (first next : List Outcome) × (lines ≡ own ++ more) × (replies ≡ first ++ next)
    × IsTenure f own others first tenure × AreTenures f more others next later

-- Further tenures answered these lines, and these are their replies. Some others may have taken effect without a reply.
pub record HaveTold (f : FolderSetup) (lines others : List (List ℕ)) (replies : List Outcome) (log new_log : Tenures) : Type 0 where
  pub tenures : List Tenure
  pub more : new_log.noted.items ≡ log.noted.items ++ tenures
  pub are : AreTenures f lines others replies tenures

-- the replies to these lines more, which further tenures gave
pub record HasTold (f : FolderSetup) (lines others : List (List ℕ)) (log new_log : Tenures) (old new : Replies) : Type 0 where
  pub replies : List Outcome
  pub told : HaveTold f lines others replies log new_log
  pub has : HasMore replies old new

-- the replies to the first of these lines more: to none, some or all
abbrev pub HasToldFirst : FolderSetup → List (List ℕ) → Tenures → Tenures → Replies → Replies → Type 0
HasToldFirst f lines log new_log old new =
    (count : ℕ) × (count ≤ length lines) × HasTold f (take count lines) (drop count lines) log new_log old new

-- Of a tenure something is known at its end: this is what was believed of its file then.
pub record HasEndedWith (bytes : List ℕ) (belief : Belief) (log new_log : Tenures) : Type 0 where
  pub tenure : Tenure
  pub more : new_log.noted.items ≡ log.noted.items ++ tenure ∷ []
  pub found : found_by tenure ≡ bytes
  pub last : Snapshot Belief
  pub left : tenure.left.value ≡ Some last
  pub is : last.value ≡ belief

-- One tenure more, over a journal of this setup that stands for a table. Whatever a crash leaves is of the same setup, and stands for
-- the table after these lines.
pub record HasMade (f : FolderSetup) (h : Held) (lines : List (List ℕ)) (log new_log : Tenures) : Type 0 where
  pub bytes : List ℕ
  pub belief : Belief
  pub noted : HasEndedWith bytes belief log new_log
  pub found : IsJournalOf f h bytes
  pub left : LeavesBehind f h lines [] belief

-- One tenure more, over a journal of this setup that stands for a table. It left a journal of the lines that make this table, with the
-- name of the setup, and whatever a crash leaves is of the setup, and stands for the table.
pub record HasCompacted (f : FolderSetup) (log new_log : Tenures) : Type 0 where
  pub held : Held
  pub bytes : List ℕ
  pub belief : Belief
  pub noted : HasEndedWith bytes belief log new_log
  pub found : IsJournalOf f held bytes
  pub lines : lines_of belief.bytes.items ≡ compacted f.name.items f.setup held
  pub left : (file : List ℕ) → (history_of belief).leaves file → IsJournalOf f held file

-- One tenure more, over a journal of this setup whose table is not made by the lines that are to make it.
pub record CannotCompact (f : FolderSetup) (log new_log : Tenures) : Type 0 where
  pub held : Held
  pub bytes : List ℕ
  pub belief : Belief
  pub noted : HasEndedWith bytes belief log new_log
  pub found : IsJournalOf f held bytes
  pub cannot : CanBeRemade f.name.items f.setup held → ⊥

-- One tenure more, over a journal of this setup that stands for a table. It left a journal of the next setup, whose table is the same
-- by names, and whatever a crash leaves stands for the table by this setup, or is such a journal.
pub record HasRenewed (f next : FolderSetup) (log new_log : Tenures) : Type 0 where
  pub held : Held
  pub bytes : List ℕ
  pub belief : Belief
  pub noted : HasEndedWith bytes belief log new_log
  pub found : IsJournalOf f held bytes
  pub renewal : IsRenewal next.name.items f.setup held next.setup belief.bytes.items
  pub left : (file : List ℕ) → (history_of belief).leaves file → OldOrRenewal next.name.items f.setup held next.setup file

-- One tenure more, over a journal of this setup whose table would be another one by the next setup.
pub record CannotRenew (f next : FolderSetup) (log new_log : Tenures) : Type 0 where
  pub held : Held
  pub bytes : List ℕ
  pub belief : Belief
  pub noted : HasEndedWith bytes belief log new_log
  pub found : IsJournalOf f held bytes
  pub cannot : CanBeRenewed next.name.items f.setup held next.setup → ⊥

-- one tenure more, that left the journal of a new table of the setup of this name
abbrev pub HasCreated : List ℕ → Tenures → Tenures → Type 0
HasCreated name log new_log =
    (bytes : List ℕ) × (belief : Belief) × HasEndedWith bytes belief log new_log × (belief.bytes.items ≡ at_rest (head name ∷ []))

-- the setup is that of these bytes
abbrev pub HasCreatedOf : List ℕ → Tenures → Tenures → Type 0
HasCreatedOf file log new_log = (name : List ℕ) × IsNamed file name × HasCreated name log new_log

-- they are those of a new setup
abbrev pub HasCreatedTable : Tenures → Tenures → Type 0
HasCreatedTable log new_log = (file : List ℕ) × IsNewSetup file × HasCreatedOf file log new_log

-- One tenure more, over a journal of this setup. It left these lines, at rest.
pub record HasRepairedOf (f : FolderSetup) (log new_log : Tenures) : Type 0 where
  pub bytes : List ℕ
  pub belief : Belief
  pub noted : HasEndedWith bytes belief log new_log
  pub of : IsOf f bytes
  pub left : belief.bytes.items ≡ at_rest (lines_of bytes)

-- the setup is that of some file
abbrev pub HasRepaired : Tenures → Tenures → Type 0
HasRepaired log new_log = (file : List ℕ) × (found : FolderSetup) × IsReadFrom file found × HasRepairedOf found log new_log

-- no tenure less
abbrev pub HasGrown : Tenures → Tenures → Type 0
HasGrown log new_log = (tenures : List Tenure) × (new_log.noted.items ≡ log.noted.items ++ tenures)
