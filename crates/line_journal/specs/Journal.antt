-- A journal that is ready for the next line, and what was found in its file.
use Rattle.std.specs.Prelude.{⊤, ◌≡◌, ◌⊎◌, ℕ, Bool, true, false, ◌+◌, ◌<◌, ◌≤◌, ◌^◌, List, [], ◌∷◌, length}
use Rattle.line_journal.specs.Device.{History, IsOnDisk}
use Rattle.line_journal.specs.Lines.{lines_of, open_text, at_rest, behind, bytes_of, open_gates, StandsFor}
use Rattle.line_journal.specs.declared.journal.Journal.{Journal}
use Rattle.line_journal.specs.declared.reading.Found.{Found}
use Rattle.line_journal.specs.declared.recovery.Repair.{Repair}
use Rattle.line_journal.specs.declared.recovery.Repair.TheVariants.{Cut, CutAtMost}
use Rattle.line_journal.specs.declared.recovery.Recovered.{Recovered}
use Rattle.line_journal.specs.declared.recovery.Recovered.TheVariants.{AtRest, Damaged}

-- the lines of the journal's file
abbrev pub lines_in : {D : Type 0} → (D → List ℕ) → Journal D → List (List ℕ)
lines_in content journal = lines_of (content journal.device)

-- the file is at rest: its lines, and a closed gate at `end`, all of it on the disk
pub record IsAtRest (file : List ℕ) (history : History) (end : ℕ) : Type 0 where
  pub whole : file ≡ at_rest (lines_of file)
  pub ends : end ≡ length (open_text (lines_of file))
  pub fits : end + 1 < 2 ^ 64
  pub on_disk : IsOnDisk file history

-- the journal's file is at rest
abbrev pub IsReady : {D : Type 0} → (D → List ℕ) → (D → History) → Journal D → Type 0
IsReady content history journal = IsAtRest (content journal.device) (history journal.device) journal.end

-- this is what stands in the file
pub record IsFound (file : List ℕ) (found : Found) : Type 0 where
  pub lines : bytes_of found.lines.items ≡ lines_of file
  pub ends : found.end ≡ length (open_text (lines_of file))
  pub rest : found.behind.items ≡ behind file

-- the bytes may be cut off
abbrev pub MayCut : Repair → List ℕ → Type 0
MayCut Cut bytes = ⊤
MayCut (CutAtMost lines) bytes = open_gates bytes ≤ lines

-- what stands behind the lines is left there: a closed gate, or more than may be cut off
abbrev pub IsLeft : Repair → List ℕ → Type 0
IsLeft repair bytes = (bytes ≡ 32 ∷ []) ⊎ (MayCut repair bytes → ⊥)

-- a file in which this was found was brought to rest, or not, because more would be cut off than may
abbrev pub IsRested : Repair → List ℕ → List ℕ → History → Found → Bool → Type 0
IsRested repair old new history found true = IsAtRest new history found.end × StandsFor (lines_of old) new × MayCut repair (behind old)
IsRested repair old new history found false = (new ≡ old) × (MayCut repair (behind old) → ⊥)

-- a file was brought to rest, or refused because more would be cut off than may
abbrev pub IsRecovered : Repair → List ℕ → List ℕ → History → Recovered → Type 0
IsRecovered repair old new history (AtRest found) = IsFound old found × IsAtRest new history found.end × StandsFor (lines_of old) new × MayCut repair (behind old)
IsRecovered repair old new history (Damaged found) = IsFound old found × (new ≡ old) × (MayCut repair (behind old) → ⊥)
