-- A file on a device: what its calls do, and what crashes may leave of it.
use Rattle.std.specs.Prelude.{◌≡◌, ◌⊎◌, ℕ, ◌+◌, ◌<◌, ◌≤◌, List, ◌++◌, length, take, drop, Result, IsErrOf}
use Rattle.line_journal.specs.declared.device.DeviceError.{DeviceError}
use Rattle.line_journal.specs.declared.device.DeviceError.TheVariants.{Failed}

-- What crashes may leave of a file. Moments are numbered, and a call may be a moment or many.
pub record History : Type 1 where
  pub now : ℕ
  -- a crash now
  pub leaves : List ℕ → Type 0
  -- a crash at some moment from that one on, up to now
  pub left_since : ℕ → List ℕ → Type 0
  pub only_now : (file : List ℕ) → left_since now file → leaves file
  pub now_counts : (moment : ℕ) (file : List ℕ) → moment ≤ now → leaves file → left_since moment file

-- a crash now leaves this file and no other
abbrev pub IsOnDisk : List ℕ → History → Type 0
IsOnDisk file history = (left : List ℕ) → history.leaves left → left ≡ file

-- the file with these bytes from a place on, over those that are there and past its end
abbrev pub overwritten : List ℕ → ℕ → List ℕ → List ℕ
overwritten file place bytes = take place file ++ (bytes ++ drop (place + length bytes) file)

-- a write of so many bytes that was cut short: some bytes in its range, the same elsewhere
pub record Torn (place count : ℕ) (file left : List ℕ) : Type 0 where
  pub middle : List ℕ
  pub is : left ≡ take place file ++ (middle ++ drop (place + count) file)
  pub within : length middle ≤ count
  pub no_shorter : length file ≤ length left

-- a cut to a size that was cut short: a front of the file, of that size or longer
pub record Shortened (least : ℕ) (file left : List ℕ) : Type 0 where
  pub size : ℕ
  pub no_less : least ≤ size
  pub is : left ≡ take size file

-- the file as it was
abbrev pub Unchanged : List ℕ → List ℕ → Type 0
Unchanged file left = left ≡ file

-- the file as it was, or these bytes
abbrev pub UnchangedOr : List ℕ → List ℕ → List ℕ → Type 0
UnchangedOr bytes file left = (left ≡ file) ⊎ (left ≡ bytes)

-- A call goes from one history to the next: a crash leaves what it might have left before, after this step.
pub record Goes (step : List ℕ → List ℕ → Type 0) (old new : History) : Type 0 where
  pub later : old.now ≤ new.now
  pub steps : (left : List ℕ) → new.leaves left → (before : List ℕ) × old.leaves before × step before left
  pub nothing_else : (moment : ℕ) (left : List ℕ) → moment ≤ old.now → new.left_since moment left → old.left_since moment left ⊎ new.leaves left
  pub keeps : (moment : ℕ) (left : List ℕ) → moment ≤ old.now → old.left_since moment left → new.left_since moment left

-- A crash at any moment between the two leaves a file that has P.
pub record AlwaysLeaves (old new : History) (P : List ℕ → Type 0) : Type 0 where
  pub later : old.now ≤ new.now
  pub each : (left : List ℕ) → new.left_since old.now left → P left
  -- for one who began to count earlier
  pub earlier : (moment : ℕ) (left : List ℕ) → moment ≤ old.now → new.left_since moment left → old.left_since moment left ⊎ P left

-- `Failed` is told only if the device has failed since
pub record TellsFaults {T : Type 0} (old new : ℕ) (result : Result T DeviceError) : Type 0 where
  pub later : old ≤ new
  pub failed : IsErrOf result Failed → old < new
