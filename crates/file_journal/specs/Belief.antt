-- What crashes may leave of a file, as it is believed.
use Rattle.std.specs.Prelude.{◌≡◌, ◌≤◌, ℕ, List, [], ◌++◌, take}
use Rattle.line_journal.specs.Device.{History}
use Rattle.file_journal.specs.Calls.{call_history, IsNoted}
use Rattle.file_journal.specs.declared.belief.Belief.{Belief}
use Rattle.file_journal.specs.declared.calls.kinds.Call.TheVariants.{Look, Read, OpenAgain, Write, Again, Cut, Settle, Replaced}
use Rattle.file_journal.specs.declared.disk_file.Syncs.{Syncs}

abbrev pub history_of : Belief → History
history_of belief = call_history belief.calls.noted.items belief.bytes.items

-- nobody knows what a crash leaves
abbrev pub MayBeAnything : History → Type 0
MayBeAnything history = (left : List ℕ) → history.leaves left

-- It was looked at from a place on, within its first `kept` bytes. What is believed: the bytes before that place stay, and behind
-- them is what the look has read.
pub record IsLooked (kept : ℕ) (old new : Belief) : Type 0 where
  pub place : ℕ
  pub within : place ≤ kept
  pub read : List ℕ
  pub noted : IsNoted (Look place) old.bytes.items read old.calls.noted.items new.calls.noted.items
  pub believed : new.bytes.items ≡ take place old.bytes.items ++ read

-- of a file that was just opened: it got one call, a look at all of it, and what that has read is believed
abbrev pub IsOpened : Belief → Type 0
IsOpened belief = IsNoted (Look 0) [] belief.bytes.items [] belief.calls.noted.items

-- these bytes were read from a place on, once more
abbrev pub IsReadBack : ℕ → List ℕ → Belief → Belief → Type 0
IsReadBack place bytes old new = IsNoted (Read place) old.bytes.items bytes old.calls.noted.items new.calls.noted.items

-- It was opened once more, all of it was read, and that has the bytes that were believed.
abbrev pub IsOpenedAgain : Belief → Belief → Type 0
IsOpenedAgain old new = IsNoted OpenAgain old.bytes.items old.bytes.items old.calls.noted.items new.calls.noted.items

-- these bytes were written from a place on
abbrev pub IsWritten : ℕ → List ℕ → Belief → Belief → Type 0
IsWritten place bytes old new = IsNoted (Write place) old.bytes.items bytes old.calls.noted.items new.calls.noted.items

-- all bytes were written again, as they are
abbrev pub IsWrittenAgain : Belief → Belief → Type 0
IsWrittenAgain old new = IsNoted Again old.bytes.items old.bytes.items old.calls.noted.items new.calls.noted.items

-- what stood behind the first `size` bytes was cut off
abbrev pub IsCut : ℕ → Belief → Belief → Type 0
IsCut size old new = IsNoted (Cut size) old.bytes.items old.bytes.items old.calls.noted.items new.calls.noted.items

-- it was waited for until the file was on the disk, or that was left out
abbrev pub IsSettled : Syncs → Belief → Belief → Type 0
IsSettled syncs old new = IsNoted (Settle syncs) old.bytes.items old.bytes.items old.calls.noted.items new.calls.noted.items

-- the same of a new file in its place
abbrev pub IsReplaced : Syncs → List ℕ → Belief → Belief → Type 0
IsReplaced syncs bytes old new = IsNoted (Replaced syncs) old.bytes.items bytes old.calls.noted.items new.calls.noted.items
