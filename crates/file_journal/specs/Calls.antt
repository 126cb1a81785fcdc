-- What crashes may leave of a file, by the calls that went to it.
use Rattle.std.specs.Prelude.{◌≡◌, ◌⊎◌, ℕ, zero, suc, List, [], ◌∷◌, ◌++◌, length}
use mathlib.Core.Logic.{inl, ⊎_elim}
use Rattle.std.specs.declared.snapshot.Snapshot.{Snapshot}
use Rattle.line_journal.specs.Device.{History, Torn, Shortened}
use Rattle.file_journal.specs.declared.calls.kinds.Call.{Call}
use Rattle.file_journal.specs.declared.calls.kinds.Call.TheVariants.{Look, Read, OpenAgain, Write, Again, Cut, Settle, Replaced, NotReplaced}
use Rattle.file_journal.specs.declared.disk_file.Syncs.TheVariants.{Kept}
use Rattle.file_journal.specs.declared.calls.kinds.Noted.{Noted}

-- what a read returns, or one of the others
abbrev pub With : List ℕ → (List ℕ → Type 0) → List ℕ → Type 0
With read others left = (left ≡ read) ⊎ others left

-- Of a file that was opened, or written to by others, nobody knows what a crash leaves.
abbrev pub anything : List ℕ → Type 0
anything left = left ≡ left

-- what a crash may leave after a call, beside what a read then returns, if one before it might leave `old`
abbrev pub after_call : Call → List ℕ → (List ℕ → Type 0) → List ℕ → Type 0
after_call (Look place) bytes old left = anything left
after_call (Read place) bytes old left = old left
after_call OpenAgain bytes old left = old left
after_call (Write place) bytes old left = (before : List ℕ) × old before × Torn place (length bytes) before left
after_call Again bytes old left = old left
after_call (Cut size) bytes old left = (before : List ℕ) × old before × Shortened size before left
after_call (Settle syncs) bytes old left = ⊥
after_call (Replaced syncs) bytes old left = ⊥
after_call NotReplaced bytes old left = old left ⊎ (left ≡ bytes)

abbrev pub after : (List ℕ → Type 0) → Noted → List ℕ → Type 0
after others noted = after_call noted.call noted.bytes.value.items (With noted.before.value.items others)

-- after all of them
abbrev pub after_all : (List ℕ → Type 0) → List (Snapshot Noted) → List ℕ → Type 0
after_all others [] = others
after_all others (first ∷ rest) = after_all (after others first.value) rest

-- what a crash might leave before one of the calls, from the call of this number on
abbrev pub WasLeft : (List ℕ → Type 0) → List (Snapshot Noted) → ℕ → List ℕ → Type 0
WasLeft others [] moment left = ⊥
WasLeft others (first ∷ rest) zero left = With first.value.before.value.items others left ⊎ WasLeft (after others first.value) rest zero left
WasLeft others (first ∷ rest) (suc moment) left = WasLeft (after others first.value) rest moment left

abbrev pub none_later : (others : List ℕ → Type 0) (calls : List (Snapshot Noted)) (left : List ℕ) → WasLeft others calls (length calls) left → ⊥
none_later others [] left was = was
none_later others (first ∷ rest) left was = none_later (after others first.value) rest left was

-- what a crash may leave now
abbrev pub MayLeave : List (Snapshot Noted) → List ℕ → List ℕ → Type 0
MayLeave calls read = With read (after_all anything calls)

-- the history of a file that was opened, got these calls, and now reads so
abbrev pub call_history : List (Snapshot Noted) → List ℕ → History
call_history calls read = record {
  now = length calls;
  leaves = MayLeave calls read;
  left_since = λ moment left. MayLeave calls read left ⊎ WasLeft anything calls moment left;
  only_now = λ left since. ⊎_elim (λ now. now) (λ was. absurd (none_later anything calls left was)) since;
  now_counts = λ moment left le now. inl now;
}

-- one more call, with what a read returned before it, and the bytes that it brought
pub record IsNoted (call : Call) (before bytes : List ℕ) (old new : List (Snapshot Noted)) : Type 0 where
  pub noted : Snapshot Noted
  pub is_call : noted.value.call ≡ call
  pub is_before : noted.value.before.value.items ≡ before
  pub is_bytes : noted.value.bytes.value.items ≡ bytes
  pub more : new ≡ old ++ noted ∷ []

-- a call that failed: it was noted, or was not made
abbrev pub IsNotedOrNot : Call → List ℕ → List ℕ → List (Snapshot Noted) → List (Snapshot Noted) → Type 0
IsNotedOrNot call before bytes old new = (new ≡ old) ⊎ IsNoted call before bytes old new

-- The calls of a new file: these bytes were written to it, and then it was waited for until they were on the disk.
pub record IsSynced (bytes : List ℕ) (calls : List (Snapshot Noted)) : Type 0 where
  pub written : List (Snapshot Noted)
  pub is_written : IsNoted (Write 0) [] bytes [] written
  pub is_synced : IsNoted (Settle Kept) bytes bytes written calls
