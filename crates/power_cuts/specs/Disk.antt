-- A file in memory of which a cut of the power loses what was not synced.
use Rattle.std.specs.Prelude.{◌≡◌, ◌⊎◌, ℕ, zero, suc, List, [], ◌∷◌, length, drop, Vec, Option, Some, None}
use mathlib.Core.Logic.{inl, ⊎_elim}
use Rattle.std.specs.declared.alloc.Global.{Global}
use Rattle.line_journal.specs.Device.{History, Torn, Shortened}
use Rattle.power_cuts.specs.declared.state.Call.{Call}
use Rattle.power_cuts.specs.declared.state.Call.TheVariants.{Write, Cut}
use Rattle.power_cuts.specs.declared.state.State.{State}
use Rattle.power_cuts.specs.declared.disk.MemoryDisk.{MemoryDisk}
use Rattle.power_cuts.specs.Log.{noted}

-- the cache, or the disk if there is none
abbrev pub cached : Option (Vec ℕ Global) → List ℕ → List ℕ
cached None disk = disk
cached (Some cache) disk = cache.items

-- what a read returns
abbrev pub read_of : State → List ℕ
read_of state = cached state.cache state.disk.items

-- what a crash may leave after a call that was not synced, if one before it might leave `old`
abbrev pub after_call : Call → (List ℕ → Type 0) → List ℕ → Type 0
after_call (Write place count) old left = (before : List ℕ) × old before × Torn place count before left
after_call (Cut size) old left = (before : List ℕ) × old before × Shortened size before left

-- after calls, one after another
abbrev pub after_calls : List Call → (List ℕ → Type 0) → List ℕ → Type 0
after_calls [] old = old
after_calls (first ∷ later) old = after_calls later (after_call first old)

-- what a crash may leave: what a read returns, or what may come of the file on the disk by the calls since the last sync
abbrev pub MayLeave : State → List ℕ → Type 0
MayLeave state left = (left ≡ read_of state) ⊎ after_calls (noted state.unsynced) (λ file. file ≡ state.disk.items) left

-- what a crash at one of these moments may have left
abbrev pub WasLeft : List State → List ℕ → Type 0
WasLeft [] left = ⊥
WasLeft (first ∷ later) left = MayLeave first left ⊎ WasLeft later left

none_later : (past : List State) (left : List ℕ) → WasLeft (drop (length past) past) left → ⊥
none_later [] left was = was
none_later (first ∷ later) left was = none_later later left was

pub only_now : (past : List State) (state : State) (left : List ℕ) → MayLeave state left ⊎ WasLeft (drop (length past) past) left → MayLeave state left
only_now past state left since = ⊎_elim (λ now. now) (λ was. absurd (none_later past left was)) since

-- the history of a file that had these states one after another, and now has this one
abbrev pub disk_history : List State → State → History
disk_history past state = record {
  now = length past;
  leaves = MayLeave state;
  left_since = λ moment left. MayLeave state left ⊎ WasLeft (drop moment past) left;
  only_now = only_now past state;
  now_counts = λ moment left le now. inl now;
}

-- what crashes may leave of a file
abbrev pub history_of : MemoryDisk → History
history_of file = disk_history (noted file.past) file.state

-- what a read of it returns
abbrev pub content_of : MemoryDisk → List ℕ
content_of file = read_of file.state

-- what is on the disk: what was synced last
abbrev pub disk_of : MemoryDisk → List ℕ
disk_of file = file.state.disk.items

-- how many of its calls wrote, cut or replaced
abbrev pub writes_of : MemoryDisk → ℕ
writes_of file = length (noted file.writes)

-- how many of its calls failed
abbrev pub faults_of : MemoryDisk → ℕ
faults_of file = length (noted file.faults)
