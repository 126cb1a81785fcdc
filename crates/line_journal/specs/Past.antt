-- A file of which a crash leaves what is there, and the contents that it has had.
use Rattle.std.specs.Prelude.{◌≡◌, ◌⊎◌, ℕ, List, [], ◌∷◌, length, drop, Vec}
use mathlib.Core.Logic.{inl, inr}
use Rattle.std.specs.declared.alloc.Global.{Global}
use Rattle.line_journal.specs.Device.{History}

-- one of these is the file
abbrev pub IsAmong : List (Vec ℕ Global) → List ℕ → Type 0
IsAmong [] file = ⊥
IsAmong (first ∷ rest) file = (file ≡ first.items) ⊎ IsAmong rest file

-- what is there, or was there from that moment on
abbrev pub WasThere : List (Vec ℕ Global) → List ℕ → ℕ → List ℕ → Type 0
WasThere past bytes moment file = (file ≡ bytes) ⊎ IsAmong (drop moment past) file

none_later : (past : List (Vec ℕ Global)) (file : List ℕ) → IsAmong (drop (length past) past) file → ⊥
none_later [] file among = among
none_later (first ∷ rest) file among = none_later rest file among

pub is_there : (past : List (Vec ℕ Global)) (bytes file : List ℕ) → WasThere past bytes (length past) file → file ≡ bytes
is_there past bytes file (inl now) = now
is_there past bytes file (inr among) = absurd (none_later past file among)

-- the history of a file that held these contents one after another, and now holds the bytes
abbrev pub kill_history : List (Vec ℕ Global) → List ℕ → History
kill_history past bytes = record {
  now = length past;
  leaves = λ file. file ≡ bytes;
  left_since = WasThere past bytes;
  only_now = is_there past bytes;
  now_counts = λ moment file le now. inl now;
}
