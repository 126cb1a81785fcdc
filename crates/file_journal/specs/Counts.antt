-- How many calls of a kind a file got.
use Rattle.std.specs.Prelude.{ℕ, ◌+◌, List, [], ◌∷◌}
use Rattle.std.specs.declared.snapshot.Snapshot.{Snapshot}
use Rattle.file_journal.specs.declared.belief.Belief.{Belief}
use Rattle.file_journal.specs.declared.calls.kinds.Call.{Call}
use Rattle.file_journal.specs.declared.calls.kinds.Call.TheVariants.{Look, Read, Write, Cut, Settle, Replaced, NotReplaced}
use Rattle.file_journal.specs.declared.calls.kinds.Noted.{Noted}

abbrev pub is_look : Call → ℕ
is_look (Look place) = 1
is_look call = 0

abbrev pub is_write : Call → ℕ
is_write (Write place) = 1
is_write (Cut size) = 1
is_write (Replaced syncs) = 1
is_write NotReplaced = 1
is_write call = 0

abbrev pub count : (Call → ℕ) → List (Snapshot Noted) → ℕ
count kind [] = 0
count kind (first ∷ rest) = kind first.value.call + count kind rest

abbrev pub looks_of : Belief → ℕ
looks_of belief = count is_look belief.calls.noted.items

abbrev pub writes_of : Belief → ℕ
writes_of belief = count is_write belief.calls.noted.items
