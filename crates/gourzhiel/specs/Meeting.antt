-- How a managed table with tellers was made, and how a caller and a teller met.
use Rattle.std.specs.Prelude.{◌≡◌, ℕ, ◌<◌, ◌≤◌, ◌==◌, true, List, map, All, MatchBool}
use Rattle.dep_index.specs.Table.{Module}
use Rattle.root_row.specs.Seats.{Seated, IsOf}
use Rattle.root_row.specs.Made.{AreNew, new_reader}
use Rattle.root_row.specs.declared.view.SeatName.TheVariants as name_is
use Rattle.managed_table.specs.Callers.{CallerIs, LeafMissed, BookMissed}
use Rattle.managed_table.specs.Hearing.{Met}
use Rattle.managed_table.specs.Owned.{row_of}
use Rattle.gourzhiel.specs.declared.handles.GzCaller.{GzCaller}
use Rattle.gourzhiel.specs.declared.handles.GzTeller.{GzTeller}
use Rattle.gourzhiel.specs.Numbers.{busy, out_of_range}
use Rattle.gourzhiel.specs.Making.{NoneMade}
use Rattle.gourzhiel.specs.Called.{IsNewCaller}

-- these are the tellers of the caller's table, one for each worker, which have seen nothing
abbrev pub AreItsTellers : ℕ → CallerIs → List Seated → Type 0
AreItsTellers workers caller tellers =
    AreNew (new_reader (row_of caller).id (row_of caller).world) workers tellers × All (IsOf (row_of caller)) tellers

-- the handles after a table was made: all are full, with its first caller and its tellers; or none was touched, and the number says why
abbrev pub TellersMade : List Module → ℕ → ℕ → GzCaller → GzCaller → List GzTeller → List GzTeller → Type 0
TellersMade modules workers number none caller no_tellers tellers =
    MatchBool (number == 0)
    ((caller.full ≡ true) × IsNewCaller modules workers caller.held
    × All (λ h. h.full ≡ true) tellers × AreItsTellers workers caller.held (map (λ h. h.held) tellers))
    ((caller ≡ none) × (tellers ≡ no_tellers) × NoneMade workers number)

-- the worker is out of range, or its lock was found taken at each try, or its leaf and the teller heard of each other
abbrev pub LeafMeetingEnded : CallerIs → ℕ → ℕ → Seated → ℕ → CallerIs → Seated → Type 0
LeafMeetingEnded before worker tries teller number after teller' =
    MatchBool (number == out_of_range) (((row_of before).world.workers ≤ worker) × (after ≡ before) × (teller' ≡ teller))
    ((worker < (row_of before).world.workers) × MatchBool (number == busy) (LeafMissed worker tries before after × (teller' ≡ teller))
    ((number ≡ 0) × Met (row_of before) worker (name_is.Leaf worker) before.leaves.pass after.leaves.pass teller.view teller'.view × (after.book ≡ before.book)))

-- the book's lock was found taken at each try, or the book and the teller heard of each other
abbrev pub BookMeetingEnded : CallerIs → ℕ → Seated → ℕ → CallerIs → Seated → Type 0
BookMeetingEnded before tries teller number after teller' =
    MatchBool (number == busy) (BookMissed tries before after × (teller' ≡ teller))
    ((number ≡ 0) × Met (row_of before) 0 name_is.Book before.book.pass after.book.pass teller.view teller'.view × (after.leaves ≡ before.leaves))
