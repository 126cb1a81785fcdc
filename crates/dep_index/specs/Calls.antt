-- What each call answers on the one-thread table, and which table it leaves. Loads and removals refuse as
-- init_module(2) and delete_module(2) do.
use Rattle.std.specs.Prelude.{ℕ, ◌+◌, ◌-◌, ◌==◌, ◌<◌, nat_le, Bool, true, false, not, ◌&&◌, ◌||◌, List, [], ◌∷◌, ◌++◌, length, filter, find, replicate, slice_index, slice_index_or, slice_set, Option, Some, None, unwrap_or, is_some, if◌then◌else◌}
use Rattle.dep_index.specs.declared.table.states.ModuleState.{ModuleState}
use Rattle.dep_index.specs.declared.table.states.ModuleState.TheVariants.{Absent, Loading, Live, Draining, Unloading}
use Rattle.dep_index.specs.declared.table.calls.Call.{Call}
use Rattle.dep_index.specs.declared.table.calls.Call.TheVariants.{Get, Put, InUse as Query, BeginLoad, EndLoad, BeginDrain, BeginRemove, EndRemove, CancelRemove}
use Rattle.dep_index.specs.declared.table.calls.Reply.{Reply}
use Rattle.dep_index.specs.declared.table.calls.Reply.TheVariants.{Done, Yes, No, NotLive, TooMany, NotHeld, Exists, UnknownSymbol, NeedNotLive, NotLoading, NoEntry, NeededBy, Permanent, InUse, NotUnloading}
use Rattle.dep_index.specs.Table.{Module, Book, Table, module_at, state_of, is_absent, is_loading, is_live, is_draining, is_unloading, count_of, is_held, has_users}

-- the refusal, if the test holds; else what is tested next
abbrev pub refuse : Bool → Reply → Option Reply → Option Reply
refuse true reply later = Some reply
refuse false reply later = later

-- the first refusal, or else the second
abbrev pub or_else : Option Reply → Option Reply → Option Reply
or_else None later = later
or_else (Some reply) later = Some reply

-- the first need that is not Live
abbrev pub first_missing : List Module → Book → ℕ → Option ℕ
first_missing catalogue book m = find (λ n. not (is_live (state_of book n))) (module_at catalogue m).needs

-- the refusal for a need that is not Live
abbrev pub missing_need : Option ℕ → Option Reply
missing_need None = None
missing_need (Some n) = Some (NeedNotLive n)

-- what a drain and a removal have in common
abbrev pub unload_refusal : List Module → Book → ℕ → Option Reply
unload_refusal catalogue book m =
    refuse (is_absent (state_of book m)) NoEntry
    (refuse (has_users catalogue book m) NeededBy
    (refuse (not (is_live (state_of book m))) NotLive
    (refuse (module_at catalogue m).permanent Permanent None)))

-- the refusals that the book alone decides
abbrev pub book_refusal : List Module → Book → Call → Option Reply
book_refusal catalogue book (BeginLoad m) =
    refuse (not (is_absent (state_of book m))) Exists
    (refuse (module_at catalogue m).unknown_symbol UnknownSymbol
    (missing_need (first_missing catalogue book m)))
book_refusal catalogue book (EndLoad m ok) = refuse (not (is_loading (state_of book m))) NotLoading None
book_refusal catalogue book (BeginDrain m) = unload_refusal catalogue book m
book_refusal catalogue book (BeginRemove m) = unload_refusal catalogue book m
book_refusal catalogue book (EndRemove m) =
    refuse (not (is_unloading (state_of book m) || is_draining (state_of book m))) NotUnloading None
book_refusal catalogue book (CancelRemove m) =
    refuse (not (is_unloading (state_of book m) || is_draining (state_of book m))) NotUnloading None
book_refusal catalogue book _ = None

-- the refusals that follow, by the references
abbrev pub held_refusal : Table → Call → Option Reply
held_refusal table (Get w m) =
    refuse (not (is_live (state_of table.book m))) NotLive
    (refuse (nat_le 65535 (count_of table w m)) TooMany None)
held_refusal table (Put w m) = refuse (count_of table w m == 0) NotHeld None
held_refusal table (BeginRemove m) = refuse (is_held table m) InUse None
held_refusal table (EndRemove m) = refuse (is_draining (state_of table.book m) && is_held table m) InUse None
held_refusal table _ = None

-- the first refusal of a call, by the book and then by the references
abbrev pub refusal : List Module → Table → Call → Option Reply
refusal catalogue table call = or_else (book_refusal catalogue table.book call) (held_refusal table call)

-- what a call answers that is not refused
abbrev pub answer : Table → Call → Reply
answer table (Query m) = if is_held table m then Yes else No
answer table _ = Done

-- a module leaves the book
abbrev pub without : Book → ℕ → Book
without book m =
    record { states = slice_set book.states m Absent; order = filter (λ s. not (s == m)) book.order }

-- the book with a new state of one slot
abbrev pub with_state : Book → ℕ → ModuleState → Book
with_state book m state = record { states = slice_set book.states m state; order = book.order }

-- the book after a call that is not refused
abbrev pub book_effect : Book → Call → Book
book_effect book (BeginLoad m) =
    record { states = slice_set book.states m Loading; order = book.order ++ m ∷ [] }
book_effect book (EndLoad m true) = with_state book m Live
book_effect book (EndLoad m false) = without book m
book_effect book (BeginDrain m) = with_state book m Draining
book_effect book (BeginRemove m) = with_state book m Unloading
book_effect book (EndRemove m) = without book m
book_effect book (CancelRemove m) = with_state book m Live
book_effect book _ = book

-- a worker's row after its call that is not refused
abbrev pub row_effect : List ℕ → Call → List ℕ
row_effect row (Get w m) = slice_set row m (slice_index row m + 1)
row_effect row (Put w m) = slice_set row m (slice_index row m - 1)
row_effect row _ = row

-- the rows of all workers after a call that is not refused
abbrev pub rows_effect : List (List ℕ) → Call → List (List ℕ)
rows_effect rows (Get w m) = slice_set rows w (row_effect (slice_index_or rows w []) (Get w m))
rows_effect rows (Put w m) = slice_set rows w (row_effect (slice_index_or rows w []) (Put w m))
rows_effect rows _ = rows

-- the table after a call that is not refused
abbrev pub effect : Table → Call → Table
effect table call = record { book = book_effect table.book call; rows = rows_effect table.rows call }

-- what a call answers
abbrev pub reply : List Module → Table → Call → Reply
reply catalogue table call = unwrap_or (refusal catalogue table call) (answer table call)

-- the table after a call; a refusal changes nothing
abbrev pub next : List Module → Table → Call → Table
next catalogue table call = if is_some (refusal catalogue table call) then table else effect table call

-- the opening table: all is Absent, and nothing is held
abbrev pub opening : List Module → ℕ → Table
opening catalogue workers =
    record {
      book = record { states = replicate (length catalogue) Absent; order = [] };
      rows = replicate workers (replicate (length catalogue) 0);
    }

-- the table after these calls
abbrev pub after : List Module → Table → List Call → Table
after catalogue table [] = table
after catalogue table (call ∷ calls) = after catalogue (next catalogue table call) calls

-- what these calls answer, one after another
abbrev pub replies : List Module → Table → List Call → List Reply
replies catalogue table [] = []
replies catalogue table (call ∷ calls) = reply catalogue table call ∷ replies catalogue (next catalogue table call) calls

-- the slot that a call names
abbrev pub slot_of : Call → ℕ
slot_of (Get w m) = m
slot_of (Put w m) = m
slot_of (Query m) = m
slot_of (BeginLoad m) = m
slot_of (EndLoad m ok) = m
slot_of (BeginDrain m) = m
slot_of (BeginRemove m) = m
slot_of (EndRemove m) = m
slot_of (CancelRemove m) = m

-- the worker that takes a reference or puts one back
abbrev pub worker_of : Call → Option ℕ
worker_of (Get w m) = Some w
worker_of (Put w m) = Some w
worker_of _ = None

-- the worker, if the call names one, is one of so many
abbrev pub IsWorkerInRange : ℕ → Option ℕ → Type 0
IsWorkerInRange workers (Some w) = w < workers
IsWorkerInRange workers None = Unit {0}

-- the call names a slot of the catalogue and a worker that there is
abbrev pub IsInRange : ℕ → ℕ → Call → Type 0
IsInRange slots workers call = (slot_of call < slots) × IsWorkerInRange workers (worker_of call)

-- the call was made
abbrev pub is_done : Reply → Bool
is_done Done = true
is_done _ = false

-- a worker's row after its call had this reply
abbrev pub row_given : Reply → List ℕ → Call → List ℕ
row_given given row call = if is_done given then row_effect row call else row

-- the book after a call that had this reply
abbrev pub book_given : Reply → Book → Call → Book
book_given given book call = if is_done given then book_effect book call else book
