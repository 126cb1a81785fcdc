-- What each number stands for that a call answers.
use Rattle.std.specs.Prelude.{ℕ, ◌==◌, if◌then◌else◌, Option, Some, None}
use Rattle.dep_index.specs.declared.table.calls.Reply.{Reply}
use Rattle.dep_index.specs.declared.table.calls.Reply.TheVariants.{Done, NotLive, TooMany, NotHeld, Exists, UnknownSymbol, NeedNotLive, NotLoading, NoEntry, NeededBy, Permanent, InUse, NotUnloading, Yes, No}
use Rattle.dep_index.specs.declared.table.states.ModuleState.{ModuleState}
use Rattle.dep_index.specs.declared.table.states.ModuleState.TheVariants as state
use Rattle.dep_index.specs.Catalogue.{Refusal, bad, duplicate, twice_exported, too_many}

-- the reply of a number; the need is the one that NeedNotLive names
abbrev pub reply_at : ℕ → ℕ → Option Reply
reply_at number need =
    if number == 0 then Some Done
    else (if number == 1 then Some NotLive
    else (if number == 2 then Some TooMany
    else (if number == 3 then Some NotHeld
    else (if number == 4 then Some Exists
    else (if number == 5 then Some UnknownSymbol
    else (if number == 6 then Some (NeedNotLive need)
    else (if number == 7 then Some NotLoading
    else (if number == 8 then Some NoEntry
    else (if number == 9 then Some NeededBy
    else (if number == 10 then Some Permanent
    else (if number == 11 then Some InUse
    else (if number == 12 then Some NotUnloading
    else (if number == 13 then Some Yes
    else (if number == 14 then Some No
    else None))))))))))))))

-- the need that a reply names
abbrev pub need_of : Reply → ℕ
need_of (NeedNotLive need) = need
need_of _ = 0

-- the state of a number
abbrev pub state_at : ℕ → Option ModuleState
state_at number =
    if number == 16 then Some state.Absent
    else (if number == 17 then Some state.Loading
    else (if number == 18 then Some state.Live
    else (if number == 19 then Some state.Draining
    else (if number == 20 then Some state.Unloading
    else None))))

-- the fault of a number
abbrev pub fault_at : ℕ → Option Refusal
fault_at number =
    if number == 24 then Some bad
    else (if number == 25 then Some duplicate
    else (if number == 26 then Some twice_exported
    else (if number == 27 then Some too_many
    else None)))

-- the worker holds no reference
abbrev pub not_held : ℕ
not_held = 3

-- no memory was left
abbrev pub out_of_memory : ℕ
out_of_memory = 28

-- each of the tries was missed
abbrev pub busy : ℕ
busy = 32

-- the slot or the place is none of the table
abbrev pub out_of_range : ℕ
out_of_range = 33

-- no module has the name
abbrev pub unknown_name : ℕ
unknown_name = 34

-- the buffer is too short for the name
abbrev pub too_short : ℕ
too_short = 35

-- more leaves than a row can count
abbrev pub too_many_leaves : ℕ
too_many_leaves = 36
