-- How the program ends, and with which status.
use Rattle.std.specs.Prelude.{ℕ, Bool, true, false, if◌then◌else◌, List, find, ◌==◌, Option, Some, None, unwrap_or}
use Rattle.table_words.specs.declared.ending.Ending.{Ending}
use Rattle.table_words.specs.declared.ending.Ending.TheVariants.{Done, No, Unasked, Fault, Locked, Absent, InUse, NotLive, Exists, NotHeld, BadParameter, NoPlan, TooMany}

abbrev pub number_of : Ending → ℕ
number_of Done = 0
number_of No = 1
number_of Unasked = 2
number_of Fault = 3
number_of Locked = 4
number_of Absent = 10
number_of InUse = 11
number_of NotLive = 12
number_of Exists = 13
number_of NotHeld = 15
number_of BadParameter = 16
number_of NoPlan = 17
number_of TooMany = 18

-- the ending that a status says
abbrev pub ending_of : ℕ → Option Ending
ending_of number =
    if number == 0 then Some Done
    else (if number == 1 then Some No
    else (if number == 2 then Some Unasked
    else (if number == 3 then Some Fault
    else (if number == 4 then Some Locked
    else (if number == 10 then Some Absent
    else (if number == 11 then Some InUse
    else (if number == 12 then Some NotLive
    else (if number == 13 then Some Exists
    else (if number == 15 then Some NotHeld
    else (if number == 16 then Some BadParameter
    else (if number == 17 then Some NoPlan
    else (if number == 18 then Some TooMany else None))))))))))))

-- an answer is no refusal, also if it is no
abbrev pub is_refusal : Ending → Bool
is_refusal Done = false
is_refusal No = false
is_refusal _ = true

-- of several lines the first that was refused counts
abbrev pub ending_of_lines : List Ending → Ending
ending_of_lines endings = unwrap_or (find is_refusal endings) Done

-- how several lines end, with one more
abbrev pub behind : Ending → Ending → Ending
behind ending next = if is_refusal ending then ending else (if is_refusal next then next else Done)
