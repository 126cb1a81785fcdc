-- How the line of a reply ends.
use Rattle.std.specs.Prelude.{ℕ, List, if◌then◌else◌, codes, Option, Some, None}
use Rattle.std.specs.Str.{bytes_eq}
use Rattle.modprobe.specs.declared.refusal.Code.{Code}
use Rattle.modprobe.specs.declared.refusal.Code.TheVariants.{Enoent, Eexist, Einval, UnknownSymbol, NeedNotLive, Ewouldblock, Ebusy, NotLive, TooMany, NotHeld, Cycle, Install, Remove, Worker, Syntax}
use Rattle.modprobe.specs.Outcomes.{Outcome, text_of, why_refused}
use Rattle.modprobe.specs.Refusals.{Refusal}
use Rattle.table_words.specs.declared.ending.Ending.{Ending}
use Rattle.table_words.specs.declared.ending.Ending.TheVariants as ending

-- a kind of refusal has a status of its own
abbrev pub ending_of_code : Code → Ending
ending_of_code Syntax = ending.Unasked
ending_of_code Enoent = ending.Absent
ending_of_code Ewouldblock = ending.InUse
ending_of_code NotLive = ending.NotLive
ending_of_code NeedNotLive = ending.NotLive
ending_of_code Ebusy = ending.NotLive
ending_of_code Eexist = ending.Exists
ending_of_code NotHeld = ending.NotHeld
ending_of_code Einval = ending.BadParameter
ending_of_code Cycle = ending.NoPlan
ending_of_code Install = ending.NoPlan
ending_of_code Remove = ending.NoPlan
ending_of_code UnknownSymbol = ending.NoPlan
ending_of_code TooMany = ending.TooMany
ending_of_code Worker = ending.TooMany

-- a line that is not refused was done, unless its answer is `no`
abbrev pub ending_of_text : List ℕ → Option Refusal → Ending
ending_of_text text (Some refusal) = ending_of_code refusal.code
ending_of_text text None = if bytes_eq text (codes "no\n") then ending.No else ending.Done

abbrev pub ending_of_outcome : Outcome → Ending
ending_of_outcome outcome = ending_of_text (text_of outcome) (why_refused outcome)
