-- What a session answers: the outcome of each line, the replies that are written, and the table after them.
use Rattle.std.specs.Prelude.{ℕ, ◌+◌, nat_lt, if◌then◌else◌, List, [], ◌∷◌, ◌++◌, length, codes, Option, Some, None}
use Rattle.dep_index.specs.Table.{Table, is_held}
use Rattle.dep_index.specs.Catalogue.{slot_named}
use Rattle.dep_index.specs.declared.table.calls.Call.{Call}
use Rattle.dep_index.specs.declared.table.calls.Call.TheVariants as call
use Rattle.proc_modules.specs.Listings.{lsmod_text, proc_text}
use Rattle.proc_modules.specs.Details.{modinfo_text}
use Rattle.modprobe.specs.declared.refusal.Code.TheVariants.{Enoent, Worker, Syntax}
use Rattle.modprobe.specs.declared.half.Half.{Half}
use Rattle.modprobe.specs.Commands.{Action, insmod, rmmod, drain, query, get, put, Request, act, modinfo, plan, modprobe, modprobe_remove, Command, nothing, malformed, by_name, lsmod, proc, command_of}
use Rattle.modprobe.specs.Setup.{Setup, name_at}
use Rattle.modprobe.specs.Refusals.{Refusal, code_of, unload_code}
use Rattle.modprobe.specs.Outcomes.{Outcome, says, refuses, refused, text_of, errors_of}
use Rattle.modprobe.specs.Changes.{Change, call_change, one_load, one_removal, half_change}
use Rattle.modprobe.specs.Plans.{whole_plan, plan_outcome}
use Rattle.modprobe.specs.Loads as loads

-- what a change is answered
abbrev pub done_or : Option Refusal → Outcome
done_or None = says (codes "ok" ++ 10 ∷ [])
done_or (Some r) = refuses r

abbrev pub change_outcome : Change → Outcome × Table
change_outcome change = (done_or change.0, change.1)

-- a worker out of range comes before the refusals of the call
abbrev pub by_worker : Setup → ℕ → ℕ → Call → Table → Outcome × Table
by_worker s worker slot call t =
    if nat_lt worker (length t.rows) then change_outcome (call_change s code_of slot call t) else (refused Worker (name_at s slot), t)

-- an action on the module of a slot
abbrev pub action_outcome : Setup → ℕ → Action → Table → Outcome × Table
action_outcome s slot (insmod words) t = change_outcome (one_load s slot words t)
action_outcome s slot rmmod t = change_outcome (one_removal s slot t)
action_outcome s slot drain t = change_outcome (call_change s unload_code slot (call.BeginDrain slot) t)
action_outcome s slot query t = (says (if is_held t slot then codes "yes" ++ 10 ∷ [] else codes "no" ++ 10 ∷ []), t)
action_outcome s slot (get worker) t = by_worker s worker slot (call.Get worker slot) t
action_outcome s slot (put worker) t = by_worker s worker slot (call.Put worker slot) t

-- a name outside the catalogue comes before all else
abbrev pub named_outcome : Setup → List ℕ → Option ℕ → Action → Table → Outcome × Table
named_outcome s name None action t = (refused Enoent name, t)
named_outcome s name (Some slot) action t = action_outcome s slot action t

-- what modinfo(8) tells of the module of a slot
abbrev pub details : Setup → List ℕ → Option ℕ → Outcome
details s name None = refused Enoent name
details s name (Some slot) = says (modinfo_text s.catalogue slot)

-- what a request by a name is answered, and the table after it
abbrev pub request_outcome : Setup → List ℕ → Request → Table → Outcome × Table
request_outcome s name (act action) t = named_outcome s name (slot_named s.catalogue name) action t
request_outcome s name modinfo t = (details s name (slot_named s.catalogue name), t)
request_outcome s name plan t = (plan_outcome s (whole_plan s name), t)
request_outcome s name (modprobe words) t = change_outcome (loads.modprobe s name words t)
request_outcome s name modprobe_remove t = change_outcome (loads.modprobe_remove s name t)

-- what a command is answered, and the table after it
abbrev pub command_outcome : Setup → Command → Table → Outcome × Table
command_outcome s nothing t = (says [], t)
command_outcome s (malformed first) t = (refused Syntax first, t)
command_outcome s (by_name name request) t = request_outcome s name request t
command_outcome s lsmod t = (says (lsmod_text s.catalogue t), t)
command_outcome s proc t = (says (proc_text s.catalogue t), t)

-- what a line is answered, and the table after it
unfoldable pub line_outcome : Setup → Table → List ℕ → Outcome × Table
line_outcome s t line = command_outcome s (command_of line) t

-- the reply to a line, as it is written, and the table after it
abbrev pub line_reply : Setup → Table → List ℕ → List ℕ × Table
line_reply s t line = (text_of (line_outcome s t line).0, (line_outcome s t line).1)

abbrev pub before_rest : List ℕ → List ℕ × Table → List ℕ × Table
before_rest text rest = (text ++ rest.0, rest.1)

-- the replies to lines, and the table after them
abbrev pub answer : Setup → Table → List (List ℕ) → List ℕ × Table
answer s t [] = ([], t)
answer s t (line ∷ lines) = before_rest (line_reply s t line).0 (answer s (line_reply s t line).1 lines)

-- how many lines are refused
abbrev pub error_count : Setup → Table → List (List ℕ) → ℕ
error_count s t [] = 0
error_count s t (line ∷ lines) = errors_of (line_outcome s t line).0 + error_count s (line_outcome s t line).1 lines

abbrev pub half_at : Setup → List ℕ → Option ℕ → Half → Table → Outcome × Table
half_at s name None half t = (refused Enoent name, t)
half_at s name (Some slot) half t = change_outcome (half_change s slot half t)

-- what half of a load or of a removal is answered by the name of its module, and the table after it
abbrev pub half_outcome : Setup → List ℕ → Half → Table → Outcome × Table
half_outcome s name half t = half_at s name (slot_named s.catalogue name) half t
