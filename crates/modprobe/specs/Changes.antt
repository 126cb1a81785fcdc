-- What a command makes of the table: calls on one module, one after another.
use Rattle.std.specs.Prelude.{ℕ, Bool, true, false, if◌then◌else◌, List, Option, Some, None}
use Rattle.dep_index.specs.Table.{Table, state_of, is_draining}
use Rattle.dep_index.specs.Catalogue.{description_at, modules_of}
use Rattle.dep_index.specs.Calls.{reply, next}
use Rattle.dep_index.specs.declared.table.calls.Call.{Call}
use Rattle.dep_index.specs.declared.table.calls.Call.TheVariants as call
use Rattle.dep_index.specs.declared.table.calls.Reply.{Reply}
use Rattle.dep_index.specs.declared.table.calls.Reply.TheVariants as reply_is
use Rattle.load_plan.specs.Parameters.{are_valid}
use Rattle.modprobe.specs.declared.refusal.Code.{Code}
use Rattle.modprobe.specs.declared.refusal.Code.TheVariants.{Einval}
use Rattle.modprobe.specs.declared.half.Half.{Half}
use Rattle.modprobe.specs.declared.half.Half.TheVariants as half_is
use Rattle.modprobe.specs.Setup.{Setup, name_at}
use Rattle.modprobe.specs.Refusals.{Refusal, refuse, code_of, unload_code}

-- a change of the table: a refusal, if it met one, and the table that it leaves
abbrev pub Change : Type 0
Change = Option Refusal × Table

-- a second change on the table of the first, unless that was refused
infixr 10 ◌then◌
abbrev pub ◌then◌ : Change → (Table → Change) → Change
(None, t) then f = f t
(Some r, t) then f = (Some r, t)

-- the refusal of a call on a module; that of a need which is not live names the need
abbrev pub refusal_of : Setup → (Reply → Code) → ℕ → Reply → Option Refusal
refusal_of s code slot reply_is.Done = None
refusal_of s code slot (reply_is.NeedNotLive n) = refuse (code (reply_is.NeedNotLive n)) (name_at s n)
refusal_of s code slot r = refuse (code r) (name_at s slot)

-- one call on the table
abbrev pub call_change : Setup → (Reply → Code) → ℕ → Call → Table → Change
call_change s code slot call t =
    (refusal_of s code slot (reply (modules_of s.catalogue) t call), next (modules_of s.catalogue) t call)

-- the end of a load; if a parameter has no good value the load fails, and the module leaves the table
abbrev pub end_of_load : Setup → ℕ → Bool → Table → Change
end_of_load s slot true t = call_change s code_of slot (call.EndLoad slot true) t
end_of_load s slot false t = call_change s code_of slot (call.EndLoad slot false) t then (λ u. (refuse Einval (name_at s slot), u))

-- a load is two calls; after the first the words of the parameters are looked at
abbrev pub one_load : Setup → ℕ → List (List ℕ) → Table → Change
one_load s slot words t =
    call_change s code_of slot (call.BeginLoad slot) t then (λ u. end_of_load s slot (are_valid (description_at s.catalogue slot) words) u)

-- a removal is two calls, and the second alone if the module is draining
abbrev pub one_removal : Setup → ℕ → Table → Change
one_removal s slot t =
    if is_draining (state_of t.book slot) then call_change s unload_code slot (call.EndRemove slot) t
    else (call_change s unload_code slot (call.BeginRemove slot) t then (λ u. call_change s unload_code slot (call.EndRemove slot) u))

-- one of the calls of a load or of a removal
abbrev pub half_change : Setup → ℕ → Half → Table → Change
half_change s slot half_is.BeginLoad t = call_change s code_of slot (call.BeginLoad slot) t
half_change s slot (half_is.EndLoad ok) t = call_change s code_of slot (call.EndLoad slot ok) t
half_change s slot half_is.BeginRemove t = call_change s unload_code slot (call.BeginRemove slot) t
half_change s slot half_is.EndRemove t = call_change s unload_code slot (call.EndRemove slot) t
half_change s slot half_is.CancelRemove t = call_change s unload_code slot (call.CancelRemove slot) t
