-- What each step of the book tells.
use Rattle.std.specs.Prelude.{◌≡◌, ℕ, Bool, if◌then◌else◌, Option, Some, None, MatchOption}
use Rattle.dep_index.specs.declared.table.states.ModuleState.{ModuleState}
use Rattle.dep_index.specs.declared.table.states.ModuleState.TheVariants as state_is
use Rattle.dep_index.specs.declared.table.calls.Call.{Call}
use Rattle.dep_index.specs.declared.table.calls.Call.TheVariants as call_is
use Rattle.dep_index.specs.declared.table.calls.Reply.{Reply}
use Rattle.dep_index.specs.declared.table.calls.Reply.TheVariants.{Done, InUse}
use Rattle.dep_index.specs.Table.{Book, state_of, is_draining}
use Rattle.dep_index.specs.Calls.{or_else, book_refusal, book_given}
use Rattle.root_row.specs.declared.calls.BookCall.{BookCall}
use Rattle.root_row.specs.declared.calls.BookCall.TheVariants as book_is
use Rattle.root_row.specs.declared.view.World.{World}
use Rattle.root_row.specs.declared.view.Part.TheVariants as part_is
use Rattle.root_row.specs.declared.view.SeatName.TheVariants as name_is
use Rattle.root_row.specs.declared.view.View.{View}
use Rattle.root_row.specs.Views.{book_of}
use Rattle.root_row.specs.Steps.{Answered, word_after}

abbrev pub book_call : BookCall → ℕ → Call
book_call book_is.BeginLoad m = call_is.BeginLoad m
book_call (book_is.EndLoad ok) m = call_is.EndLoad m ok
book_call book_is.BeginDrain m = call_is.BeginDrain m
book_call book_is.BeginRemove m = call_is.BeginRemove m
book_call book_is.EndRemove m = call_is.EndRemove m
book_call book_is.CancelRemove m = call_is.CancelRemove m

-- what a look answers if the book does not refuse the call: nothing, if an exchange, an addition or a subtraction makes
-- the call
abbrev pub unrefused_look : Book → BookCall → ℕ → Option Reply
unrefused_look book book_is.BeginLoad m = Some Done
unrefused_look book (book_is.EndLoad ok) m = if ok then None else Some Done
unrefused_look book book_is.BeginDrain m = None
unrefused_look book book_is.BeginRemove m = None
unrefused_look book book_is.EndRemove m = if is_draining (state_of book m) then None else Some Done
unrefused_look book book_is.CancelRemove m = None

-- what a look answers
abbrev pub book_look : World → Book → BookCall → ℕ → Option Reply
book_look world book kind m = or_else (book_refusal world.catalogue book (book_call kind m)) (unrefused_look book kind m)

-- a call of the book was answered, and the states and the order are those after the answer
abbrev pub BookAnswered : View → ℕ → BookCall → Reply → View → Type 0
BookAnswered v m kind answer w =
    let call = book_call kind m in
    Answered v name_is.Book call answer (part_is.Book (book_given answer (book_of v) call)) w

-- at a point the call was answered, and the word is the table's; else the view stays
abbrev pub LookedBook : BookCall → ℕ → View → ℕ → View → Type 0
LookedBook kind m v found w =
    MatchOption (book_look v.world (book_of v) kind m)
    (w ≡ v)
    (λ answer. BookAnswered v m kind answer w × (found ≡ word_after w m))

-- the book refuses neither a drain nor a removal
abbrev pub MayLeave : View → ℕ → Type 0
MayLeave v m = book_refusal v.world.catalogue (book_of v) (call_is.BeginRemove m) ≡ None

-- the call that closes a slot: a removal that begins, or that ends a drain
abbrev pub closing : ModuleState → BookCall
closing state_is.Draining = book_is.EndRemove
closing _ = book_is.BeginRemove

-- the exchange of the word that shows no holder by Closed: made, the removal is Done; missed, it is InUse
abbrev pub TriedClose : BookCall → ℕ → View → Bool → View → Type 0
TriedClose kind m v made w = BookAnswered v m kind (if made then Done else InUse) w
