-- A kernel in memory, and what happened to it.
use Rattle.std.specs.Prelude.{◌≡◌, ◌==◌, ◌||◌, ◌&&◌, not, ℕ, Bool, true, false, List, [], ◌∷◌, map, slice_index_or}
use Rattle.hold_turns.specs.Events.{Event, Loaded, Removed, Asked, Begun, GivesBack}
use Rattle.hold_machine.specs.declared.log.Log.{Log}
use Rattle.hold_machine.specs.declared.kernel.Note.{Note}
use Rattle.hold_machine.specs.declared.kernel.Note.TheVariants as notes
use Rattle.hold_machine.specs.Log.{newest_first}

-- the event of a note
abbrev pub event_of : Note → Event
event_of (notes.Loaded m) = Loaded m
event_of (notes.Removed m) = Removed m
event_of (notes.Asked call holder modules) = Asked call (newest_first holder) (newest_first modules)
event_of (notes.Begun call holder modules) = Begun call (newest_first holder) (newest_first modules)
event_of (notes.GivesBack holder modules) = GivesBack (newest_first holder) (newest_first modules)

-- the events that were noted, the newest first
abbrev pub events_of : Log Note → List Event
events_of log = map event_of (newest_first log)

-- the kernel has the module, as hold_turns' IsIn says
abbrev pub is_in : List Event → ℕ → Bool
is_in [] m = false
is_in (Loaded n ∷ before) m = (n == m) || is_in before m
is_in (Removed n ∷ before) m = not (n == m) && is_in before m
is_in (Asked call holder modules ∷ before) m = is_in before m
is_in (Begun call holder modules ∷ before) m = is_in before m
is_in (GivesBack holder modules ∷ before) m = is_in before m

-- the list of a kernel's modules shows what happened
abbrev pub ShowsWhatIsIn : List Bool → List Event → Type 0
ShowsWhatIsIn has events = (m : ℕ) → slice_index_or has m false ≡ is_in events m
