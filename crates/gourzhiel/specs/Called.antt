-- How a managed call on the handle of a caller ended: the caller before, the number that is answered, the caller after.
use Rattle.std.specs.Prelude.{◌≡◌, ℕ, ◌==◌, true, List, Result, MatchBool}
use Rattle.dep_index.specs.declared.table.calls.Call.{Call}
use Rattle.dep_index.specs.declared.table.calls.Call.TheVariants.{BeginLoad}
use Rattle.dep_index.specs.declared.table.calls.Reply.{Reply}
use Rattle.dep_index.specs.declared.table.refusals.GetError.{GetError}
use Rattle.dep_index.specs.declared.table.refusals.BeginLoadError.{BeginLoadError}
use Rattle.dep_index.specs.declared.table.states.ModuleState.{ModuleState}
use Rattle.dep_index.specs.Refusals.{reply_of, get_refusal, begin_load_refusal}
use Rattle.dep_index.specs.Table.{Module}
use Rattle.managed_table.specs.declared.attempt.Attempt.{Attempt}
use Rattle.managed_table.specs.Attempts.{LeafEnded, BookEnded, LeafDid, BookDid, LeafShows, BookShows, GetGivenUp, GetDid}
use Rattle.managed_table.specs.Callers.{CallerIs, IsFirst, GaveFurther, LeafMissed, BookMissed}
use Rattle.managed_table.specs.Shown.{HoldsSoOften, IsInState, HasLoaded, HasLoadedAt, HasNoneAt}
use Rattle.managed_table.specs.Owned.{row_of, IsBeyond, IsWithin}
use Rattle.gourzhiel.specs.Making.{NoneMade}
use Rattle.gourzhiel.specs.Numbers.{busy, out_of_range, out_of_memory}
use Rattle.gourzhiel.specs.Endings.{IsNumberOf, IsNumberOfState, NeedTold}
use Rattle.gourzhiel.specs.declared.handles.GzCaller.{GzCaller}

-- a call of a leaf, whose refusals are these replies: it ended so, and the number says how
abbrev pub LeafCallEnded : {E : Type 0} → (E → Reply) → CallerIs → ℕ → ℕ → ℕ → Call → ℕ → CallerIs → Type 0
LeafCallEnded {E} refusal before worker slot tries call number after =
    (ended : Attempt (Result (Unit {0}) E)) × IsNumberOf refusal ended number
    × LeafEnded worker slot tries ⊥ (λ answer. LeafDid worker call before after (reply_of refusal answer)) before ended after

-- a get, which may also be given up once it has the lock
abbrev pub GetCallEnded : CallerIs → ℕ → ℕ → ℕ → ℕ → CallerIs → Type 0
GetCallEnded before worker slot tries number after =
    (ended : Attempt (Result (Unit {0}) GetError)) × IsNumberOf get_refusal ended number
    × LeafEnded worker slot tries (GetGivenUp worker slot tries before after) (λ answer. GetDid worker slot tries before after (reply_of get_refusal answer)) before ended after

-- a call of the book
abbrev pub BookCallEnded : {E : Type 0} → (E → Reply) → CallerIs → ℕ → ℕ → Call → ℕ → CallerIs → Type 0
BookCallEnded {E} refusal before slot tries call number after =
    (ended : Attempt (Result (Unit {0}) E)) × IsNumberOf refusal ended number
    × BookEnded slot tries (λ answer. BookDid call before after (reply_of refusal answer)) before ended after

-- the begin of a load, which also tells the need that is not live
abbrev pub BeginLoadCallEnded : CallerIs → ℕ → ℕ → ℕ → ℕ → ℕ → CallerIs → Type 0
BeginLoadCallEnded before slot tries was number need after =
    (ended : Attempt (Result (Unit {0}) BeginLoadError)) × IsNumberOf begin_load_refusal ended number × NeedTold ended was need
    × BookEnded slot tries (λ answer. BookDid (BeginLoad slot) before after (reply_of begin_load_refusal answer)) before ended after

-- how often a worker holds a slot, or what was there
abbrev pub HeldTold : CallerIs → ℕ → ℕ → ℕ → ℕ → ℕ → ℕ → CallerIs → Type 0
HeldTold before worker slot tries was number count after =
    MatchBool (number == out_of_range) (IsBeyond before worker slot × (after ≡ before) × (count ≡ was))
    (IsWithin before worker slot × MatchBool (number == busy) (LeafMissed worker tries before after × (count ≡ was))
    ((number ≡ 0) × LeafShows worker (HoldsSoOften worker slot count) before after))

-- the state of a module
abbrev pub StateCallTold : CallerIs → ℕ → ℕ → ℕ → CallerIs → Type 0
StateCallTold before slot tries number after =
    (ended : Attempt ModuleState) × IsNumberOfState ended number
    × BookEnded slot tries (λ state. BookShows (IsInState slot state) before after) before ended after

-- how many modules are loaded, or what was there
abbrev pub LoadedTold : CallerIs → ℕ → ℕ → ℕ → ℕ → CallerIs → Type 0
LoadedTold before tries was number count after =
    MatchBool (number == busy) (BookMissed tries before after × (count ≡ was)) ((number ≡ 0) × BookShows (HasLoaded count) before after)

-- the slot of the loaded module at a place, or what was there
abbrev pub PlaceCallTold : CallerIs → ℕ → ℕ → ℕ → ℕ → ℕ → CallerIs → Type 0
PlaceCallTold before place tries was number slot after =
    MatchBool (number == busy) (BookMissed tries before after × (slot ≡ was))
    (MatchBool (number == out_of_range) (BookShows (HasNoneAt place) before after × (slot ≡ was))
    ((number ≡ 0) × BookShows (HasLoadedAt place slot) before after))

-- the first caller of a table over these modules, with so many workers, which has done nothing, and from which none came
abbrev pub IsNewCaller : List Module → ℕ → CallerIs → Type 0
IsNewCaller modules workers caller = ((row_of caller).world ≡ record { catalogue = modules; workers = workers }) × IsFirst caller

-- the handle after a table was made: it is full, with the first caller; or it was not touched, and the number says why
abbrev pub CallerMade : List Module → ℕ → ℕ → GzCaller → GzCaller → Type 0
CallerMade modules workers number none caller =
    MatchBool (number == 0) ((caller.full ≡ true) × IsNewCaller modules workers caller.held)
    ((caller ≡ none) × NoneMade workers number)

-- a further caller came from one, and its handle is full; or nothing was done, and there was no memory
abbrev pub FurtherMade : CallerIs → CallerIs → ℕ → GzCaller → GzCaller → Type 0
FurtherMade before after number none further =
    MatchBool (number == 0) ((further.full ≡ true) × GaveFurther before after further.held)
    ((after ≡ before) × (further ≡ none) × (number ≡ out_of_memory))
