-- The root words, and what one step on a word does. The words are a root of SNZI, with Arrive (get), Depart (put) and
-- Query: Ellen, Lev, Luchangco, Moir, "SNZI: Scalable NonZero Indicators", PODC 2007.
use Rattle.std.specs.Prelude.{◌≡◌, ◌≢◌, ◌<◌, length, ℕ, ◌+◌, ◌-◌, ◌==◌, nat_lt, Bool, true, List, Option, Some, None, if◌then◌else◌}
use Rattle.dep_index.specs.declared.table.states.ModuleState.{ModuleState}
use Rattle.dep_index.specs.declared.table.states.ModuleState.TheVariants.{Live, Draining}
use Rattle.dep_index.specs.declared.table.calls.Call.{Call}
use Rattle.dep_index.specs.declared.table.calls.Call.TheVariants.{Get, Put, InUse as Query, EndLoad, BeginDrain, BeginRemove, EndRemove, CancelRemove}
use Rattle.dep_index.specs.declared.table.calls.Reply.{Reply}
use Rattle.dep_index.specs.declared.table.calls.Reply.TheVariants.{Done, Yes, No, NotLive, TooMany, NotHeld, InUse}
pub use Rattle.dep_index.specs.declared.words.Outcome.{Outcome}
pub use Rattle.dep_index.specs.declared.words.Outcome.TheVariants.{Effect, GoesOn}
pub use Rattle.dep_index.specs.declared.words.WordStep.{WordStep}
use Rattle.dep_index.specs.Table.{Module, Book, Table, state_of, is_draining, count_of, holders}
use Rattle.dep_index.specs.Calls.{book_refusal, reply, next, slot_of, IsInRange}
use Rattle.dep_index.specs.Laws.{IsShaped, IsLawful}

-- Open n is n, Closed is 2^32 and Drain n is 2^33 + n, n the workers that hold the slot
abbrev pub closed : ℕ
closed = 4294967296

-- what a Draining module's word has beside the number of its holders
abbrev pub drained : ℕ
drained = 8589934592

-- the word of a module in a state, held by so many workers
abbrev pub word_in : ModuleState → ℕ → ℕ
word_in Live n = n
word_in Draining n = drained + n
word_in _ n = closed

-- the word that belongs to a slot of the table
abbrev pub word_of : Table → ℕ → ℕ
word_of table m = word_in (state_of table.book m) (holders table.rows m)

-- the word of a Live module
abbrev pub is_open : ℕ → Bool
is_open word = nat_lt word closed

-- some worker holds the module, Live or Draining
abbrev pub shows_holders : ℕ → Bool
shows_holders word = if is_open word then nat_lt 0 word else nat_lt drained word

-- the call takes effect, with this reply
abbrev pub takes_effect : ℕ → Reply → WordStep
takes_effect word reply = record { word = word; outcome = Effect reply }

-- get: a load, by a leaf that holds the slot so often
abbrev pub get_look : ℕ → ℕ → WordStep
get_look count word =
    if is_open word
    then (if count == 0
    then record { word = word; outcome = GoesOn word }
    else takes_effect word (if nat_lt count 65535 then Done else TooMany))
    else takes_effect word NotLive

-- put: the last reference departs from the word, every other is put back at the leaf alone
abbrev pub put_step : ℕ → ℕ → WordStep
put_step count word =
    if count == 0
    then takes_effect word NotHeld
    else takes_effect (if count == 1 then word - 1 else word) Done

-- query: a load
abbrev pub query_look : ℕ → WordStep
query_look word = takes_effect word (if shows_holders word then Yes else No)

-- exchange this word, if it is found, by closed: made, the call is done; missed, there are references
abbrev pub close_step : ℕ → ℕ → WordStep
close_step expected word = if word == expected then takes_effect closed Done else takes_effect word InUse

-- a call of the book that the book does not refuse
abbrev pub book_step : Book → Call → ℕ → WordStep
book_step book (EndLoad m true) word = takes_effect (if word == closed then 0 else word) Done
book_step book (BeginDrain m) word = takes_effect (word + drained) Done
book_step book (BeginRemove m) word = close_step 0 word
book_step book (EndRemove m) word =
    if is_draining (state_of book m) then close_step drained word else takes_effect word Done
book_step book (CancelRemove m) word =
    if is_draining (state_of book m)
    then takes_effect (word - drained) Done
    else takes_effect (if word == closed then 0 else word) Done
book_step book _ word = takes_effect word Done

-- a refusal takes effect and leaves the word
abbrev pub unless_refused : Option Reply → ℕ → WordStep → WordStep
unless_refused None word step = step
unless_refused (Some reply) word step = takes_effect word reply

-- the step on its slot's word that a call makes first, over the book and the counts as they are written
abbrev pub word_step : List Module → Table → Call → ℕ → WordStep
word_step catalogue table (Get w m) word = get_look (count_of table w m) word
word_step catalogue table (Put w m) word = put_step (count_of table w m) word
word_step catalogue table (Query m) word = query_look word
word_step catalogue table call word =
    unless_refused (book_refusal catalogue table.book call) word (book_step table.book call word)

-- get: the exchange, by a leaf that does not hold the slot; if it misses, the word is looked at again
abbrev pub arrive : ℕ → ℕ → ℕ
arrive expected word = if word == expected then word + 1 else word

-- a fact for each outcome
abbrev pub MatchOutcome : Outcome → (Reply → Type 0) → (ℕ → Type 0) → Type 0
MatchOutcome (Effect reply) P Q = P reply
MatchOutcome (GoesOn word) P Q = Q word

-- the first step of a call on its slot's word is right: if it takes effect, it answers what the table answers and leaves
-- the word that belongs to the next table; if it goes on, the call will be Done, and one more on the word is the next one
abbrev pub IsRightStep : List Module → Table → Call → WordStep → Type 0
IsRightStep catalogue table call step =
    MatchOutcome step.outcome
    (λ r. (r ≡ reply catalogue table call) × (step.word ≡ word_of (next catalogue table call) (slot_of call)))
    (λ word.
    (reply catalogue table call ≡ Done)
    × (word ≡ word_of table (slot_of call))
    × (step.word ≡ word)
    × (is_open word ≡ true)
    × (word_of (next catalogue table call) (slot_of call) ≡ word + 1))

-- each call's first step on a word is right if the word belongs to its slot, and no call changes what belongs to another slot
abbrev pub WordStepsAreRight : Type 0
WordStepsAreRight =
    (catalogue : List Module) (workers : ℕ) (table : Table) (call : Call) → IsShaped (length catalogue) workers table
    → workers < closed → IsLawful catalogue table → IsInRange (length catalogue) workers call
    → IsRightStep catalogue table call (word_step catalogue table call (word_of table (slot_of call)))
    × ((m : ℕ) → m ≢ slot_of call → word_of (next catalogue table call) m ≡ word_of table m)
