-- Legal histories: lists of calls with what they answered, and why removals are safe in them (a legal sequential
-- history of Herlihy and Wing, "Linearizability", TOPLAS 1990).
use Rattle.std.specs.Prelude.{◌≡◌, ◌≢◌, ℕ, List, [], ◌∷◌, ◌++◌, map}
use Rattle.dep_index.specs.declared.table.states.ModuleState.TheVariants.{Live}
use Rattle.dep_index.specs.declared.table.calls.Call.{Call}
use Rattle.dep_index.specs.declared.table.calls.Call.TheVariants.{Get, CancelRemove}
use Rattle.dep_index.specs.declared.table.calls.Reply.{Reply}
use Rattle.dep_index.specs.declared.table.calls.Reply.TheVariants.{Done, NotLive}
use Rattle.dep_index.specs.Table.{Module, Table, state_of, pairs, users}
use Rattle.dep_index.specs.Calls.{after, opening, replies}
use Rattle.dep_index.specs.Laws.{AllInRange, IsRemoval, IsShutting, IsReviving}

-- a call and what it answered
pub record Answer : Type 0 where
  pub call : Call
  pub reply : Reply

-- the calls of a history
abbrev pub calls_in : List Answer → List Call
calls_in history = map (λ (a : Answer). a.call) history

-- the replies of a history
abbrev pub replies_in : List Answer → List Reply
replies_in history = map (λ (a : Answer). a.reply) history

-- a history is legal: its calls are in range, and each answers what the one-thread table answers
pub record IsLegal (catalogue : List Module) (workers : ℕ) (history : List Answer) : Type 0 where
  pub range : AllInRange catalogue workers (calls_in history)
  pub replay : replies catalogue (opening catalogue workers) (calls_in history) ≡ replies_in history

-- the table after a history
abbrev pub table_after : List Module → ℕ → List Answer → Table
table_after catalogue workers history = after catalogue (opening catalogue workers) (calls_in history)

-- no answer of these makes m Live again
abbrev pub NoneRevives : ℕ → List Answer → Type 0
NoneRevives m [] = Unit {0}
NoneRevives m (a ∷ later) = (IsReviving m a.call → a.reply ≢ Done) × NoneRevives m later

-- a removal of m that answers Ok finds no reference to m and no module of the table that needs it; after a removal or a
-- drain of m that answers Ok no get of m succeeds, until m is Live again; and a removal or a drain of m that is called off
-- with Ok leaves m Live, and all references as they were
pub record RemovalsAreSafe (catalogue : List Module) (workers : ℕ) (history : List Answer) : Type 0 where
  pub unused : (before later : List Answer) (removal : Answer) (m : ℕ)
      → history ≡ before ++ removal ∷ later → IsRemoval m removal.call → removal.reply ≡ Done
      → (pairs (table_after catalogue workers before).rows m ≡ 0)
      × (users catalogue (table_after catalogue workers before).book m ≡ [])
  pub shut : (before later between rest : List Answer) (shutting get : Answer) (m w : ℕ)
      → history ≡ before ++ shutting ∷ later → IsShutting m shutting.call → shutting.reply ≡ Done
      → later ≡ between ++ get ∷ rest → NoneRevives m between → get.call ≡ Get w m
      → get.reply ≡ NotLive
  pub called_off : (before later : List Answer) (cancel : Answer) (m : ℕ)
      → history ≡ before ++ cancel ∷ later → cancel.call ≡ CancelRemove m → cancel.reply ≡ Done
      → (state_of (table_after catalogue workers (before ++ cancel ∷ [])).book m ≡ Live)
      × ((table_after catalogue workers (before ++ cancel ∷ [])).rows ≡ (table_after catalogue workers before).rows)

-- the law: in every legal history removals are safe
abbrev pub LegalIsSafe : Type 0
LegalIsSafe =
    (catalogue : List Module) (workers : ℕ) (history : List Answer) → IsLegal catalogue workers history
    → RemovalsAreSafe catalogue workers history
