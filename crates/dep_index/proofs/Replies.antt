-- The table after one list of calls and another, and what a call's reply says of the next table.
use Rattle.std.proofs.Common.{◌≡◌, ℕ, Bool, true, false, cond, List, [], ◌∷◌, ◌++◌, Option, Some, None, refl, sym, ◌∙◌, ap}
use Rattle.std.proofs.lemmas.Bool.{false≢true}
use Rattle.std.specs.Option.{is_some, unwrap_or}
use Rattle.dep_index.specs.declared.table.calls.Call.{Call}
use Rattle.dep_index.specs.declared.table.calls.Call.TheVariants.{Get, Put, InUse as Query, BeginLoad, EndLoad, BeginDrain, BeginRemove, EndRemove, CancelRemove}
use Rattle.dep_index.specs.declared.table.calls.Reply.{Reply}
use Rattle.dep_index.specs.declared.table.calls.Reply.TheVariants.{Done, Yes, No, NotLive, TooMany, NotHeld, Exists, UnknownSymbol, NeedNotLive, NotLoading, NoEntry, NeededBy, Permanent, InUse, NotUnloading}
use Rattle.dep_index.specs.Table.{Module, Table, is_held}
use Rattle.dep_index.specs.Calls.{refusal, effect, answer, reply, next, after, replies, is_done}
use Rattle.dep_index.specs.Laws.{IsShaped, AllInRange}
use Rattle.dep_index.proofs.RunLaws.{refusal_done, next_shaped}

pub after_append : (catalogue : List Module) (table : Table) (xs ys : List Call) → after catalogue table (xs ++ ys) ≡ after catalogue (after catalogue table xs) ys
after_append catalogue table [] ys = refl
after_append catalogue table (x ∷ xs) ys = after_append catalogue (next catalogue table x) xs ys

pub replies_append : (catalogue : List Module) (table : Table) (xs ys : List Call)
    → replies catalogue table (xs ++ ys) ≡ replies catalogue table xs ++ replies catalogue (after catalogue table xs) ys
replies_append catalogue table [] ys = refl
replies_append catalogue table (x ∷ xs) ys = ap (λ l. reply catalogue table x ∷ l) (replies_append catalogue (next catalogue table x) xs ys)

pub range_append : (catalogue : List Module) (workers : ℕ) (xs ys : List Call) → AllInRange catalogue workers xs → AllInRange catalogue workers ys → AllInRange catalogue workers (xs ++ ys)
range_append catalogue workers [] ys left right = right
range_append catalogue workers (x ∷ xs) ys left right = (left.0, range_append catalogue workers xs ys left.1 right)

-- the shape needs no range
pub after_shaped : (slots workers : ℕ) (catalogue : List Module) (table : Table) (calls : List Call) → IsShaped slots workers table → IsShaped slots workers (after catalogue table calls)
after_shaped slots workers catalogue table [] shape = shape
after_shaped slots workers catalogue table (call ∷ calls) shape = after_shaped slots workers catalogue (next catalogue table call) calls (next_shaped slots workers catalogue table call shape)

pub is_done-true : (r : Reply) → is_done r ≡ true → r ≡ Done
is_done-true Done e = refl
is_done-true Yes e = absurd (false≢true e)
is_done-true No e = absurd (false≢true e)
is_done-true NotLive e = absurd (false≢true e)
is_done-true TooMany e = absurd (false≢true e)
is_done-true NotHeld e = absurd (false≢true e)
is_done-true Exists e = absurd (false≢true e)
is_done-true UnknownSymbol e = absurd (false≢true e)
is_done-true (NeedNotLive n) e = absurd (false≢true e)
is_done-true NotLoading e = absurd (false≢true e)
is_done-true NoEntry e = absurd (false≢true e)
is_done-true NeededBy e = absurd (false≢true e)
is_done-true Permanent e = absurd (false≢true e)
is_done-true InUse e = absurd (false≢true e)
is_done-true NotUnloading e = absurd (false≢true e)

query_same : (table : Table) (b : Bool) → table ≡ cond (is_done (cond b Yes No)) table table
query_same table true = refl
query_same table false = refl

answer_same : (table : Table) (call : Call) → effect table call ≡ cond (is_done (answer table call)) (effect table call) table
answer_same table (Get w m) = refl
answer_same table (Put w m) = refl
answer_same table (Query m) = query_same table (is_held table m)
answer_same table (BeginLoad m) = refl
answer_same table (EndLoad m ok) = refl
answer_same table (BeginDrain m) = refl
answer_same table (BeginRemove m) = refl
answer_same table (EndRemove m) = refl
answer_same table (CancelRemove m) = refl

-- if the reply is Done the call has its effect, and any other changes nothing
pub next_is : (catalogue : List Module) (table : Table) (call : Call) → next catalogue table call ≡ cond (is_done (reply catalogue table call)) (effect table call) table
next_is catalogue table call = at (refusal catalogue table call) refl where
  refused : (r : Reply) → refusal catalogue table call ≡ Some r → (b : Bool) → is_done r ≡ b → table ≡ cond b (effect table call) table
  refused r e true d = absurd (refusal_done catalogue table call (e ∙ ap Some (is_done-true r d)))
  refused r e false d = refl

  at : (o : Option Reply) → refusal catalogue table call ≡ o → next catalogue table call ≡ cond (is_done (reply catalogue table call)) (effect table call) table
  at None e =
      ap (λ (o : Option Reply). cond (is_some o) table (effect table call)) e
      ∙ answer_same table call
      ∙ ap (λ (o : Option Reply). cond (is_done (unwrap_or o (answer table call))) (effect table call) table) (sym e)
  at (Some r) e =
      ap (λ (o : Option Reply). cond (is_some o) table (effect table call)) e
      ∙ refused r e (is_done r) refl
      ∙ ap (λ (o : Option Reply). cond (is_done (unwrap_or o (answer table call))) (effect table call) table) (sym e)

-- a query changes nothing
pub query_keeps : (catalogue : List Module) (table : Table) (m : ℕ) → next catalogue table (Query m) ≡ table
query_keeps catalogue table m = refl
