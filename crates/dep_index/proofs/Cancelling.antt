-- A removal that is begun and called off leaves the table as it was.
use Rattle.std.proofs.Common.{◌≡◌, ℕ, zero, suc, ◌<◌, Bool, false, not, ◌||◌, cond, List, [], ◌∷◌, length, get_or, Option, None, refl, sym, ◌∙◌, ap, subst, arith, inl, inr, get_or-set_same}
use Rattle.std.proofs.Math.ListN.{set}
use Rattle.std.proofs.lemmas.List.{set-set}
use Rattle.std.specs.Option.{is_some, unwrap_or}
use Rattle.dep_index.specs.declared.table.states.ModuleState.{ModuleState}
use Rattle.dep_index.specs.declared.table.states.ModuleState.TheVariants.{Absent, Live, Draining, Unloading}
use Rattle.dep_index.specs.declared.table.calls.Call.{Call}
use Rattle.dep_index.specs.declared.table.calls.Call.TheVariants.{BeginDrain, BeginRemove, CancelRemove}
use Rattle.dep_index.specs.declared.table.calls.Reply.{Reply}
use Rattle.dep_index.specs.declared.table.calls.Reply.TheVariants.{Done, InUse, NotUnloading}
use Rattle.dep_index.specs.Table.{Module, Table, state_of, is_draining, is_unloading, is_held}
use Rattle.dep_index.specs.Calls.{refuse, or_else, refusal, unload_refusal, effect, reply, next}
use Rattle.dep_index.specs.Laws.{CancelUndoes}
use Rattle.dep_index.proofs.TableLaws.{both_passed, unload_passed, live_from}
use Rattle.dep_index.proofs.RunLaws.{accepted}

-- a slot is set to the state that it has
set_own : (states : List ModuleState) (m : ℕ) (s : ModuleState) → get_or states m Absent ≡ s → m < length states → set states m s ≡ states
set_own [] m s e room = refl
set_own (x ∷ states) zero s e room = ap (λ (t : ModuleState). t ∷ states) (sym e)
set_own (x ∷ states) (suc m) s e room = ap (λ (l : List ModuleState). x ∷ l) (set_own states m s e (omega (arith, room)))

-- the table with other states
abbrev with_states : Table → List ModuleState → Table
with_states table states = record { book = record { states = states; order = table.book.order }; rows = table.rows }

-- what the last call comes to, from a table in which m is going
undone : (catalogue : List Module) (table : Table) (m : ℕ) (s : ModuleState) → not (is_unloading s || is_draining s) ≡ false
    → m < length table.book.states → state_of table.book m ≡ Live
    → (reply catalogue (with_states table (set table.book.states m s)) (CancelRemove m) ≡ Done)
    × (next catalogue (with_states table (set table.book.states m s)) (CancelRemove m) ≡ table)
undone catalogue table m s going room live = (
  ap (λ (o : Option Reply). unwrap_or o Done) free,
  ap (λ (o : Option Reply). cond (is_some o) begun (effect begun (CancelRemove m))) free ∙ ap (with_states table) back,
) where
  begun : Table
  begun = with_states table (set table.book.states m s)

  free : refusal catalogue (with_states table (set table.book.states m s)) (CancelRemove m) ≡ None
  free =
      ap (λ (t : ModuleState). or_else (refuse (not (is_unloading t || is_draining t)) NotUnloading None) None) (get_or-set_same table.book.states m s Absent room)
      ∙ ap (λ (b : Bool). or_else (refuse b NotUnloading None) None) going

  back : set (set table.book.states m s) m Live ≡ table.book.states
  back = set-set table.book.states m s Live ∙ set_own table.book.states m Live live room

-- an accepted call leaves its effect
pub begins : (catalogue : List Module) (table : Table) (call : Call) → reply catalogue table call ≡ Done → next catalogue table call ≡ effect table call
begins catalogue table call done = ap (λ (o : Option Reply). cond (is_some o) table (effect table call)) (accepted catalogue table call done)

abbrev Undone : List Module → Table → ℕ → Table → Type 0
Undone catalogue table m begun = (reply catalogue begun (CancelRemove m) ≡ Done) × (next catalogue begun (CancelRemove m) ≡ table)

drain_undone : (catalogue : List Module) (table : Table) (m : ℕ) → m < length table.book.states → reply catalogue table (BeginDrain m) ≡ Done
    → Undone catalogue table m (next catalogue table (BeginDrain m))
drain_undone catalogue table m room done =
    let both : (unload_refusal catalogue table.book m ≡ None) × (None ≡ None) = both_passed _ _ (accepted catalogue table (BeginDrain m) done) in
    let live : state_of table.book m ≡ Live = live_from _ (unload_passed catalogue table.book m both.0).0 in
    subst (Undone catalogue table m) (sym (begins catalogue table (BeginDrain m) done)) (undone catalogue table m Draining refl room live)

removal_undone : (catalogue : List Module) (table : Table) (m : ℕ) → m < length table.book.states → reply catalogue table (BeginRemove m) ≡ Done
    → Undone catalogue table m (next catalogue table (BeginRemove m))
removal_undone catalogue table m room done =
    let both : (unload_refusal catalogue table.book m ≡ None) × (refuse (is_held table m) InUse None ≡ None) = both_passed _ _ (accepted catalogue table (BeginRemove m) done) in
    let live : state_of table.book m ≡ Live = live_from _ (unload_passed catalogue table.book m both.0).0 in
    subst (Undone catalogue table m) (sym (begins catalogue table (BeginRemove m) done)) (undone catalogue table m Unloading refl room live)

pub cancel_undoes : CancelUndoes
cancel_undoes catalogue table m call (inl is) room done =
    subst (λ (c : Call). Undone catalogue table m (next catalogue table c)) (sym is)
    (drain_undone catalogue table m room (subst (λ (c : Call). reply catalogue table c ≡ Done) is done))
cancel_undoes catalogue table m call (inr is) room done =
    subst (λ (c : Call). Undone catalogue table m (next catalogue table c)) (sym is)
    (removal_undone catalogue table m room (subst (λ (c : Call). reply catalogue table c ≡ Done) is done))
