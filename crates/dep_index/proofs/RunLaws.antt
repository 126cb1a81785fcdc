-- The laws of the one-thread table over every list of calls.
use Rattle.std.proofs.Common.{◌≡◌, ◌≢◌, ℕ, zero, suc, ◌<◌, ◌≤◌, Bool, true, false, not, ◌||◌, ◌&&◌, ◌⊎◌, eqb, cond, List, [], ◌∷◌, length, get_or, Option, Some, None, refl, sym, ◌∙◌, ap, subst, arith, inl, inr, get_or-set_same, get_or-set_other}
use Rattle.std.proofs.Math.ListN.{set, length-set, replicate}
use Rattle.std.proofs.lemmas.Bool.{cases_eq, cases_lt, or_parts, false≢true}
use Rattle.std.proofs.lemmas.List.{get_or-replicate, length-replicate, get_or_past}
use Rattle.std.specs.List.{count_by, filter, list_any}
use Rattle.std.specs.Option.{is_some, unwrap_or}
use Rattle.dep_index.specs.declared.table.states.ModuleState.{ModuleState}
use Rattle.dep_index.specs.declared.table.states.ModuleState.TheVariants.{Absent, Loading, Live, Draining, Unloading}
use Rattle.dep_index.specs.declared.table.calls.Call.{Call}
use Rattle.dep_index.specs.declared.table.calls.Call.TheVariants.{Get, Put, InUse as Query, BeginLoad, EndLoad, BeginDrain, BeginRemove, EndRemove, CancelRemove}
use Rattle.dep_index.specs.declared.table.calls.Reply.{Reply}
use Rattle.dep_index.specs.declared.table.calls.Reply.TheVariants.{Done, NotLive, TooMany, NotHeld, Exists, UnknownSymbol, NotLoading, NoEntry, NeededBy, Permanent, InUse, NotUnloading}
use Rattle.dep_index.specs.Table.{Module, Book, Table, state_of, is_absent, is_live, is_draining, is_unloading, needs_slot, users, has_users, pairs, count_of, is_held}
use Rattle.dep_index.specs.Calls.{refuse, or_else, refusal, book_refusal, unload_refusal, first_missing, missing_need, effect, row_effect, answer, reply, next, after, opening, IsInRange}
use Rattle.dep_index.specs.Laws.{IsShaped, IsLawful, AllInRange, AlwaysLawful, RemovesUnused, IsReviving, NoRevival, IsShutting, StaysShut}
use Rattle.dep_index.proofs.Lists.{filter_empty, sum_by-zeros, count_by-present}
use Rattle.dep_index.proofs.TableLaws.{passed, both_passed, unload_passed, effect_lawful, free_when_unheld, ended_is_down, ended_is_free, not_live}

-- the shape of a table whose book has as many states, and whose row w is of the same length
pub row_shaped : (slots workers : ℕ) (table : Table) (w : ℕ) (row : List ℕ) → IsShaped slots workers table
    → length row ≡ length (get_or table.rows w []) → (v : ℕ) → v < workers → length (get_or (set table.rows w row) v []) ≡ slots
row_shaped slots workers table w row shape same v h = at (cases_eq v w) where
  at : (v ≡ w) ⊎ (v ≡ w → ⊥) → length (get_or (set table.rows w row) v []) ≡ slots
  at (inl e) =
      let here : w < length table.rows = omega (arith, e, h, shape.rows) in
      let is : get_or (set table.rows w row) w [] ≡ row = get_or-set_same table.rows w row [] here in
      let at_w : length (get_or (set table.rows w row) w []) ≡ slots = ap length is ∙ same ∙ shape.row w (omega (arith, e, h)) in
      subst (λ (i : ℕ). length (get_or (set table.rows w row) i []) ≡ slots) (sym e) at_w
  at (inr ne) = ap length (get_or-set_other table.rows w v row [] ne) ∙ shape.row v h

pub effect_shaped : (slots workers : ℕ) (table : Table) (call : Call) → IsShaped slots workers table → IsShaped slots workers (effect table call)
effect_shaped slots workers table (Get w m) shape =
    record {
      states = shape.states;
      rows = length-set table.rows w _ ∙ shape.rows;
      row = row_shaped slots workers table w (row_effect (get_or table.rows w []) (Get w m)) shape (length-set (get_or table.rows w []) m _);
    }
effect_shaped slots workers table (Put w m) shape =
    record {
      states = shape.states;
      rows = length-set table.rows w _ ∙ shape.rows;
      row = row_shaped slots workers table w (row_effect (get_or table.rows w []) (Put w m)) shape (length-set (get_or table.rows w []) m _);
    }
effect_shaped slots workers table (Query m) shape = shape
effect_shaped slots workers table (BeginLoad m) shape = record { states = length-set table.book.states m Loading ∙ shape.states; rows = shape.rows; row = shape.row }
effect_shaped slots workers table (EndLoad m true) shape = record { states = length-set table.book.states m Live ∙ shape.states; rows = shape.rows; row = shape.row }
effect_shaped slots workers table (EndLoad m false) shape = record { states = length-set table.book.states m Absent ∙ shape.states; rows = shape.rows; row = shape.row }
effect_shaped slots workers table (BeginDrain m) shape = record { states = length-set table.book.states m Draining ∙ shape.states; rows = shape.rows; row = shape.row }
effect_shaped slots workers table (BeginRemove m) shape = record { states = length-set table.book.states m Unloading ∙ shape.states; rows = shape.rows; row = shape.row }
effect_shaped slots workers table (EndRemove m) shape = record { states = length-set table.book.states m Absent ∙ shape.states; rows = shape.rows; row = shape.row }
effect_shaped slots workers table (CancelRemove m) shape = record { states = length-set table.book.states m Live ∙ shape.states; rows = shape.rows; row = shape.row }

pub next_shaped : (slots workers : ℕ) (catalogue : List Module) (table : Table) (call : Call) → IsShaped slots workers table → IsShaped slots workers (next catalogue table call)
next_shaped slots workers catalogue table call shape = at (is_some (refusal catalogue table call)) where
  at : (b : Bool) → IsShaped slots workers (cond b table (effect table call))
  at true = shape
  at false = effect_shaped slots workers table call shape

pub next_lawful : (catalogue : List Module) (workers : ℕ) (table : Table) (call : Call)
    → IsShaped (length catalogue) workers table → IsLawful catalogue table → IsInRange (length catalogue) workers call
    → IsLawful catalogue (next catalogue table call)
next_lawful catalogue workers table call shape lawful range = at (refusal catalogue table call) refl where
  at : (o : Option Reply) → refusal catalogue table call ≡ o → IsLawful catalogue (cond (is_some (refusal catalogue table call)) table (effect table call))
  at None e = rw e (effect_lawful catalogue workers table call shape lawful range e)
  at (Some r) e = rw e lawful

pub opening_shaped : (catalogue : List Module) (workers : ℕ) → IsShaped (length catalogue) workers (opening catalogue workers)
opening_shaped catalogue workers =
    record {
      states = length-replicate (length catalogue) Absent;
      rows = length-replicate workers (replicate (length catalogue) 0);
      row = λ w h. ap length (get_or-replicate workers w (replicate (length catalogue) 0) [] h) ∙ length-replicate (length catalogue) 0;
    }

-- a list of the same all over reads so, also past its end
pub replicated : {A : Type 0} (n i : ℕ) (a : A) → get_or (replicate n a) i a ≡ a
replicated n i a = at (cases_lt i n) where
  at : (i < n) ⊎ (n ≤ i) → get_or (replicate n a) i a ≡ a
  at (inl h) = get_or-replicate n i a a h
  at (inr h) = get_or_past (replicate n a) i a (omega (arith, h, length-replicate n a))

opening_counts : (catalogue : List Module) (workers w m : ℕ) → count_of (opening catalogue workers) w m ≡ 0
opening_counts catalogue workers w m = at (cases_lt w workers) where
  zeros : List ℕ
  zeros = replicate (length catalogue) 0

  at : (w < workers) ⊎ (workers ≤ w) → count_of (opening catalogue workers) w m ≡ 0
  at (inl h) = ap (λ (r : List ℕ). get_or r m 0) (get_or-replicate workers w zeros [] h) ∙ replicated (length catalogue) m 0
  at (inr h) = ap (λ (r : List ℕ). get_or r m 0) (get_or_past (replicate workers zeros) w [] (omega (arith, h, length-replicate workers zeros)))

pub opening_absent : (catalogue : List Module) (workers m : ℕ) → state_of (opening catalogue workers).book m ≡ Absent
opening_absent catalogue workers m = replicated (length catalogue) m Absent

pub opening_lawful : (catalogue : List Module) (workers : ℕ) → IsLawful catalogue (opening catalogue workers)
opening_lawful catalogue workers =
    record {
      order = λ m. rw (opening_absent catalogue workers m) refl;
      pairs = λ w m held. absurd (omega (arith, held, opening_counts catalogue workers w m));
      needs = λ u n present needs. let bad : true ≡ false = rw (opening_absent catalogue workers u) at present in absurd (false≢true (sym bad));
    }

pub after_lawful : (catalogue : List Module) (workers : ℕ) (table : Table) (calls : List Call)
    → IsShaped (length catalogue) workers table → IsLawful catalogue table → AllInRange catalogue workers calls
    → IsLawful catalogue (after catalogue table calls)
after_lawful catalogue workers table [] shape lawful range = lawful
after_lawful catalogue workers table (call ∷ calls) shape lawful range =
    after_lawful catalogue workers (next catalogue table call) calls
    (next_shaped (length catalogue) workers catalogue table call shape)
    (next_lawful catalogue workers table call shape lawful range.0) range.1

pub always_lawful : AlwaysLawful
always_lawful catalogue workers calls range =
    after_lawful catalogue workers (opening catalogue workers) calls (opening_shaped catalogue workers) (opening_lawful catalogue workers) range

-- no refusal reads Done
never_done : (b : Bool) (r : Reply) (later : Option Reply) → (r ≡ Done → ⊥) → (later ≡ Some Done → ⊥) → refuse b r later ≡ Some Done → ⊥
never_done true r later other rest e = let same : r ≡ Done = cc in other same
never_done false r later other rest e = rest e

none_done : None ≡ Some Done → ⊥
none_done e = cc

missing_done : (o : Option ℕ) → missing_need o ≡ Some Done → ⊥
missing_done None e = cc
missing_done (Some n) e = cc

either_done : (a b : Option Reply) → (a ≡ Some Done → ⊥) → (b ≡ Some Done → ⊥) → or_else a b ≡ Some Done → ⊥
either_done None b other rest e = rest e
either_done (Some r) b other rest e = other e

unload_done : (catalogue : List Module) (book : Book) (m : ℕ) → unload_refusal catalogue book m ≡ Some Done → ⊥
unload_done catalogue book m =
    never_done _ NoEntry _ (λ e. cc) (never_done _ NeededBy _ (λ e. cc) (never_done _ NotLive _ (λ e. cc) (never_done _ Permanent _ (λ e. cc) none_done)))

pub refusal_done : (catalogue : List Module) (table : Table) (call : Call) → refusal catalogue table call ≡ Some Done → ⊥
refusal_done catalogue table (Get w m) = never_done _ NotLive _ (λ e. cc) (never_done _ TooMany _ (λ e. cc) none_done)
refusal_done catalogue table (Put w m) = never_done _ NotHeld _ (λ e. cc) none_done
refusal_done catalogue table (Query m) = none_done
refusal_done catalogue table (BeginLoad m) = either_done _ _ (never_done _ Exists _ (λ e. cc) (never_done _ UnknownSymbol _ (λ e. cc) (missing_done (first_missing catalogue table.book m)))) none_done
refusal_done catalogue table (EndLoad m ok) = either_done _ _ (never_done _ NotLoading _ (λ e. cc) none_done) none_done
refusal_done catalogue table (BeginDrain m) = either_done _ _ (unload_done catalogue table.book m) none_done
refusal_done catalogue table (BeginRemove m) = either_done _ _ (unload_done catalogue table.book m) (never_done _ InUse _ (λ e. cc) none_done)
refusal_done catalogue table (EndRemove m) = either_done _ _ (never_done _ NotUnloading _ (λ e. cc) none_done) (never_done _ InUse _ (λ e. cc) none_done)
refusal_done catalogue table (CancelRemove m) = either_done _ _ (never_done _ NotUnloading _ (λ e. cc) none_done) none_done

-- a call that answers Done is not refused
pub accepted : (catalogue : List Module) (table : Table) (call : Call) → reply catalogue table call ≡ Done → refusal catalogue table call ≡ None
accepted catalogue table call done = at (refusal catalogue table call) refl where
  at : (o : Option Reply) → refusal catalogue table call ≡ o → refusal catalogue table call ≡ None
  at None e = e
  at (Some r) e =
      let same : r ≡ Done = rw e at done in
      absurd (refusal_done catalogue table call (e ∙ ap Some same))

-- users are none if the module is not Live
unused_when_down : (catalogue : List Module) (table : Table) (m : ℕ) → IsLawful catalogue table → is_live (state_of table.book m) ≡ false → users catalogue table.book m ≡ []
unused_when_down catalogue table m lawful down = filter_empty (needs_slot catalogue m) table.book.order nobody where
  present : (u : ℕ) → list_any (λ s. eqb s u) table.book.order ≡ true → is_absent (state_of table.book u) ≡ false
  present u found = at (is_absent (state_of table.book u)) refl where
    at : (b : Bool) → is_absent (state_of table.book u) ≡ b → is_absent (state_of table.book u) ≡ false
    at false e = e
    at true e =
        let counted : count_by (λ s. eqb s u) table.book.order ≡ 0 = lawful.order u ∙ rw e refl in
        absurd (omega (arith, counted, count_by-present u table.book.order found))

  nobody : (u : ℕ) → list_any (λ s. eqb s u) table.book.order ≡ true → needs_slot catalogue m u ≡ false
  nobody u found = at (needs_slot catalogue m u) refl where
    at : (b : Bool) → needs_slot catalogue m u ≡ b → needs_slot catalogue m u ≡ false
    at false e = e
    at true e = absurd (not_live (state_of table.book m) down (lawful.needs u m (present u found) e))

unused_from_no_users : (catalogue : List Module) (book : Book) (m : ℕ) → has_users catalogue book m ≡ false → users catalogue book m ≡ []
unused_from_no_users catalogue book m none = at book.order none where
  at : (xs : List ℕ) → list_any (needs_slot catalogue m) xs ≡ false → filter (needs_slot catalogue m) xs ≡ []
  at [] e = refl
  at (x ∷ xs) e =
      let parts : (needs_slot catalogue m x ≡ false) × (list_any (needs_slot catalogue m) xs ≡ false) = or_parts _ _ e in
      rw parts.0 (at xs parts.1)

pub removes_unused_at : (catalogue : List Module) (table : Table) (m : ℕ) → IsLawful catalogue table
    → (reply catalogue table (BeginRemove m) ≡ Done) ⊎ (reply catalogue table (EndRemove m) ≡ Done)
    → (pairs table.rows m ≡ 0) × (users catalogue table.book m ≡ [])
removes_unused_at catalogue table m lawful (inl done) =
    let both : (unload_refusal catalogue table.book m ≡ None) × (refuse (is_held table m) InUse None ≡ None) = both_passed _ _ (accepted catalogue table (BeginRemove m) done) in
    let found : (is_live (state_of table.book m) ≡ true) × (has_users catalogue table.book m ≡ false) = unload_passed catalogue table.book m both.0 in
    let free : (is_held table m ≡ false) × (None ≡ None) = passed _ _ _ both.1 in
    (sum_by-zeros (λ r. get_or r m 0) [] table.rows (λ w. free_when_unheld table m free.0 w), unused_from_no_users catalogue table.book m found.1)
removes_unused_at catalogue table m lawful (inr done) =
    let both : (book_refusal catalogue table.book (EndRemove m) ≡ None) × (refuse (is_draining (state_of table.book m) && is_held table m) InUse None ≡ None) = both_passed _ _ (accepted catalogue table (EndRemove m) done) in
    let one : (not (is_unloading (state_of table.book m) || is_draining (state_of table.book m)) ≡ false) × (None ≡ None) = passed _ _ _ both.0 in
    let free : ((is_draining (state_of table.book m) && is_held table m) ≡ false) × (None ≡ None) = passed _ _ _ both.1 in
    (sum_by-zeros (λ r. get_or r m 0) [] table.rows (ended_is_free table m lawful.pairs (state_of table.book m) refl one.0 free.0), unused_when_down catalogue table m lawful (ended_is_down _ one.0))

pub removes_unused : RemovesUnused
removes_unused catalogue workers calls m call range (inl is) done =
    removes_unused_at catalogue _ m (always_lawful catalogue workers calls range)
    (inl (subst (λ (c : Call). reply catalogue (after catalogue (opening catalogue workers) calls) c ≡ Done) is done))
removes_unused catalogue workers calls m call range (inr is) done =
    removes_unused_at catalogue _ m (always_lawful catalogue workers calls range)
    (inr (subst (λ (c : Call). reply catalogue (after catalogue (opening catalogue workers) calls) c ≡ Done) is done))

-- a slot that is set to a state other than Live, or that is left alone, is not Live
set_down : (states : List ModuleState) (k : ℕ) (s : ModuleState) (m : ℕ) → is_live s ≡ false → is_live (get_or states m Absent) ≡ false → is_live (get_or (set states k s) m Absent) ≡ false
set_down [] k s m shut down = refl
set_down (x ∷ states) zero s zero shut down = shut
set_down (x ∷ states) zero s (suc m) shut down = down
set_down (x ∷ states) (suc k) s zero shut down = down
set_down (x ∷ states) (suc k) s (suc m) shut down = set_down states k s m shut down

-- the slot itself, in range or not
set_shut : (states : List ModuleState) (m : ℕ) (s : ModuleState) → is_live s ≡ false → is_live (get_or (set states m s) m Absent) ≡ false
set_shut [] m s shut = refl
set_shut (x ∷ states) zero s shut = shut
set_shut (x ∷ states) (suc m) s shut = set_shut states m s shut

set_elsewhere : (states : List ModuleState) (k : ℕ) (s : ModuleState) (m : ℕ) → (k ≡ m → ⊥) → is_live (get_or states m Absent) ≡ false → is_live (get_or (set states k s) m Absent) ≡ false
set_elsewhere states k s m ne down = let other : m ≢ k = λ e. ne (sym e) in rw get_or-set_other down

-- a call that is not refused leaves m shut, if it does not make m Live
effect_down : (table : Table) (m : ℕ) (call : Call) → (IsReviving m call → ⊥) → is_live (state_of table.book m) ≡ false → is_live (state_of (effect table call).book m) ≡ false
effect_down table m (Get w k) other down = down
effect_down table m (Put w k) other down = down
effect_down table m (Query k) other down = down
effect_down table m (BeginLoad k) other down = set_down table.book.states k Loading m refl down
effect_down table m (EndLoad k true) other down = set_elsewhere table.book.states k Live m (λ e. other (inl (ap (λ (i : ℕ). EndLoad i true) e))) down
effect_down table m (EndLoad k false) other down = set_down table.book.states k Absent m refl down
effect_down table m (BeginDrain k) other down = set_down table.book.states k Draining m refl down
effect_down table m (BeginRemove k) other down = set_down table.book.states k Unloading m refl down
effect_down table m (EndRemove k) other down = set_down table.book.states k Absent m refl down
effect_down table m (CancelRemove k) other down = set_elsewhere table.book.states k Live m (λ e. other (inr (ap (λ (i : ℕ). CancelRemove i) e))) down

next_down : (catalogue : List Module) (table : Table) (m : ℕ) (call : Call) → (IsReviving m call → reply catalogue table call ≢ Done)
    → is_live (state_of table.book m) ≡ false → is_live (state_of (next catalogue table call).book m) ≡ false
next_down catalogue table m call no_revival down = at (refusal catalogue table call) refl where
  at : (o : Option Reply) → refusal catalogue table call ≡ o → is_live (state_of (cond (is_some (refusal catalogue table call)) table (effect table call)).book m) ≡ false
  at (Some r) e = rw e down
  at None e = rw e (effect_down table m call unlike down) where
    unlike : IsReviving m call → ⊥
    unlike revives = no_revival revives (ap (λ (o : Option Reply). unwrap_or o (answer table call)) e ∙ answered revives) where
      answered : IsReviving m call → answer table call ≡ Done
      answered (inl is) = ap (λ (c : Call). answer table c) is
      answered (inr is) = ap (λ (c : Call). answer table c) is

pub stays_down : (catalogue : List Module) (table : Table) (m : ℕ) (between : List Call) → NoRevival catalogue m table between
    → is_live (state_of table.book m) ≡ false → is_live (state_of (after catalogue table between).book m) ≡ false
stays_down catalogue table m [] quiet down = down
stays_down catalogue table m (call ∷ calls) quiet down =
    stays_down catalogue (next catalogue table call) m calls quiet.1 (next_down catalogue table m call quiet.0 down)

get_when_down : (catalogue : List Module) (table : Table) (w m : ℕ) → is_live (state_of table.book m) ≡ false → reply catalogue table (Get w m) ≡ NotLive
get_when_down catalogue table w m down = rw down refl

-- an accepted call that shuts m leaves it shut
shuts : (catalogue : List Module) (table : Table) (m : ℕ) (call : Call) → IsShutting m call → reply catalogue table call ≡ Done → is_live (state_of (next catalogue table call).book m) ≡ false
shuts catalogue table m call shutting done = rw (accepted catalogue table call done) (shut shutting) where
  shut : IsShutting m call → is_live (state_of (effect table call).book m) ≡ false
  shut (inl is) = subst (λ (c : Call). is_live (state_of (effect table c).book m) ≡ false) (sym is) (set_shut table.book.states m Unloading refl)
  shut (inr (inl is)) = subst (λ (c : Call). is_live (state_of (effect table c).book m) ≡ false) (sym is) (set_shut table.book.states m Absent refl)
  shut (inr (inr is)) = subst (λ (c : Call). is_live (state_of (effect table c).book m) ≡ false) (sym is) (set_shut table.book.states m Draining refl)

pub stays_shut : StaysShut
stays_shut catalogue table m w call between shutting done quiet =
    get_when_down catalogue (after catalogue (next catalogue table call) between) w m
    (stays_down catalogue (next catalogue table call) m between quiet (shuts catalogue table m call shutting done))
