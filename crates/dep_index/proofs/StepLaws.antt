-- Each call's first step on its slot's word is right.
use Rattle.std.proofs.Common.{◌≡◌, ◌≢◌, ℕ, ◌+◌, ◌-◌, ◌<◌, Bool, true, false, not, ◌||◌, ◌&&◌, eqb, ltb, cond, List, [], ◌∷◌, ◌++◌, length, get_or, Option, Some, None, refl, sym, ◌∙◌, ap, subst, add_comm, arith, get_or-set_same, get_or-set_other}
use Rattle.std.proofs.Math.ListN.{set}
use Rattle.std.proofs.lemmas.Bool.Decides.{nat_tests}
use Rattle.std.proofs.lemmas.Bool.{not-false}
use Rattle.std.proofs.lemmas.List.Sums.{sum_by-set, count_by-le-length}
use Rattle.std.specs.Option.{is_some, unwrap_or}
use Rattle.dep_index.specs.declared.table.states.ModuleState.{ModuleState}
use Rattle.dep_index.specs.declared.table.states.ModuleState.TheVariants.{Absent, Loading, Live, Draining, Unloading}
use Rattle.dep_index.specs.declared.table.calls.Call.{Call}
use Rattle.dep_index.specs.declared.table.calls.Call.TheVariants.{Get, Put, InUse as Query, BeginLoad, EndLoad, BeginDrain, BeginRemove, EndRemove, CancelRemove}
use Rattle.dep_index.specs.declared.table.calls.Reply.{Reply}
use Rattle.dep_index.specs.declared.table.calls.Reply.TheVariants.{Done, UnknownSymbol, InUse}
use Rattle.dep_index.specs.Table.{Module, Table, state_of, is_absent, is_loading, is_live, is_draining, is_unloading, takes_references, has_users, count_of, is_held, holders, module_at}
use Rattle.dep_index.specs.Calls.{refuse, or_else, refusal, book_refusal, unload_refusal, first_missing, missing_need, effect, without, answer, next, after, slot_of, IsInRange}
use Rattle.dep_index.specs.Laws.{IsShaped, PairsAreOpen, IsLawful}
use Rattle.dep_index.specs.Words.{word_in, word_of, takes_effect, close_step, book_step, word_step, unless_refused, WordStep, Outcome, Effect, GoesOn, closed, IsRightStep, WordStepsAreRight}
use Rattle.dep_index.proofs.Lists.{sum_by-zeros}
use Rattle.dep_index.proofs.TableLaws.{passed, unload_passed, free_when_shut, absent_from, live_from, loading_from}
use Rattle.dep_index.proofs.WordLaws.{Steps, get_steps, put_steps, query_steps}

word_of_either : (b : Bool) (one other : Table) (m : ℕ) → word_of (cond b one other) m ≡ cond b (word_of one m) (word_of other m)
word_of_either true one other m = refl
word_of_either false one other m = refl

-- what is said of a call by its refusal is said of it by its reply and the next table
pub right_from_steps : (catalogue : List Module) (table : Table) (call : Call) (out : Outcome) (word : ℕ)
    → Steps (record { word = word; outcome = out }) (refusal catalogue table call) (answer table call) (word_of table (slot_of call)) (word_of (effect table call) (slot_of call))
    → IsRightStep catalogue table call (record { word = word; outcome = out })
right_from_steps catalogue table call (Effect r) word known =
    (known.0, known.1 ∙ sym (word_of_either (is_some (refusal catalogue table call)) table (effect table call) (slot_of call)))
right_from_steps catalogue table call (GoesOn x) word known = (
  ap (λ (o : Option Reply). unwrap_or o (answer table call)) known.0 ∙ known.1,
  known.2,
  known.3,
  known.4,
  word_of_either (is_some (refusal catalogue table call)) table (effect table call) (slot_of call)
      ∙ ap (λ (o : Option Reply). cond (is_some o) (word_of table (slot_of call)) (word_of (effect table call) (slot_of call))) known.0
      ∙ known.5,
)

-- the holders of a slot after a worker's count of it changes
pub holders-set : (rows : List (List ℕ)) (w m x : ℕ) → w < length rows → m < length (get_or rows w [])
    → holders (set rows w (set (get_or rows w []) m x)) m + cond (ltb 0 (get_or (get_or rows w []) m 0)) 1 0 ≡ holders rows m + cond (ltb 0 x) 1 0
holders-set rows w m x worker slot =
    sum_by-set (λ r. cond (ltb 0 (get_or r m 0)) 1 0) rows w (set (get_or rows w []) m x) [] worker
    ∙ ap (λ (c : ℕ). holders rows m + cond (ltb 0 c) 1 0) (get_or-set_same (get_or rows w []) m x 0 slot)

-- and of every other slot
pub holders-set_other : (rows : List (List ℕ)) (w m x k : ℕ) → w < length rows → k ≢ m
    → holders (set rows w (set (get_or rows w []) m x)) k ≡ holders rows k
holders-set_other rows w m x k worker ne =
    let sums : holders (set rows w (set (get_or rows w []) m x)) k + cond (ltb 0 (get_or (get_or rows w []) k 0)) 1 0 ≡ holders rows k + cond (ltb 0 (get_or (set (get_or rows w []) m x) k 0)) 1 0 =
    sum_by-set (λ r. cond (ltb 0 (get_or r k 0)) 1 0) rows w (set (get_or rows w []) m x) [] worker in
    let same : get_or (set (get_or rows w []) m x) k 0 ≡ get_or (get_or rows w []) k 0 = get_or-set_other (get_or rows w []) m k x 0 ne in
    let sums' : holders (set rows w (set (get_or rows w []) m x)) k + cond (ltb 0 (get_or (get_or rows w []) k 0)) 1 0 ≡ holders rows k + cond (ltb 0 (get_or (get_or rows w []) k 0)) 1 0 =
    sums ∙ ap (λ (c : ℕ). holders rows k + cond (ltb 0 c) 1 0) same in
    omega (arith, sums')

-- nobody holds a slot of which each count is 0
pub holders_none : (rows : List (List ℕ)) (m : ℕ) → ((w : ℕ) → get_or (get_or rows w []) m 0 ≡ 0) → holders rows m ≡ 0
holders_none rows m none = sum_by-zeros (λ r. cond (ltb 0 (get_or r m 0)) 1 0) [] rows (λ w. rw (none w) refl)

-- a slot that is held takes references
pub held_takes : (table : Table) (m : ℕ) → PairsAreOpen table → 0 < holders table.rows m → takes_references (state_of table.book m) ≡ true
held_takes table m known held = at (takes_references (state_of table.book m)) refl where
  at : (b : Bool) → takes_references (state_of table.book m) ≡ b → takes_references (state_of table.book m) ≡ true
  at true e = e
  at false e = absurd (omega (arith, held, holders_none table.rows m (free_when_shut table m known e)))

-- the word of a slot whose state changes
word_changed : (states : List ModuleState) (rows : List (List ℕ)) (m : ℕ) (s : ModuleState) (order : List ℕ) → m < length states
    → word_of (record { book = record { states = set states m s; order = order }; rows = rows }) m ≡ word_in s (holders rows m)
word_changed states rows m s order room = ap (λ (t : ModuleState). word_in t (holders rows m)) (get_or-set_same states m s Absent room)

-- a step of the book, refused by the book or not
book_steps : (catalogue : List Module) (table : Table) (call : Call) (o held : Option Reply) (word after : ℕ) (ans : Reply)
    → (o ≡ None → Steps (book_step table.book call word) held ans word after)
    → Steps (unless_refused o word (book_step table.book call word)) (or_else o held) ans word after
book_steps catalogue table call None held word after ans known = known refl
book_steps catalogue table call (Some r) held word after ans known = (refl, refl)

close_open_steps : (b : Bool) (n : ℕ) → ltb 0 n ≡ b → Steps (close_step 0 n) (refuse b InUse None) Done n 4294967296
close_open_steps true n h = let e : eqb n 0 ≡ false = grind (arith, nat_tests) in rw e (refl, refl)
close_open_steps false n h = let e : eqb n 0 ≡ true = grind (arith, nat_tests) in rw e (refl, refl)

close_drain_steps : (b : Bool) (n : ℕ) → ltb 0 n ≡ b → Steps (close_step 8589934592 (8589934592 + n)) (refuse b InUse None) Done (8589934592 + n) 4294967296
close_drain_steps true n h = let e : eqb (8589934592 + n) 8589934592 ≡ false = grind (arith, nat_tests) in rw e (refl, refl)
close_drain_steps false n h = let e : eqb (8589934592 + n) 8589934592 ≡ true = grind (arith, nat_tests) in rw e (refl, refl)

end_remove_steps : (s : ModuleState) (n : ℕ) → not (is_unloading s || is_draining s) ≡ false
    → Steps (cond (is_draining s) (close_step 8589934592 (word_in s n)) (takes_effect (word_in s n) Done)) (refuse (is_draining s && ltb 0 n) InUse None) Done (word_in s n) 4294967296
end_remove_steps Absent n e = cc
end_remove_steps Loading n e = cc
end_remove_steps Live n e = cc
end_remove_steps Draining n e = close_drain_steps (ltb 0 n) n refl
end_remove_steps Unloading n e = (refl, refl)

cancel_steps : (s : ModuleState) (n : ℕ) → not (is_unloading s || is_draining s) ≡ false → (takes_references s ≡ false → n ≡ 0)
    → Steps (cond (is_draining s) (takes_effect (word_in s n - 8589934592) Done) (takes_effect (cond (eqb (word_in s n) 4294967296) 0 (word_in s n)) Done)) None Done (word_in s n) n
cancel_steps Absent n e none = cc
cancel_steps Loading n e none = cc
cancel_steps Live n e none = cc
cancel_steps Draining n e none = (refl, omega arith)
cancel_steps Unloading n e none = (refl, sym (none refl))

-- the same at a word and a word after that are known
steps_at : (step : ℕ → WordStep) (refused : Option Reply) (word n after m : ℕ) → word ≡ n → after ≡ m → Steps (step n) refused Done n m → Steps (step word) refused Done word after
steps_at step refused word n after m e f known =
    let one : Steps (step word) refused Done word m = subst (λ (v : ℕ). Steps (step v) refused Done v m) (sym e) known in
    subst (λ (v : ℕ). Steps (step word) refused Done word v) (sym f) one

pub call_steps : (catalogue : List Module) (workers : ℕ) (table : Table) (call : Call) → IsShaped (length catalogue) workers table
    → workers < closed → IsLawful catalogue table → IsInRange (length catalogue) workers call
    → Steps (word_step catalogue table call (word_of table (slot_of call))) (refusal catalogue table call) (answer table call) (word_of table (slot_of call)) (word_of (effect table call) (slot_of call))
call_steps catalogue workers table (Get w m) shape small lawful range =
    let worker : w < length table.rows = omega (arith, shape.rows, range.1) in
    let slot : m < length (get_or table.rows w []) = omega (arith, shape.row w range.1, range.0) in
    let few : holders table.rows m < 4294967296 = omega (arith, shape.rows, small, count_by-le-length (λ r. ltb 0 (get_or r m 0)) table.rows) in
    let one : ltb 0 (count_of table w m + 1) ≡ true = grind (arith, nat_tests) in
    let sums : holders (set table.rows w (set (get_or table.rows w []) m (count_of table w m + 1))) m + cond (ltb 0 (count_of table w m)) 1 0 ≡ holders table.rows m + cond (ltb 0 (count_of table w m + 1)) 1 0 =
    holders-set table.rows w m (count_of table w m + 1) worker slot in
    get_steps (state_of table.book m) (holders table.rows m) (count_of table w m) _ few (sums ∙ rw one refl)
call_steps catalogue workers table (Put w m) shape small lawful range =
    let worker : w < length table.rows = omega (arith, shape.rows, range.1) in
    let slot : m < length (get_or table.rows w []) = omega (arith, shape.row w range.1, range.0) in
    put_steps (state_of table.book m) (holders table.rows m) (count_of table w m) _
    (λ held. (lawful.pairs w m held).0)
    (holders-set table.rows w m (count_of table w m - 1) worker slot)
call_steps catalogue workers table (Query m) shape small lawful range =
    let few : holders table.rows m < 4294967296 = omega (arith, shape.rows, small, count_by-le-length (λ r. ltb 0 (get_or r m 0)) table.rows) in
    query_steps (state_of table.book m) (holders table.rows m) few (held_takes table m lawful.pairs)
call_steps catalogue workers table (BeginLoad m) shape small lawful range =
    book_steps catalogue table (BeginLoad m) (book_refusal catalogue table.book (BeginLoad m)) None (word_of table m) (word_of (effect table (BeginLoad m)) m) Done
    (λ (e : book_refusal catalogue table.book (BeginLoad m) ≡ None).
    let one : (not (is_absent (state_of table.book m)) ≡ false) × (refuse (module_at catalogue m).unknown_symbol UnknownSymbol (missing_need (first_missing catalogue table.book m)) ≡ None) = passed _ _ _ e in
    let is : state_of table.book m ≡ Absent = absent_from _ (not-false _ one.0) in
    (refl, ap (λ (t : ModuleState). word_in t (holders table.rows m)) is ∙ sym (word_changed table.book.states table.rows m Loading (table.book.order ++ m ∷ []) (omega (arith, shape.states, range.0)))))
call_steps catalogue workers table (EndLoad m true) shape small lawful range =
    book_steps catalogue table (EndLoad m true) (book_refusal catalogue table.book (EndLoad m true)) None (word_of table m) (word_of (effect table (EndLoad m true)) m) Done
    (λ (e : book_refusal catalogue table.book (EndLoad m true) ≡ None).
    let one : (not (is_loading (state_of table.book m)) ≡ false) × (None ≡ None) = passed _ _ _ e in
    let is : state_of table.book m ≡ Loading = loading_from _ (not-false _ one.0) in
    let shut : takes_references (state_of table.book m) ≡ false = rw is refl in
    let word : word_of table m ≡ 4294967296 = ap (λ (t : ModuleState). word_in t (holders table.rows m)) is in
    let none : holders table.rows m ≡ 0 = holders_none table.rows m (free_when_shut table m lawful.pairs shut) in
    (refl, ap (λ (v : ℕ). cond (eqb v 4294967296) 0 v) word ∙ sym (word_changed table.book.states table.rows m Live table.book.order (omega (arith, shape.states, range.0)) ∙ none)))
call_steps catalogue workers table (EndLoad m false) shape small lawful range =
    book_steps catalogue table (EndLoad m false) (book_refusal catalogue table.book (EndLoad m false)) None (word_of table m) (word_of (effect table (EndLoad m false)) m) Done
    (λ (e : book_refusal catalogue table.book (EndLoad m false) ≡ None).
    let one : (not (is_loading (state_of table.book m)) ≡ false) × (None ≡ None) = passed _ _ _ e in
    let is : state_of table.book m ≡ Loading = loading_from _ (not-false _ one.0) in
    (refl, ap (λ (t : ModuleState). word_in t (holders table.rows m)) is ∙ sym (word_changed table.book.states table.rows m Absent (without table.book m).order (omega (arith, shape.states, range.0)))))
call_steps catalogue workers table (BeginDrain m) shape small lawful range =
    book_steps catalogue table (BeginDrain m) (unload_refusal catalogue table.book m) None (word_of table m) (word_of (effect table (BeginDrain m)) m) Done
    (λ (e : unload_refusal catalogue table.book m ≡ None).
    let found : (is_live (state_of table.book m) ≡ true) × (has_users catalogue table.book m ≡ false) = unload_passed catalogue table.book m e in
    let is : state_of table.book m ≡ Live = live_from _ found.0 in
    let word : word_of table m ≡ holders table.rows m = ap (λ (t : ModuleState). word_in t (holders table.rows m)) is in
    let after : word_of (effect table (BeginDrain m)) m ≡ 8589934592 + holders table.rows m = word_changed table.book.states table.rows m Draining table.book.order (omega (arith, shape.states, range.0)) in
    (refl, ap (λ (v : ℕ). v + 8589934592) word ∙ add_comm (holders table.rows m) 8589934592 ∙ sym after))
call_steps catalogue workers table (BeginRemove m) shape small lawful range =
    book_steps catalogue table (BeginRemove m) (unload_refusal catalogue table.book m) (refuse (is_held table m) InUse None) (word_of table m) (word_of (effect table (BeginRemove m)) m) Done
    (λ (e : unload_refusal catalogue table.book m ≡ None).
    let found : (is_live (state_of table.book m) ≡ true) × (has_users catalogue table.book m ≡ false) = unload_passed catalogue table.book m e in
    let is : state_of table.book m ≡ Live = live_from _ found.0 in
    let word : word_of table m ≡ holders table.rows m = ap (λ (t : ModuleState). word_in t (holders table.rows m)) is in
    let after : word_of (effect table (BeginRemove m)) m ≡ 4294967296 = word_changed table.book.states table.rows m Unloading table.book.order (omega (arith, shape.states, range.0)) in
    steps_at (λ v. close_step 0 v) (refuse (is_held table m) InUse None) _ _ _ _ word after (close_open_steps (ltb 0 (holders table.rows m)) (holders table.rows m) refl))
call_steps catalogue workers table (EndRemove m) shape small lawful range =
    book_steps catalogue table (EndRemove m) (book_refusal catalogue table.book (EndRemove m)) (refuse (is_draining (state_of table.book m) && is_held table m) InUse None) (word_of table m) (word_of (effect table (EndRemove m)) m) Done
    (λ (e : book_refusal catalogue table.book (EndRemove m) ≡ None).
    let one : (not (is_unloading (state_of table.book m) || is_draining (state_of table.book m)) ≡ false) × (None ≡ None) = passed _ _ _ e in
    let after : word_of (effect table (EndRemove m)) m ≡ 4294967296 = word_changed table.book.states table.rows m Absent (without table.book m).order (omega (arith, shape.states, range.0)) in
    steps_at (λ v. cond (is_draining (state_of table.book m)) (close_step 8589934592 v) (takes_effect v Done)) (refuse (is_draining (state_of table.book m) && is_held table m) InUse None) (word_of table m) (word_of table m) (word_of (effect table (EndRemove m)) m) 4294967296 refl after
    (end_remove_steps (state_of table.book m) (holders table.rows m) one.0))
call_steps catalogue workers table (CancelRemove m) shape small lawful range =
    book_steps catalogue table (CancelRemove m) (book_refusal catalogue table.book (CancelRemove m)) None (word_of table m) (word_of (effect table (CancelRemove m)) m) Done
    (λ (e : book_refusal catalogue table.book (CancelRemove m) ≡ None).
    let one : (not (is_unloading (state_of table.book m) || is_draining (state_of table.book m)) ≡ false) × (None ≡ None) = passed _ _ _ e in
    let after : word_of (effect table (CancelRemove m)) m ≡ holders table.rows m = word_changed table.book.states table.rows m Live table.book.order (omega (arith, shape.states, range.0)) in
    steps_at (λ v. cond (is_draining (state_of table.book m)) (takes_effect (v - 8589934592) Done) (takes_effect (cond (eqb v 4294967296) 0 v) Done)) None (word_of table m) (word_of table m) (word_of (effect table (CancelRemove m)) m) (holders table.rows m) refl after
    (cancel_steps (state_of table.book m) (holders table.rows m) one.0 (λ shut. holders_none table.rows m (free_when_shut table m lawful.pairs shut))))

-- the words of the other slots
other_words : (catalogue : List Module) (table : Table) (call : Call) (workers : ℕ) → IsShaped (length catalogue) workers table → IsInRange (length catalogue) workers call
    → (k : ℕ) → k ≢ slot_of call → word_of (effect table call) k ≡ word_of table k
other_words catalogue table (Get w m) workers shape range k ne = ap (word_in (state_of table.book k)) (holders-set_other table.rows w m (count_of table w m + 1) k (omega (arith, shape.rows, range.1)) ne)
other_words catalogue table (Put w m) workers shape range k ne = ap (word_in (state_of table.book k)) (holders-set_other table.rows w m (count_of table w m - 1) k (omega (arith, shape.rows, range.1)) ne)
other_words catalogue table (Query m) workers shape range k ne = refl
other_words catalogue table (BeginLoad m) workers shape range k ne = ap (λ (t : ModuleState). word_in t (holders table.rows k)) (get_or-set_other table.book.states m k Loading Absent ne)
other_words catalogue table (EndLoad m true) workers shape range k ne = ap (λ (t : ModuleState). word_in t (holders table.rows k)) (get_or-set_other table.book.states m k Live Absent ne)
other_words catalogue table (EndLoad m false) workers shape range k ne = ap (λ (t : ModuleState). word_in t (holders table.rows k)) (get_or-set_other table.book.states m k Absent Absent ne)
other_words catalogue table (BeginDrain m) workers shape range k ne = ap (λ (t : ModuleState). word_in t (holders table.rows k)) (get_or-set_other table.book.states m k Draining Absent ne)
other_words catalogue table (BeginRemove m) workers shape range k ne = ap (λ (t : ModuleState). word_in t (holders table.rows k)) (get_or-set_other table.book.states m k Unloading Absent ne)
other_words catalogue table (EndRemove m) workers shape range k ne = ap (λ (t : ModuleState). word_in t (holders table.rows k)) (get_or-set_other table.book.states m k Absent Absent ne)
other_words catalogue table (CancelRemove m) workers shape range k ne = ap (λ (t : ModuleState). word_in t (holders table.rows k)) (get_or-set_other table.book.states m k Live Absent ne)

other_words_next : (catalogue : List Module) (table : Table) (call : Call) (workers : ℕ) → IsShaped (length catalogue) workers table → IsInRange (length catalogue) workers call
    → (k : ℕ) → k ≢ slot_of call → word_of (next catalogue table call) k ≡ word_of table k
other_words_next catalogue table call workers shape range k ne =
    word_of_either (is_some (refusal catalogue table call)) table (effect table call) k ∙ at (is_some (refusal catalogue table call)) where
      at : (b : Bool) → cond b (word_of table k) (word_of (effect table call) k) ≡ word_of table k
      at true = refl
      at false = other_words catalogue table call workers shape range k ne

pub word_steps_are_right : WordStepsAreRight
word_steps_are_right catalogue workers table call shape small lawful range = (
  right_from_steps catalogue table call (word_step catalogue table call (word_of table (slot_of call))).outcome (word_step catalogue table call (word_of table (slot_of call))).word
      (call_steps catalogue workers table call shape small lawful range),
  other_words_next catalogue table call workers shape range,
)
