-- Each step that is not refused keeps the machine sound, and is right for the table that it shows.
use Rattle.std.proofs.Common.{◌≡◌, ℕ, ◌+◌, ◌-◌, ◌<◌, Bool, true, false, ◌⊎◌, cond, eqb, ltb, List, length, get_or, Option, Some, None, refl, sym, ◌∙◌, ap, subst, arith, inl, inr, get_or-set_same, get_or-set_other}
use Rattle.std.proofs.Math.ListN.{set}
use Rattle.std.proofs.lemmas.Bool.{cases_eq, eqb-true, ltb-true, lt-ltb}
use Rattle.std.proofs.lemmas.List.{set-get_or, get_or-replicate, length-replicate}
use Rattle.std.specs.Option.{is_some, IsSomeAnd}
use Rattle.dep_index.specs.declared.table.calls.Call.{Call}
use Rattle.dep_index.specs.declared.table.calls.Call.TheVariants.{Get, Put, InUse as Query, BeginLoad, EndLoad, BeginDrain, BeginRemove, EndRemove, CancelRemove}
use Rattle.dep_index.specs.declared.table.calls.Reply.{Reply}
use Rattle.dep_index.specs.declared.table.calls.Reply.TheVariants.{Done, Yes, No, NotLive, TooMany, NotHeld, Exists, UnknownSymbol, NeedNotLive, NotLoading, NoEntry, NeededBy, Permanent, InUse, NotUnloading}
use Rattle.dep_index.specs.Table.{Module, Table, state_of, count_of, holders, is_draining}
use Rattle.dep_index.specs.Calls.{opening, book_refusal, reply, next, slot_of, worker_of, IsInRange, IsWorkerInRange}
use Rattle.dep_index.specs.Laws.{IsLawful}
use Rattle.dep_index.specs.Words.{closed, is_open, word_in, word_of, word_step, IsRightStep, close_step, book_step, unless_refused, takes_effect}
use Rattle.dep_index.specs.declared.words.Outcome.{Outcome}
use Rattle.dep_index.specs.declared.words.Outcome.TheVariants.{Effect, GoesOn}
use Rattle.dep_index.specs.declared.words.WordStep.{WordStep}
use Rattle.dep_index.specs.declared.table.states.ModuleState.{ModuleState}
use Rattle.dep_index.proofs.RunLaws.{opening_shaped, opening_lawful, opening_absent, replicated}
use Rattle.dep_index.proofs.StepLaws.{word_steps_are_right}
use Rattle.step_core.specs.declared.steps.Step.TheVariants.{Invoke, Go}
use Rattle.step_core.specs.declared.steps.StepError.{StepError}
use Rattle.step_core.specs.declared.steps.StepError.TheVariants.{Worker, Slot, Calls}
use Rattle.step_core.specs.declared.steps.Event.{Event}
use Rattle.step_core.specs.declared.steps.Event.TheVariants.{Nothing, Invoked, Moved, Point, Returned}
use Rattle.step_core.specs.declared.steps.Line.{Line}
use Rattle.step_core.specs.declared.steps.Line.TheVariants.{Lock, Word, Exchange, Write, Return}
use Rattle.step_core.specs.declared.steps.Activity.{Activity}
use Rattle.step_core.specs.Machine.{State, LockName, Leaf, TableLock, NoLock, lock_of, holder, at_line, with_word, activity, line_after, stepped, exchanged, locked, line, go, invoke, step, first_line, start, unless, worker_exists}
use Rattle.step_core.specs.Shown.{shown, pending, writing, rows_after}
use Rattle.step_core.specs.Sound.{Holds, IsArriving, IsPlacedAt, IsPlaced, IsInside, IsSound, StartsSound, StepsAreRight}
use Rattle.step_core.specs.StepLaw.{TakesEffect, StepLaw}
use Rattle.step_core.proofs.Shown.{pending-other, shown-same, rows_after-none}
use Rattle.step_core.proofs.Lines.{lock_line, quiet_line, return_line, write_line, seen_as_shown, shown_shaped, point_done, point_refused}

-- a thread's step keeps the machine sound and is right for what it shows
abbrev pub IsRight : List Module → ℕ → State → ℕ → Activity → Event × State → Type 0
IsRight catalogue workers s t a (Point n r, new) = IsSound catalogue workers new × TakesEffect catalogue s new n r a
IsRight catalogue workers s t a (Nothing, new) = IsSound catalogue workers new × (shown new ≡ shown s)
IsRight catalogue workers s t a (Invoked n, new) = IsSound catalogue workers new × (shown new ≡ shown s)
IsRight catalogue workers s t a (Moved, new) = IsSound catalogue workers new × (shown new ≡ shown s)
IsRight catalogue workers s t a (Returned n r, new) = IsSound catalogue workers new × (shown new ≡ shown s)

reply_cases : (r : Reply) → (r ≡ Done) ⊎ ((r ≡ Done → ⊥) × (line_after r ≡ Return r))
reply_cases Done = inl refl
reply_cases Yes = inr (λ e. cc, refl)
reply_cases No = inr (λ e. cc, refl)
reply_cases NotLive = inr (λ e. cc, refl)
reply_cases TooMany = inr (λ e. cc, refl)
reply_cases NotHeld = inr (λ e. cc, refl)
reply_cases Exists = inr (λ e. cc, refl)
reply_cases UnknownSymbol = inr (λ e. cc, refl)
reply_cases (NeedNotLive n) = inr (λ e. cc, refl)
reply_cases NotLoading = inr (λ e. cc, refl)
reply_cases NoEntry = inr (λ e. cc, refl)
reply_cases NeededBy = inr (λ e. cc, refl)
reply_cases Permanent = inr (λ e. cc, refl)
reply_cases InUse = inr (λ e. cc, refl)
reply_cases NotUnloading = inr (λ e. cc, refl)

abbrev IsEffect : Outcome → Type 0
IsEffect (Effect r) = Unit {0}
IsEffect (GoesOn x) = ⊥

either_effect : (b : Bool) (p q : WordStep) → IsEffect p.outcome → IsEffect q.outcome → IsEffect (cond b p q).outcome
either_effect true p q f g = f
either_effect false p q f g = g

no_exchange : (o : Outcome) (x : ℕ) → IsEffect o → o ≡ GoesOn x → ⊥
no_exchange (Effect r) x f e = cc
no_exchange (GoesOn y) x f e = absurd f

book_effects : (b : List Module) (t : Table) (call : Call) (v : ℕ) (o : Option Reply) → IsEffect (book_step t.book call v).outcome → IsEffect (unless_refused o v (book_step t.book call v)).outcome
book_effects b t call v None f = f
book_effects b t call v (Some r) f = tt

-- only the load of a get whose leaf does not hold the slot goes on to the exchange
arriving_from : (catalogue : List Module) (table : Table) (call : Call) (v x : ℕ) → (word_step catalogue table call v).outcome ≡ GoesOn x → IsArriving table call
arriving_from catalogue table (Get w m) v x e = at (is_open v) (eqb (count_of table w m) 0) refl e where
  at : (b c : Bool) → eqb (count_of table w m) 0 ≡ c
      → (cond b (cond c (record { word = v; outcome = GoesOn v }) (takes_effect v (cond (ltb (count_of table w m) 65535) Done TooMany))) (takes_effect v NotLive)).outcome ≡ GoesOn x
      → count_of table w m ≡ 0
  at true true z f = eqb-true _ _ z
  at true false z f = cc
  at false c z f = cc
arriving_from catalogue table (Put w m) v x e = absurd (no_exchange _ x (either_effect (eqb (count_of table w m) 0) _ _ tt tt) e)
arriving_from catalogue table (Query m) v x e = cc
arriving_from catalogue table (BeginLoad m) v x e = absurd (no_exchange _ x (book_effects catalogue table (BeginLoad m) v (book_refusal catalogue table.book (BeginLoad m)) tt) e)
arriving_from catalogue table (EndLoad m true) v x e = absurd (no_exchange _ x (book_effects catalogue table (EndLoad m true) v (book_refusal catalogue table.book (EndLoad m true)) tt) e)
arriving_from catalogue table (EndLoad m false) v x e = absurd (no_exchange _ x (book_effects catalogue table (EndLoad m false) v (book_refusal catalogue table.book (EndLoad m false)) tt) e)
arriving_from catalogue table (BeginDrain m) v x e = absurd (no_exchange _ x (book_effects catalogue table (BeginDrain m) v (book_refusal catalogue table.book (BeginDrain m)) tt) e)
arriving_from catalogue table (BeginRemove m) v x e =
    absurd (no_exchange _ x (book_effects catalogue table (BeginRemove m) v (book_refusal catalogue table.book (BeginRemove m)) (either_effect (eqb v 0) (takes_effect closed Done) (takes_effect v InUse) tt tt)) e)
arriving_from catalogue table (EndRemove m) v x e =
    absurd (no_exchange _ x (book_effects catalogue table (EndRemove m) v (book_refusal catalogue table.book (EndRemove m)) (either_effect (is_draining (state_of table.book m)) (close_step 8589934592 v) (takes_effect v Done) (either_effect (eqb v 8589934592) (takes_effect closed Done) (takes_effect v InUse) tt tt) tt)) e)
arriving_from catalogue table (CancelRemove m) v x e =
    absurd (no_exchange _ x (book_effects catalogue table (CancelRemove m) v (book_refusal catalogue table.book (CancelRemove m)) (either_effect (is_draining (state_of table.book m)) (takes_effect (v - 8589934592) Done) (takes_effect (cond (eqb v closed) 0 v) Done) tt tt)) e)

-- the step on the word, by what it comes to
look_out : (catalogue : List Module) (workers : ℕ) (s : State) (t : ℕ) (a : Activity) (v : ℕ) (out : Outcome) → IsSound catalogue workers s
    → get_or s.threads t None ≡ Some a → a.line ≡ Word
    → IsRightStep catalogue (shown s) a.call (record { word = v; outcome = out })
    → ((x : ℕ) → out ≡ GoesOn x → IsArriving s.written a.call)
    → IsRight catalogue workers s t a (stepped s t a v out)
look_out catalogue workers s t a v (Effect r) sound here is right arriving = at (reply_cases r) where
  holds : Holds s.locks t (lock_of a.call)
  holds = subst (λ (l : Line). IsPlacedAt s.locks s.written t a.call l) is ((sound.placed t a here).place)

  nothing : writing (Some a) ≡ None
  nothing = rw is refl

  at : (r ≡ Done) ⊎ ((r ≡ Done → ⊥) × (line_after r ≡ Return r)) → IsRight catalogue workers s t a (stepped s t a v (Effect r))
  at (inl e) =
      let done : reply catalogue (shown s) a.call ≡ Done = sym right.0 ∙ e in
      let both : IsSound catalogue workers (at_line (with_word s (slot_of a.call) v) t a Write) × (shown (at_line (with_word s (slot_of a.call) v) t a Write) ≡ next catalogue (shown s) a.call) =
      point_done catalogue workers s t a v sound here holds nothing done right.1 in
      let after : Write ≡ line_after r = ap line_after (sym e) in
      let whole : IsSound catalogue workers (at_line (with_word s (slot_of a.call) v) t a (line_after r)) × (shown (at_line (with_word s (slot_of a.call) v) t a (line_after r)) ≡ next catalogue (shown s) a.call) =
      subst (λ (l : Line). IsSound catalogue workers (at_line (with_word s (slot_of a.call) v) t a l) × (shown (at_line (with_word s (slot_of a.call) v) t a l) ≡ next catalogue (shown s) a.call)) after both in
      (whole.0, (refl, right.0, whole.1))
  at (inr other) =
      let both : IsSound catalogue workers (at_line (with_word s (slot_of a.call) v) t a (Return r)) × (shown (at_line (with_word s (slot_of a.call) v) t a (Return r)) ≡ next catalogue (shown s) a.call) =
      point_refused catalogue workers s t a v r sound here holds nothing (λ d. other.0 (right.0 ∙ d)) right.1 in
      let whole : IsSound catalogue workers (at_line (with_word s (slot_of a.call) v) t a (line_after r)) × (shown (at_line (with_word s (slot_of a.call) v) t a (line_after r)) ≡ next catalogue (shown s) a.call) =
      subst (λ (l : Line). IsSound catalogue workers (at_line (with_word s (slot_of a.call) v) t a l) × (shown (at_line (with_word s (slot_of a.call) v) t a l) ≡ next catalogue (shown s) a.call)) (sym other.1) both in
      (whole.0, (refl, right.0, whole.1))
look_out catalogue workers s t a v (GoesOn x) sound here is right arriving =
    let still : set s.words (slot_of a.call) v ≡ s.words = unchanged in
    subst (λ (ws : List ℕ). IsSound catalogue workers (at_line (record s { words = ws }) t a (Exchange x)) × (shown (at_line (record s { words = ws }) t a (Exchange x)) ≡ shown s)) (sym still)
    (quiet_line catalogue workers s t a (Exchange x) sound here holds nothing refl tt (holds, arriving x refl, ltb-true _ _ right.3)) where
      before : IsPlaced (length catalogue) workers s.invoked s.locks s.written t a
      before = sound.placed t a here

      holds : Holds s.locks t (lock_of a.call)
      holds = subst (λ (l : Line). IsPlacedAt s.locks s.written t a.call l) is before.place

      nothing : writing (Some a) ≡ None
      nothing = rw is refl

      unchanged : set s.words (slot_of a.call) v ≡ s.words
      unchanged =
          let same : v ≡ get_or s.words (slot_of a.call) 0 = right.2 ∙ right.1 ∙ sym (sound.word (slot_of a.call) before.range.0) in
          ap (λ (w : ℕ). set s.words (slot_of a.call) w) same ∙ set-get_or s.words (slot_of a.call) 0

-- a thread under its lock that has nothing to write makes a right step on the word
look_right : (catalogue : List Module) (workers : ℕ) (s : State) (t : ℕ) (a : Activity) → IsSound catalogue workers s
    → get_or s.threads t None ≡ Some a → Holds s.locks t (lock_of a.call) → writing (Some a) ≡ None
    → IsRightStep catalogue (shown s) a.call (word_step catalogue s.written a.call (get_or s.words (slot_of a.call) 0))
look_right catalogue workers s t a sound here holds nothing =
    subst (λ (w : WordStep). IsRightStep catalogue (shown s) a.call w) (sym same)
    ((word_steps_are_right catalogue workers (shown s) a.call (shown_shaped (length catalogue) workers s sound.shape) sound.few sound.lawful before.range).0) where
      before : IsPlaced (length catalogue) workers s.invoked s.locks s.written t a
      before = sound.placed t a here

      same : word_step catalogue s.written a.call (get_or s.words (slot_of a.call) 0) ≡ word_step catalogue (shown s) a.call (word_of (shown s) (slot_of a.call))
      same =
          seen_as_shown catalogue s t a.call (get_or s.words (slot_of a.call) 0) holds (rw sound.shape.rows before.range) (ap writing here ∙ nothing)
          ∙ ap (word_step catalogue (shown s) a.call) (sound.word (slot_of a.call) before.range.0)

look_line : (catalogue : List Module) (workers : ℕ) (s : State) (t : ℕ) (a : Activity) → IsSound catalogue workers s
    → get_or s.threads t None ≡ Some a → a.line ≡ Word
    → IsRight catalogue workers s t a (line catalogue s t a Word)
look_line catalogue workers s t a sound here is =
    look_out catalogue workers s t a found.word found.outcome sound here is
    (look_right catalogue workers s t a sound here (subst (λ (l : Line). IsPlacedAt s.locks s.written t a.call l) is ((sound.placed t a here).place)) (rw is refl))
    (λ x e. arriving_from catalogue s.written a.call (get_or s.words (slot_of a.call) 0) x e) where
      found : WordStep
      found = word_step catalogue s.written a.call (get_or s.words (slot_of a.call) 0)

-- a get whose leaf does not hold the slot goes on to the exchange of an Open word
arrives : (catalogue : List Module) (written : Table) (call : Call) (x : ℕ) → IsArriving written call → x < 4294967296
    → word_step catalogue written call x ≡ record { word = x; outcome = GoesOn x }
arrives catalogue written (Get w m) x none h = let open_word : ltb x 4294967296 ≡ true = lt-ltb _ _ h in rw (open_word, none) refl
arrives catalogue written (Put w m) x none h = absurd none
arrives catalogue written (Query m) x none h = absurd none
arrives catalogue written (BeginLoad m) x none h = absurd none
arrives catalogue written (EndLoad m ok) x none h = absurd none
arrives catalogue written (BeginDrain m) x none h = absurd none
arrives catalogue written (BeginRemove m) x none h = absurd none
arrives catalogue written (EndRemove m) x none h = absurd none
arrives catalogue written (CancelRemove m) x none h = absurd none

-- the exchange
exchange_line : (catalogue : List Module) (workers : ℕ) (s : State) (t : ℕ) (a : Activity) (x : ℕ) → IsSound catalogue workers s
    → get_or s.threads t None ≡ Some a → a.line ≡ Exchange x
    → IsRight catalogue workers s t a (line catalogue s t a (Exchange x))
exchange_line catalogue workers s t a x sound here is = at (eqb (get_or s.words (slot_of a.call) 0) x) refl where
  place : IsPlacedAt s.locks s.written t a.call (Exchange x)
  place = subst (λ (l : Line). IsPlacedAt s.locks s.written t a.call l) is ((sound.placed t a here).place)

  nothing : writing (Some a) ≡ None
  nothing = rw is refl

  at : (b : Bool) → eqb (get_or s.words (slot_of a.call) 0) x ≡ b → IsRight catalogue workers s t a (exchanged s t a x b)
  at false e = quiet_line catalogue workers s t a Word sound here place.0 nothing refl tt place.0
  at true e =
      let word : get_or s.words (slot_of a.call) 0 ≡ x = eqb-true _ _ e in
      let found : word_step catalogue s.written a.call (get_or s.words (slot_of a.call) 0) ≡ record { word = x; outcome = GoesOn x } =
      ap (word_step catalogue s.written a.call) word ∙ arrives catalogue s.written a.call x place.1 place.2 in
      let right : IsRightStep catalogue (shown s) a.call (record { word = x; outcome = GoesOn x }) =
      subst (λ (w : WordStep). IsRightStep catalogue (shown s) a.call w) found (look_right catalogue workers s t a sound here place.0 nothing) in
      let both : IsSound catalogue workers (at_line (with_word s (slot_of a.call) (x + 1)) t a Write) × (shown (at_line (with_word s (slot_of a.call) (x + 1)) t a Write) ≡ next catalogue (shown s) a.call) =
      point_done catalogue workers s t a (x + 1) sound here place.0 nothing right.0 (sym right.4) in
      (both.0, (refl, sym right.0, both.1))

no_holder : (o : Option ℕ) → is_some o ≡ false → o ≡ None
no_holder None e = refl
no_holder (Some t) e = cc

-- every line
line_right : (catalogue : List Module) (workers : ℕ) (s : State) (t : ℕ) (a : Activity) (l : Line) → IsSound catalogue workers s
    → get_or s.threads t None ≡ Some a → a.line ≡ l → IsRight catalogue workers s t a (line catalogue s t a l)
line_right catalogue workers s t a Lock sound here is = at (is_some (holder s.locks (lock_of a.call))) refl where
  at : (b : Bool) → is_some (holder s.locks (lock_of a.call)) ≡ b → IsRight catalogue workers s t a (locked s t a b)
  at true e = (sound, refl)
  at false e = lock_line catalogue workers s t a sound here
      (subst (λ (l : Line). IsPlacedAt s.locks s.written t a.call l) is ((sound.placed t a here).place))
      (no_holder _ e)
line_right catalogue workers s t a Word sound here is = look_line catalogue workers s t a sound here is
line_right catalogue workers s t a (Exchange x) sound here is = exchange_line catalogue workers s t a x sound here is
line_right catalogue workers s t a Write sound here is = write_line catalogue workers s t a sound here is
line_right catalogue workers s t a (Return r) sound here is = return_line catalogue workers s t a r sound here is

-- a thread that does nothing begins a call
invoke_line : (catalogue : List Module) (workers : ℕ) (s : State) (t : ℕ) (call : Call) → IsSound catalogue workers s
    → get_or s.threads t None ≡ None → t < length s.threads → IsInRange (length catalogue) workers call
    → IsSound catalogue workers (invoke s t call None).1 × (shown (invoke s t call None).1 ≡ shown s)
invoke_line catalogue workers s t call sound idle room range = (whole, same) where
  b : Activity
  b = record { number = s.invoked; call = call; line = first_line call }

  new : State
  new = (invoke s t call None).1

  holds_none : (l : LockName) → holder s.locks l ≡ Some t → ⊥
  holds_none l held = let inside : IsInside l None = subst (λ (o : Option Activity). IsInside l o) idle (sound.inside l t held) in absurd inside

  same : shown new ≡ shown s
  same = shown-same s new refl (λ l. pending-other s.threads t (Some b) (holder s.locks l) (holds_none l))

  first_place : (c : Call) → IsPlacedAt s.locks s.written t c (first_line c)
  first_place (Get w m) = tt
  first_place (Put w m) = tt
  first_place (Query m) = tt
  first_place (BeginLoad m) = tt
  first_place (EndLoad m ok) = tt
  first_place (BeginDrain m) = tt
  first_place (BeginRemove m) = tt
  first_place (EndRemove m) = tt
  first_place (CancelRemove m) = tt

  placed : (u : ℕ) (c : Activity) → get_or (set s.threads t (Some b)) u None ≡ Some c → (u ≡ t) ⊎ (u ≡ t → ⊥) → IsPlaced (length catalogue) workers (s.invoked + 1) s.locks s.written u c
  placed u c there (inl e) =
      let there' : get_or (set s.threads t (Some b)) t None ≡ Some c = subst (λ (i : ℕ). get_or (set s.threads t (Some b)) i None ≡ Some c) e there in
      let is : Some b ≡ Some c = sym (get_or-set_same s.threads t (Some b) None room) ∙ there' in
      let own : IsPlaced (length catalogue) workers (s.invoked + 1) s.locks s.written t b = record { range = range; number = omega arith; place = first_place call } in
      subst (λ (i : ℕ). IsPlaced (length catalogue) workers (s.invoked + 1) s.locks s.written i c) (sym e)
      (subst (λ (i : Activity). IsPlaced (length catalogue) workers (s.invoked + 1) s.locks s.written t i) (some_same b c is) own) where
        some_same : (x y : Activity) → Some x ≡ Some y → x ≡ y
        some_same x y q = cc
  placed u c there (inr ne) =
      let before : IsPlaced (length catalogue) workers s.invoked s.locks s.written u c = sound.placed u c (sym (get_or-set_other s.threads t u (Some b) None ne) ∙ there) in
      record { range = before.range; number = omega (arith, before.number); place = before.place }

  whole : IsSound catalogue workers new
  whole =
      record {
        few = sound.few;
        shape = sound.shape;
        words = sound.words;
        leaves = sound.leaves;
        inside = λ l u held. rw (get_or-set_other s.threads t u (Some b) None (λ e. holds_none l (held ∙ ap Some e))) (sound.inside l u held);
        placed = λ u c there. placed u c there (cases_eq u t);
        word = λ m h. sound.word m h ∙ ap (λ (x : Table). word_of x m) (sym same);
        lawful = subst (λ (x : Table). IsLawful catalogue x) (sym same) sound.lawful;
      }

-- what is right of a thread's step is right of the machine's
right_go : (catalogue : List Module) (workers : ℕ) (s : State) (t : ℕ) (a : Activity) (e : Event) (new : State) → get_or s.threads t None ≡ Some a
    → IsRight catalogue workers s t a (e, new) → IsSound catalogue workers new × StepLaw catalogue s (Go t) e new
right_go catalogue workers s t a Nothing new here right = right
right_go catalogue workers s t a (Invoked n) new here right = right
right_go catalogue workers s t a Moved new here right = right
right_go catalogue workers s t a (Returned n r) new here right = right
right_go catalogue workers s t a (Point n r) new here right = (right.0, subst (λ (o : Option Activity). IsSomeAnd o (TakesEffect catalogue s new n r)) (sym here) right.1)

-- a step of a thread
pub go_right : (catalogue : List Module) (workers : ℕ) (s : State) (t : ℕ) → IsSound catalogue workers s
    → IsSound catalogue workers (step catalogue s (Go t)).1 × StepLaw catalogue s (Go t) (step catalogue s (Go t)).0 (step catalogue s (Go t)).1
go_right catalogue workers s t sound = at (get_or s.threads t None) refl where
  at : (o : Option Activity) → get_or s.threads t None ≡ o → IsSound catalogue workers (go catalogue s t o).1 × StepLaw catalogue s (Go t) (go catalogue s t o).0 (go catalogue s t o).1
  at None e = (sound, refl)
  at (Some a) e = right_go catalogue workers s t a (line catalogue s t a a.line).0 (line catalogue s t a a.line).1 e (line_right catalogue workers s t a a.line sound e refl)

passes : (b : Bool) (e : StepError) (later : Option StepError) → unless b e later ≡ None → (b ≡ true) × (later ≡ None)
passes true e later h = (refl, h)
passes false e later h = cc

in_range_from : (s : State) (workers : ℕ) (o : Option ℕ) → length s.written.rows ≡ workers → worker_exists s o ≡ true → IsWorkerInRange workers o
in_range_from s workers None rows e = tt
in_range_from s workers (Some w) rows e = let h : w < length s.written.rows = ltb-true _ _ e in omega (arith, h, rows)

pub steps_are_right : StepsAreRight
steps_are_right catalogue workers s (Go t) sound allowed = go_right catalogue workers s t sound
steps_are_right catalogue workers s (Invoke t call) sound allowed =
    let one : (ltb t (length s.threads) ≡ true) × (unless (worker_exists s (worker_of call)) Worker (unless (ltb (slot_of call) (length catalogue)) Slot (cond (is_some (activity s t)) None (unless (ltb s.invoked s.calls) Calls None))) ≡ None) = passes _ _ _ allowed in
    let two : (worker_exists s (worker_of call) ≡ true) × (unless (ltb (slot_of call) (length catalogue)) Slot (cond (is_some (activity s t)) None (unless (ltb s.invoked s.calls) Calls None)) ≡ None) = passes _ _ _ one.1 in
    let three : (ltb (slot_of call) (length catalogue) ≡ true) × (cond (is_some (activity s t)) None (unless (ltb s.invoked s.calls) Calls None) ≡ None) = passes _ _ _ two.1 in
    at (get_or s.threads t None) refl (ltb-true _ _ one.0) (ltb-true _ _ three.0, in_range_from s workers (worker_of call) sound.shape.rows two.0) where
      at : (o : Option Activity) → get_or s.threads t None ≡ o → t < length s.threads → IsInRange (length catalogue) workers call
          → IsSound catalogue workers (invoke s t call o).1 × StepLaw catalogue s (Invoke t call) (invoke s t call o).0 (invoke s t call o).1
      at None e room range = invoke_line catalogue workers s t call sound e room range
      at (Some a) e room range = (sound, refl)

pub starts_sound : StartsSound
starts_sound catalogue workers threads calls few = (whole, same) where
  s : State
  s = start catalogue workers threads calls

  idle : (t : ℕ) → get_or s.threads t None ≡ None
  idle t = replicated threads t None

  unheld : (l : LockName) → holder s.locks l ≡ None
  unheld (Leaf w) = replicated workers w None
  unheld TableLock = refl
  unheld NoLock = refl

  rows : rows_after s.threads s.locks.leaves s.written.rows ≡ s.written.rows
  rows = rows_after-none s.threads s.locks.leaves s.written.rows (λ w. ap (pending s.threads) (unheld (Leaf w)))

  same : shown s ≡ opening catalogue workers
  same = rw rows refl

  whole : IsSound catalogue workers s
  whole =
      record {
        few = few;
        shape = opening_shaped catalogue workers;
        words = length-replicate (length catalogue) 4294967296;
        leaves = length-replicate workers None;
        inside = λ l t held. let bad : None ≡ Some t = sym (unheld l) ∙ held in cc;
        placed = λ t a there. let bad : None ≡ Some a = sym (idle t) ∙ there in cc;
        word = λ m h. get_or-replicate (length catalogue) m 4294967296 0 h ∙ sym (ap (λ (x : Table). word_of x m) same ∙ ap (λ (i : ModuleState). word_in i (holders (opening catalogue workers).rows m)) (opening_absent catalogue workers m));
        lawful = subst (λ (x : Table). IsLawful catalogue x) (sym same) (opening_lawful catalogue workers);
      }
