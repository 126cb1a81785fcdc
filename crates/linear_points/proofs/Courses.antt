-- Each call of a run lives as its stage allows.
use Rattle.std.proofs.Common.{◌≡◌, ◌≢◌, ℕ, ◌+◌, ◌<◌, ◌⊎◌, inl, inr, Bool, true, false, eqb, List, [], ◌∷◌, length, get_or, Option, Some, None, refl, sym, ◌∙◌, ap, subst, arith, get_or-set_same, get_or-set_other}
use Rattle.std.proofs.Math.ListN.{set}
use Rattle.std.proofs.lemmas.Bool.{cases_eq, eqb-true, eqb-false}
use Rattle.std.proofs.lemmas.List.{set-get_or}
use Rattle.std.specs.Bool.{MatchBool}
use Rattle.std.specs.Option.{is_some}
use Rattle.dep_index.specs.declared.table.calls.Call.{Call}
use Rattle.dep_index.specs.declared.table.calls.Call.TheVariants.{Get, Put, InUse as Query, BeginLoad, EndLoad, BeginDrain, BeginRemove, EndRemove, CancelRemove}
use Rattle.dep_index.specs.declared.table.calls.Reply.{Reply}
use Rattle.dep_index.specs.declared.table.calls.Reply.TheVariants.{Done, Yes, No, NotLive, TooMany, NotHeld, Exists, UnknownSymbol, NeedNotLive, NotLoading, NoEntry, NeededBy, Permanent, InUse, NotUnloading}
use Rattle.dep_index.specs.declared.words.Outcome.{Outcome}
use Rattle.dep_index.specs.declared.words.Outcome.TheVariants.{Effect, GoesOn}
use Rattle.dep_index.specs.Words.{word_step}
use Rattle.dep_index.specs.Calls.{slot_of}
use Rattle.dep_index.specs.Table.{Module}
use Rattle.step_core.specs.declared.steps.Step.{Step}
use Rattle.step_core.specs.declared.steps.Step.TheVariants.{Invoke, Go}
use Rattle.step_core.specs.declared.steps.Event.{Event}
use Rattle.step_core.specs.declared.steps.Event.TheVariants.{Nothing, Invoked, Moved, Point as Takes, Returned}
use Rattle.step_core.specs.declared.steps.Line.{Line}
use Rattle.step_core.specs.declared.steps.Line.TheVariants.{Lock, Word, Exchange, Write, Return}
use Rattle.step_core.specs.declared.steps.Activity.{Activity}
use Rattle.step_core.specs.Machine.{State, line, locked, stepped, exchanged, go, invoke, step, holder, lock_of, line_after, first_line}
use Rattle.step_core.specs.Run.{IsAccepted, events}
use Rattle.step_core.specs.Sound.{IsSound}
use Rattle.step_core.proofs.Shown.{active_in_range}
use Rattle.step_core.proofs.WholeSteps.{steps_are_right}
use Rattle.linear_points.proofs.Replay.{thread_in_range, go_keeps, KeepsCalls, WasThere}
use Rattle.linear_points.proofs.Lives.{Stage, Before, Open, Effective, Over, stage_at, IsAt, IsDistinct, Lives}

stage_after : (r : Reply) → stage_at (line_after r) ≡ Effective r
stage_after Done = refl
stage_after Yes = refl
stage_after No = refl
stage_after NotLive = refl
stage_after TooMany = refl
stage_after NotHeld = refl
stage_after Exists = refl
stage_after UnknownSymbol = refl
stage_after (NeedNotLive n) = refl
stage_after NotLoading = refl
stage_after NoEntry = refl
stage_after NeededBy = refl
stage_after Permanent = refl
stage_after InUse = refl
stage_after NotUnloading = refl

-- the thread goes on with its call, at this stage
abbrev pub StaysIn : State → ℕ → Activity → State → Stage → Type 0
StaysIn s t a new stage = (b : Activity) × (new.threads ≡ set s.threads t (Some b)) × (b.number ≡ a.number) × (stage_at b.line ≡ stage) × (new.invoked ≡ s.invoked)

-- what a line of a thread's call does to its stage
abbrev pub Course : State → ℕ → Activity → Event → State → Type 0
Course s t a Nothing new = StaysIn s t a new (stage_at a.line)
Course s t a Moved new = StaysIn s t a new (stage_at a.line)
Course s t a (Invoked k) new = ⊥
Course s t a (Takes k r) new = (k ≡ a.number) × (stage_at a.line ≡ Open) × StaysIn s t a new (Effective r)
Course s t a (Returned k r) new = (k ≡ a.number) × (stage_at a.line ≡ Effective r) × (new.threads ≡ set s.threads t None) × (new.invoked ≡ s.invoked)

pub line_course : (catalogue : List Module) (s : State) (t : ℕ) (a : Activity) (l : Line) → get_or s.threads t None ≡ Some a → a.line ≡ l
    → Course s t a (line catalogue s t a l).0 (line catalogue s t a l).1
line_course catalogue s t a Lock here is = at (is_some (holder s.locks (lock_of a.call))) where
  stays : set s.threads t (Some a) ≡ s.threads
  stays = ap (set s.threads t) (sym here) ∙ set-get_or s.threads t None

  at : (b : Bool) → Course s t a (locked s t a b).0 (locked s t a b).1
  at true = (a, sym stays, refl, refl, refl)
  at false = (record a { line = Word }, refl, refl, sym (ap stage_at is), refl)
line_course catalogue s t a Word here is = at (word_step catalogue s.written a.call (get_or s.words (slot_of a.call) 0)).word (word_step catalogue s.written a.call (get_or s.words (slot_of a.call) 0)).outcome where
  at : (v : ℕ) (o : Outcome) → Course s t a (stepped s t a v o).0 (stepped s t a v o).1
  at v (Effect r) = (refl, ap stage_at is, (record a { line = line_after r }, refl, refl, stage_after r, refl))
  at v (GoesOn x) = (record a { line = Exchange x }, refl, refl, sym (ap stage_at is), refl)
line_course catalogue s t a (Exchange x) here is = at (eqb (get_or s.words (slot_of a.call) 0) x) where
  at : (b : Bool) → Course s t a (exchanged s t a x b).0 (exchanged s t a x b).1
  at true = (refl, ap stage_at is, (record a { line = Write }, refl, refl, refl, refl))
  at false = (record a { line = Word }, refl, refl, sym (ap stage_at is), refl)
line_course catalogue s t a Write here is = (record a { line = Return Done }, refl, refl, sym (ap stage_at is), refl)
line_course catalogue s t a (Return r) here is = (refl, ap stage_at is, refl, refl)

some_same : (x y : Activity) → Some x ≡ Some y → x ≡ y
some_same x y q = cc

-- the stage of the call that a thread makes
own_stage : (s : State) (t : ℕ) (a : Activity) (n : ℕ) (stage : Stage) → IsDistinct s → ((u : ℕ) (b : Activity) → get_or s.threads u None ≡ Some b → b.number < s.invoked)
    → get_or s.threads t None ≡ Some a → a.number ≡ n → IsAt s n stage → stage_at a.line ≡ stage
own_stage s t a n Before apart below here is at_n = absurd (omega (arith, at_n, below t a here, is))
own_stage s t a n Over apart below here is at_n = absurd (at_n.1 t a here is)
own_stage s t a n Open apart below here is (u, b, there, number, stage) =
    let same_thread : u ≡ t = apart u t b a there here (number ∙ sym is) in
    let there' : get_or s.threads t None ≡ Some b = subst (λ (i : ℕ). get_or s.threads i None ≡ Some b) same_thread there in
    let same : b ≡ a = some_same b a (sym there' ∙ here) in
    ap (λ (x : Activity). stage_at x.line) (sym same) ∙ stage
own_stage s t a n (Effective r) apart below here is (u, b, there, number, stage) =
    let same_thread : u ≡ t = apart u t b a there here (number ∙ sym is) in
    let there' : get_or s.threads t None ≡ Some b = subst (λ (i : ℕ). get_or s.threads i None ≡ Some b) same_thread there in
    let same : b ≡ a = some_same b a (sym there' ∙ here) in
    ap (λ (x : Activity). stage_at x.line) (sym same) ∙ stage

-- a thread that is at a stage of call n
at_from : (s : State) (n t : ℕ) (b : Activity) (stage : Stage) → get_or s.threads t None ≡ Some b → b.number ≡ n → stage_at b.line ≡ stage → IsAt s n stage
at_from s n t b Open there number is = (t, b, there, number, is)
at_from s n t b (Effective r) there number is = (t, b, there, number, is)
at_from s n t b Before there number is = absurd (no_before b.line is) where
  no_before : (l : Line) → stage_at l ≡ Before → ⊥
  no_before Lock e = cc
  no_before Word e = cc
  no_before (Exchange x) e = cc
  no_before Write e = cc
  no_before (Return r) e = cc
at_from s n t b Over there number is = absurd (no_over b.line is) where
  no_over : (l : Line) → stage_at l ≡ Over → ⊥
  no_over Lock e = cc
  no_over Word e = cc
  no_over (Exchange x) e = cc
  no_over Write e = cc
  no_over (Return r) e = cc

-- what thread t does changes the stage of no other call
other_stage : (s new : State) (t : ℕ) (a : Activity) (x : Option Activity) (n : ℕ) (stage : Stage) → get_or s.threads t None ≡ Some a → (a.number ≡ n → ⊥)
    → new.threads ≡ set s.threads t x → new.invoked ≡ s.invoked → ((b : Activity) → x ≡ Some b → b.number ≡ a.number)
    → IsAt s n stage → IsAt new n stage
other_stage s new t a x n Before here ne threads invoked same at_n = omega (arith, at_n, invoked)
other_stage s new t a x n Over here ne threads invoked same at_n = (omega (arith, at_n.0, invoked), λ u b there. at (cases_eq u t) (subst (λ (ts : List (Option Activity)). get_or ts u None ≡ Some b) threads there)) where
  at : {u : ℕ} {b : Activity} → (u ≡ t) ⊎ (u ≡ t → ⊥) → get_or (set s.threads t x) u None ≡ Some b → b.number ≢ n
  at {u = u} {b = b} (inl e) there is =
      let there' : get_or (set s.threads t x) t None ≡ Some b = subst (λ (i : ℕ). get_or (set s.threads t x) i None ≡ Some b) e there in
      ne (sym (same b (sym (get_or-set_same s.threads t x None (active_in_range s.threads t a here)) ∙ there')) ∙ is)
  at {u = u} {b = b} (inr nu) there is = at_n.1 u b (sym (get_or-set_other s.threads t u x None nu) ∙ there) is
other_stage s new t a x n Open here ne threads invoked same (u, b, there, number, stage) =
    (u, b, ap (λ (ts : List (Option Activity)). get_or ts u None) threads ∙ get_or-set_other s.threads t u x None (elsewhere u b there number) ∙ there, number, stage) where
      elsewhere : (v : ℕ) (c : Activity) → get_or s.threads v None ≡ Some c → c.number ≡ n → v ≢ t
      elsewhere v c there number e = ne (ap (λ (y : Activity). y.number) (some_same a c (sym here ∙ ap (λ (i : ℕ). get_or s.threads i None) (sym e) ∙ there)) ∙ number)
other_stage s new t a x n (Effective r) here ne threads invoked same (u, b, there, number, stage) =
    (u, b, ap (λ (ts : List (Option Activity)). get_or ts u None) threads ∙ get_or-set_other s.threads t u x None (elsewhere u b there number) ∙ there, number, stage) where
      elsewhere : (v : ℕ) (c : Activity) → get_or s.threads v None ≡ Some c → c.number ≡ n → v ≢ t
      elsewhere v c there number e = ne (ap (λ (y : Activity). y.number) (some_same a c (sym here ∙ ap (λ (i : ℕ). get_or s.threads i None) (sym e) ∙ there)) ∙ number)

-- a thread that goes on: call n is at its stage still
went_on_at : (s new : State) (t : ℕ) (a : Activity) (n : ℕ) (stage : Stage) → get_or s.threads t None ≡ Some a → IsDistinct s
    → ((u : ℕ) (b : Activity) → get_or s.threads u None ≡ Some b → b.number < s.invoked)
    → StaysIn s t a new (stage_at a.line) → IsAt s n stage → IsAt new n stage
went_on_at s new t a n stage here apart below course at_n = at (cases_eq a.number n) where
  there : get_or new.threads t None ≡ Some course.0
  there = ap (λ (ts : List (Option Activity)). get_or ts t None) course.1 ∙ get_or-set_same s.threads t (Some course.0) None (active_in_range s.threads t a here)

  at : (a.number ≡ n) ⊎ (a.number ≡ n → ⊥) → IsAt new n stage
  at (inl is) = at_from new n t course.0 stage there (course.2 ∙ is) (course.3 ∙ own_stage s t a n stage apart below here is at_n)
  at (inr ne) = other_stage s new t a (Some course.0) n stage here ne course.1 course.4 (λ b e. ap (λ (y : Activity). y.number) (sym (some_same course.0 b e)) ∙ course.2) at_n

-- one step of a thread in the life of call n
go_lives : (s new : State) (t : ℕ) (a : Activity) (n : ℕ) (stage : Stage) (e : Event) (es : List Event) → Course s t a e new → get_or s.threads t None ≡ Some a → IsDistinct s
    → ((u : ℕ) (b : Activity) → get_or s.threads u None ≡ Some b → b.number < s.invoked)
    → IsAt s n stage → ((after : Stage) → IsAt new n after → Lives n after es) → Lives n stage (e ∷ es)
go_lives s new t a n stage Nothing es course here apart below at_n rest = rest stage (went_on_at s new t a n stage here apart below course at_n)
go_lives s new t a n stage Moved es course here apart below at_n rest = rest stage (went_on_at s new t a n stage here apart below course at_n)
go_lives s new t a n stage (Invoked k) es course here apart below at_n rest = absurd course
go_lives s new t a n stage (Takes k r) es course here apart below at_n rest = at (eqb k n) refl where
  on : StaysIn s t a new (Effective r)
  on = course.2

  there : get_or new.threads t None ≡ Some on.0
  there = ap (λ (ts : List (Option Activity)). get_or ts t None) on.1 ∙ get_or-set_same s.threads t (Some on.0) None (active_in_range s.threads t a here)

  at : (b : Bool) → eqb k n ≡ b → MatchBool b ((stage ≡ Open) × Lives n (Effective r) es) (Lives n stage es)
  at true e =
      let is : a.number ≡ n = sym course.0 ∙ eqb-true k n e in
      (sym (own_stage s t a n stage apart below here is at_n) ∙ course.1, rest (Effective r) (at_from new n t on.0 (Effective r) there (on.2 ∙ is) on.3))
  at false e =
      let ne : a.number ≡ n → ⊥ = λ is. eqb-false k n e (course.0 ∙ is) in
      rest stage (other_stage s new t a (Some on.0) n stage here ne on.1 on.4 (λ b q. ap (λ (y : Activity). y.number) (sym (some_same on.0 b q)) ∙ on.2) at_n)
go_lives s new t a n stage (Returned k r) es course here apart below at_n rest = at (eqb k n) refl where
  nobody : a.number ≡ n → (u : ℕ) (b : Activity) → get_or (set s.threads t None) u None ≡ Some b → (u ≡ t) ⊎ (u ≡ t → ⊥) → b.number ≢ n
  nobody is u b there (inl e) number =
      let gone : get_or (set s.threads t None) t None ≡ Some b = subst (λ (i : ℕ). get_or (set s.threads t None) i None ≡ Some b) e there in
      let bad : None ≡ Some b = sym (get_or-set_same s.threads t None None (active_in_range s.threads t a here)) ∙ gone in cc
  nobody is u b there (inr nu) number = nu (apart u t b a (sym (get_or-set_other s.threads t u None None nu) ∙ there) here (number ∙ sym is))

  at : (b : Bool) → eqb k n ≡ b → MatchBool b ((stage ≡ Effective r) × Lives n Over es) (Lives n stage es)
  at true e =
      let is : a.number ≡ n = sym course.0 ∙ eqb-true k n e in (
        sym (own_stage s t a n stage apart below here is at_n) ∙ course.1,
        rest Over (omega (arith, is, below t a here, course.3), λ u b there. nobody is u b (subst (λ (ts : List (Option Activity)). get_or ts u None ≡ Some b) course.2 there) (cases_eq u t)),
      )
  at false e =
      let ne : a.number ≡ n → ⊥ = λ is. eqb-false k n e (course.0 ∙ is) in
      rest stage (other_stage s new t a None n stage here ne course.2 course.3 (λ b q. absurd (none_some b q)) at_n) where
        none_some : (b : Activity) → None ≡ Some b → ⊥
        none_some b q = cc

first_stage : (call : Call) → stage_at (first_line call) ≡ Open
first_stage call = at call where
  at : (c : Call) → stage_at (first_line c) ≡ Open
  at (Get w m) = refl
  at (Put w m) = refl
  at (Query m) = refl
  at (BeginLoad m) = refl
  at (EndLoad m ok) = refl
  at (BeginDrain m) = refl
  at (BeginRemove m) = refl
  at (EndRemove m) = refl
  at (CancelRemove m) = refl

-- a call that begins
invoke_lives : (s new : State) (t : ℕ) (b : Activity) (n : ℕ) (stage : Stage) (es : List Event) → get_or s.threads t None ≡ None → t < length s.threads
    → new.threads ≡ set s.threads t (Some b) → new.invoked ≡ s.invoked + 1 → b.number ≡ s.invoked → stage_at b.line ≡ Open
    → ((u : ℕ) (c : Activity) → get_or s.threads u None ≡ Some c → c.number < s.invoked)
    → IsAt s n stage → ((after : Stage) → IsAt new n after → Lives n after es) → Lives n stage (Invoked s.invoked ∷ es)
invoke_lives s new t b n stage es idle room threads invoked number is_open below at_n rest = at (eqb s.invoked n) refl where
  there : get_or new.threads t None ≡ Some b
  there = ap (λ (ts : List (Option Activity)). get_or ts t None) threads ∙ get_or-set_same s.threads t (Some b) None room

  first : s.invoked ≡ n → (σ : Stage) → IsAt s n σ → σ ≡ Before
  first is Before q = refl
  first is Over q = absurd (omega (arith, q.0, is))
  first is Open (u, c, here, k, l) = absurd (omega (arith, below u c here, k, is))
  first is (Effective r) (u, c, here, k, l) = absurd (omega (arith, below u c here, k, is))

  busy : (u : ℕ) (c : Activity) → get_or s.threads u None ≡ Some c → u ≢ t
  busy u c here e = let bad : None ≡ Some c = sym idle ∙ ap (λ (i : ℕ). get_or s.threads i None) (sym e) ∙ here in cc

  still : (u : ℕ) (c : Activity) → get_or s.threads u None ≡ Some c → get_or new.threads u None ≡ Some c
  still u c here = ap (λ (ts : List (Option Activity)). get_or ts u None) threads ∙ get_or-set_other s.threads t u (Some b) None (busy u c here) ∙ here

  other : (s.invoked ≡ n → ⊥) → (σ : Stage) → IsAt s n σ → IsAt new n σ
  other ne Before q = omega (arith, q, ne, invoked)
  other ne Over q = (omega (arith, q.0, invoked), λ u c here. numbered u c (subst (λ (ts : List (Option Activity)). get_or ts u None ≡ Some c) threads here) (cases_eq u t)) where
    numbered : (u : ℕ) (c : Activity) → get_or (set s.threads t (Some b)) u None ≡ Some c → (u ≡ t) ⊎ (u ≡ t → ⊥) → c.number ≢ n
    numbered u c here (inl e) k =
        let at_t : get_or (set s.threads t (Some b)) t None ≡ Some c = subst (λ (i : ℕ). get_or (set s.threads t (Some b)) i None ≡ Some c) e here in
        let same : b ≡ c = some_same b c (sym (get_or-set_same s.threads t (Some b) None room) ∙ at_t) in
        ne (sym number ∙ ap (λ (y : Activity). y.number) same ∙ k)
    numbered u c here (inr nu) k = q.1 u c (sym (get_or-set_other s.threads t u (Some b) None nu) ∙ here) k
  other ne Open (u, c, here, k, l) = (u, c, still u c here, k, l)
  other ne (Effective r) (u, c, here, k, l) = (u, c, still u c here, k, l)

  at : (x : Bool) → eqb s.invoked n ≡ x → MatchBool x ((stage ≡ Before) × Lives n Open es) (Lives n stage es)
  at true e = (first (eqb-true s.invoked n e) stage at_n, rest Open (t, b, there, number ∙ eqb-true s.invoked n e, is_open))
  at false e = rest stage (other (eqb-false s.invoked n e) stage at_n)

-- distinct threads make distinct calls, after a step too
distinct_go : (catalogue : List Module) (s : State) (t : ℕ) → IsDistinct s → IsDistinct (step catalogue s (Go t)).1
distinct_go catalogue s t apart u v b d there_b there_d same =
    let keeps : KeepsCalls s (step catalogue s (Go t)).1 = go_keeps catalogue s t in
    let was_b : WasThere s u b = keeps.1 u b there_b in
    let was_d : WasThere s v d = keeps.1 v d there_d in
    apart u v was_b.0 was_d.0 was_b.1 was_d.1 (sym was_b.2 ∙ same ∙ was_d.2)

distinct_begun : (s : State) (t : ℕ) (b : Activity) → t < length s.threads → b.number ≡ s.invoked → ((u : ℕ) (c : Activity) → get_or s.threads u None ≡ Some c → c.number < s.invoked)
    → IsDistinct s → (u v : ℕ) (c d : Activity) → get_or (set s.threads t (Some b)) u None ≡ Some c → get_or (set s.threads t (Some b)) v None ≡ Some d → c.number ≡ d.number → u ≡ v
distinct_begun s t b room number below apart u v c d there_c there_d same = at (cases_eq u t) (cases_eq v t) where
  new_one : (w : ℕ) (x : Activity) → get_or (set s.threads t (Some b)) w None ≡ Some x → w ≡ t → x.number ≡ s.invoked
  new_one w x there e =
      let at_t : get_or (set s.threads t (Some b)) t None ≡ Some x = subst (λ (i : ℕ). get_or (set s.threads t (Some b)) i None ≡ Some x) e there in
      ap (λ (y : Activity). y.number) (sym (some_same b x (sym (get_or-set_same s.threads t (Some b) None room) ∙ at_t))) ∙ number

  old_one : (w : ℕ) (x : Activity) → get_or (set s.threads t (Some b)) w None ≡ Some x → (w ≡ t → ⊥) → get_or s.threads w None ≡ Some x
  old_one w x there ne = sym (get_or-set_other s.threads t w (Some b) None ne) ∙ there

  at : (u ≡ t) ⊎ (u ≡ t → ⊥) → (v ≡ t) ⊎ (v ≡ t → ⊥) → u ≡ v
  at (inl e) (inl f) = e ∙ sym f
  at (inl e) (inr nf) = absurd (omega (arith, new_one u c there_c e, below v d (old_one v d there_d nf), same))
  at (inr ne) (inl f) = absurd (omega (arith, new_one v d there_d f, below u c (old_one u c there_c ne), same))
  at (inr ne) (inr nf) = apart u v c d (old_one u c there_c ne) (old_one v d there_d nf) same

abbrev LivesLater : List Module → ℕ → ℕ → List Step → Type 0
LivesLater catalogue workers n steps =
    (s : State) (stage : Stage) → IsSound catalogue workers s → IsDistinct s → IsAccepted catalogue s steps → IsAt s n stage → Lives n stage (events catalogue s steps)

lives_invoke : (catalogue : List Module) (workers n : ℕ) (s : State) (t : ℕ) (call : Call) (stage : Stage) (steps : List Step) → LivesLater catalogue workers n steps
    → IsSound catalogue workers s → IsDistinct s → t < length s.threads → (o : Option Activity) → get_or s.threads t None ≡ o
    → IsSound catalogue workers (invoke s t call o).1 → IsAccepted catalogue (invoke s t call o).1 steps → IsAt s n stage
    → Lives n stage ((invoke s t call o).0 ∷ events catalogue (invoke s t call o).1 steps)
lives_invoke catalogue workers n s t call stage steps later sound apart room (Some a) here sound' accepted at_n = later s stage sound apart accepted at_n
lives_invoke catalogue workers n s t call stage steps later sound apart room None here sound' accepted at_n =
    invoke_lives s (invoke s t call None).1 t (record { number = s.invoked; call = call; line = first_line call }) n stage (events catalogue (invoke s t call None).1 steps) here room refl refl refl (first_stage call)
    (λ u c there. (sound.placed u c there).number) at_n
    (λ after at_after. later (invoke s t call None).1 after sound'
    (distinct_begun s t (record { number = s.invoked; call = call; line = first_line call }) room refl (λ u c there. (sound.placed u c there).number) apart) accepted at_after)

lives_go : (catalogue : List Module) (workers n : ℕ) (s : State) (t : ℕ) (stage : Stage) (steps : List Step) → LivesLater catalogue workers n steps
    → IsSound catalogue workers s → IsDistinct s → (o : Option Activity) → get_or s.threads t None ≡ o
    → IsSound catalogue workers (go catalogue s t o).1 → IsDistinct (go catalogue s t o).1 → IsAccepted catalogue (go catalogue s t o).1 steps → IsAt s n stage
    → Lives n stage ((go catalogue s t o).0 ∷ events catalogue (go catalogue s t o).1 steps)
lives_go catalogue workers n s t stage steps later sound apart None here sound' apart' accepted at_n = later s stage sound apart accepted at_n
lives_go catalogue workers n s t stage steps later sound apart (Some a) here sound' apart' accepted at_n =
    go_lives s (line catalogue s t a a.line).1 t a n stage (line catalogue s t a a.line).0 (events catalogue (line catalogue s t a a.line).1 steps)
    (line_course catalogue s t a a.line here refl) here apart (λ u c there. (sound.placed u c there).number) at_n
    (λ after at_after. later (line catalogue s t a a.line).1 after sound' apart' accepted at_after)

pub lives_from : (catalogue : List Module) (workers n : ℕ) (steps : List Step) → LivesLater catalogue workers n steps
lives_from catalogue workers n [] s stage sound apart accepted at_n = tt
lives_from catalogue workers n (Go t ∷ steps) s stage sound apart accepted at_n =
    lives_go catalogue workers n s t stage steps (lives_from catalogue workers n steps) sound apart (get_or s.threads t None) refl
    ((steps_are_right catalogue workers s (Go t) sound accepted.0).0) (distinct_go catalogue s t apart) accepted.1 at_n
lives_from catalogue workers n (Invoke t call ∷ steps) s stage sound apart accepted at_n =
    lives_invoke catalogue workers n s t call stage steps (lives_from catalogue workers n steps) sound apart (thread_in_range catalogue s t call accepted.0) (get_or s.threads t None) refl
    ((steps_are_right catalogue workers s (Invoke t call) sound accepted.0).0) accepted.1 at_n
