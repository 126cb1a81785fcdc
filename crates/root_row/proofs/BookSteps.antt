-- The steps of the book.
use Rattle.std.proofs.Common.{◌≡◌, ◌≢◌, ◌⊎◌, ⊎_elim, ℕ, ◌+◌, ◌-◌, ◌%◌, ◌^◌, ◌<◌, Bool, true, false, cond, not, ◌||◌, List, [], ◌∷◌, Option, Some, None, get_or, eqb, ◌==◌, refl, sym, ap, ◌∙◌, subst, arith, eq-eqb, ne_eqb, MatchOption}
use mathlib.Core.Option.{some, none}
use lib.ListN.{get_elem?}
use prog.Atomic.{either}
use Rattle.atomic_table.specs.Table.{Me, Step, Act, Valid, keeps, carried_after, step, stepped, Allows}
use Rattle.atomic_table.proofs.Lists.{exchanged}
use Rattle.dep_index.specs.declared.table.states.ModuleState.{ModuleState}
use Rattle.dep_index.specs.declared.table.states.ModuleState.TheVariants as state_is
use Rattle.dep_index.specs.declared.table.calls.Reply.{Reply}
use Rattle.dep_index.specs.declared.table.calls.Reply.TheVariants.{Done, InUse, NotLoading, NotUnloading}
use Rattle.dep_index.specs.Table.{Book, Table, state_of, is_loading, is_draining, is_unloading, holders}
use Rattle.dep_index.specs.Calls.{or_else, refuse, book_refusal, reply, next, effect, book_effect, book_given, is_done, IsInRange}
use Rattle.dep_index.specs.Words.{word_in, word_of, book_step, close_step, takes_effect, unless_refused, closed, drained, MatchOutcome, is_open}
use Rattle.dep_index.specs.declared.words.WordStep.{WordStep}
use Rattle.dep_index.proofs.TableLaws.{unload_passed, live_from}
use Rattle.root_row.specs.declared.calls.BookCall.{BookCall}
use Rattle.root_row.specs.declared.calls.BookCall.TheVariants as book_is
use Rattle.root_row.specs.declared.view.World.{World}
use Rattle.root_row.specs.declared.view.SeatName.TheVariants as name_is
use Rattle.root_row.specs.declared.view.Part.TheVariants as part_is
use Rattle.root_row.specs.declared.view.Member.{Member}
use Rattle.root_row.specs.declared.view.View.{View}
use Rattle.root_row.specs.World.{slots, place_of}
use Rattle.root_row.specs.History.{table_after, makes}
use Rattle.root_row.specs.Views.{Part, member, name_of, IsOne, seen_in, part_in, book_in, book_of, IsBook, state_in}
use Rattle.root_row.specs.Rule.{Agrees, RowRule}
use Rattle.root_row.specs.Steps.{AtSlot, SeatState, word_after}
use Rattle.root_row.specs.BookSteps.{book_call, unrefused_look, book_look, BookAnswered, LookedBook, MayLeave, TriedClose, closing}
use Rattle.root_row.specs.StepsMade.{unheld_word}
use Rattle.root_row.proofs.Moves as move

-- a slot that may leave is Live
pub leaves_live : (v : View) (m : ℕ) → MayLeave v m → state_in v m ≡ state_is.Live
leaves_live v m may = live_from (state_in v m) (unload_passed v.world.catalogue (book_of v) m may).0

-- the book's view stays one
pub book_one : (w : View) (b : Book) → IsOne w (part_is.Book b) → IsBook w
book_one w b e = let P : List Member → Type 0 = λ ps. ps ≡ member (part_is.Book (book_in (part_in ps))) (seen_in ps) ∷ [] in subst P (sym e) refl

pub answered_book : (m : ℕ) (kind : BookCall) (answer : Reply) (v w : View) → BookAnswered v m kind answer w → IsBook w
answered_book m kind answer v w t = book_one w _ t.members

pub looked_book_one : (kind : BookCall) (m found : ℕ) (v w : View) → IsBook v → LookedBook kind m v found w → IsBook w
looked_book_one kind m found v w is told = by_case (book_look v.world (book_of v) kind m) told
  where
    by_case : (o : Option Reply) → MatchOption o (w ≡ v) (λ r. BookAnswered v m kind r w × (found ≡ word_after w m)) → IsBook w
    by_case (Some r) t = answered_book m kind r v w t.0
    by_case None t = subst IsBook (sym t) is

module _ (s : move.St) (id : ℕ) (v : View) (kept : RowRule v.world s) (at : get_elem? s.views id ≡ some v) (single : IsBook v) (m : ℕ) (inside : m < slots v.world) (c : List (ℕ × Unit {0})) where
  abbrev T : Table
  T = table_after v.world kept.history

  abbrev book : Book
  book = book_of v

  abbrev x : Part
  x = part_is.Book (book_of v)

  abbrev n : ℕ
  n = get_or s.words (place_of m) 0

  abbrev h : ℕ
  h = holders (table_after v.world kept.history).rows m

  book_is_own : T.book ≡ book
  book_is_own = (move.fits_one v.world s kept id v x single at).agrees

  few : h < closed
  few = move.few_holders v.world s kept m

  found_is : n ≡ word_in (state_in v m) h
  found_is = kept.words m inside ∙ ap (λ (b : Book). word_in (state_of b m) h) book_is_own

  range : (kind : BookCall) → IsInRange (slots v.world) v.world.workers (book_call kind m)
  range book_is.BeginLoad = (inside, tt)
  range (book_is.EndLoad ok) = (inside, tt)
  range book_is.BeginDrain = (inside, tt)
  range book_is.BeginRemove = (inside, tt)
  range book_is.EndRemove = (inside, tt)
  range book_is.CancelRemove = (inside, tt)

  maker : (kind : BookCall) → makes name_is.Book (book_call kind m) ≡ true
  maker book_is.BeginLoad = refl
  maker (book_is.EndLoad ok) = refl
  maker book_is.BeginDrain = refl
  maker book_is.BeginRemove = refl
  maker book_is.EndRemove = refl
  maker book_is.CancelRemove = refl

  others_stay : (kind : BookCall) (j : ℕ) → j ≢ m → word_of (next v.world.catalogue T (book_call kind m)) j ≡ word_of T j
  others_stay book_is.BeginLoad = move.others_stay v.world s kept (book_call book_is.BeginLoad m) (inside, tt)
  others_stay (book_is.EndLoad ok) = move.others_stay v.world s kept (book_call (book_is.EndLoad ok) m) (inside, tt)
  others_stay book_is.BeginDrain = move.others_stay v.world s kept (book_call book_is.BeginDrain m) (inside, tt)
  others_stay book_is.BeginRemove = move.others_stay v.world s kept (book_call book_is.BeginRemove m) (inside, tt)
  others_stay book_is.EndRemove = move.others_stay v.world s kept (book_call book_is.EndRemove m) (inside, tt)
  others_stay book_is.CancelRemove = move.others_stay v.world s kept (book_call book_is.CancelRemove m) (inside, tt)

  -- a call of the book changes no row
  rows_stay : (kind : BookCall) → (effect T (book_call kind m)).rows ≡ T.rows
  rows_stay book_is.BeginLoad = refl
  rows_stay (book_is.EndLoad ok) = refl
  rows_stay book_is.BeginDrain = refl
  rows_stay book_is.BeginRemove = refl
  rows_stay book_is.EndRemove = refl
  rows_stay book_is.CancelRemove = refl

  own_given : (kind : BookCall) (b : Bool) → (cond b (effect T (book_call kind m)) T).book ≡ cond b (book_effect book (book_call kind m)) book
  own_given kind true = ap (λ (b : Book). book_effect b (book_call kind m)) book_is_own
  own_given kind false = book_is_own

  rows_given : (kind : BookCall) (b : Bool) → (cond b (effect T (book_call kind m)) T).rows ≡ T.rows
  rows_given kind true = rows_stay kind
  rows_given kind false = refl

  others_given : (t : Table) → t.rows ≡ T.rows → (y : Part) → name_of y ≢ name_is.Book → Agrees T y → Agrees t y
  others_given t same (part_is.Leaf u row) ne old = ap (λ rows. get_elem? rows u) same ∙ old
  others_given t same (part_is.Reader r) ne old = tt
  others_given t same (part_is.Book b) ne old = absurd (ne refl)

  abbrev given : BookCall → Reply → Part
  given kind r = part_is.Book (book_given r (book_of v) (book_call kind m))

  turns : (kind : BookCall) (r : Reply) (n' : ℕ) → reply v.world.catalogue T (book_call kind m) ≡ r → n' ≡ word_of (next v.world.catalogue T (book_call kind m)) m
      → move.Turns T (next v.world.catalogue T (book_call kind m)) x (given kind r) m n'
  turns kind r n' is here =
      let same = move.next_by v.world s kept (book_call kind m) (range kind) r is in record {
        same = refl;
        agrees = ap (λ (t : Table). t.book) same ∙ own_given kind (is_done r);
        others = others_given (next v.world.catalogue T (book_call kind m)) (ap (λ (t : Table). t.rows) same ∙ rows_given kind (is_done r));
        here = here;
        elsewhere = others_stay kind;
      }

  -- the call was answered, and the word is n' now
  abbrev Put : ℕ → (View → Type 0) → Type 0
  Put n' then = (w : View) × RowRule v.world (stepped s (place_of m) n' id c w keeps) × then w

  answers : (kind : BookCall) (r : Reply) (n' : ℕ) → (r ≡ reply v.world.catalogue T (book_call kind m)) × (n' ≡ word_of (next v.world.catalogue T (book_call kind m)) m)
      → Put n' (λ w. BookAnswered v m kind r w × (n' ≡ word_after w m))
  answers kind r n' is =
      let t = turns kind r n' (sym is.0) is.1 in (
        move.next_view v.world s kept id v at x (given kind r) single (book_call kind m) m n' inside (range kind) (maker kind) t,
        move.point v.world s kept id v at x (given kind r) single (book_call kind m) m n' inside (range kind) (maker kind) t c,
        (
          move.answered v.world s kept id v at x (given kind r) single (book_call kind m) m n' inside (range kind) (maker kind) t r (sym is.0),
          move.word_is v.world s kept id v at x (given kind r) single (book_call kind m) m n' inside (range kind) (maker kind) t,
        ),
      )

  -- the step is right of the call, as IsRightStep says of it
  abbrev RightAt : BookCall → WordStep → Type 0
  RightAt kind step =
      MatchOutcome step.outcome
      (λ r. (r ≡ reply v.world.catalogue T (book_call kind m)) × (step.word ≡ word_of (next v.world.catalogue T (book_call kind m)) m))
      (λ word.
      (reply v.world.catalogue T (book_call kind m) ≡ Done)
      × (word ≡ word_of T m)
      × (step.word ≡ word)
      × (is_open word ≡ true)
      × (word_of (next v.world.catalogue T (book_call kind m)) m ≡ word + 1))

  first_right : (kind : BookCall) → RightAt kind (unless_refused (book_refusal v.world.catalogue T.book (book_call kind m)) (word_of T m) (book_step T.book (book_call kind m) (word_of T m)))
  first_right book_is.BeginLoad = move.right v.world s kept (book_call book_is.BeginLoad m) (inside, tt)
  first_right (book_is.EndLoad ok) = move.right v.world s kept (book_call (book_is.EndLoad ok) m) (inside, tt)
  first_right book_is.BeginDrain = move.right v.world s kept (book_call book_is.BeginDrain m) (inside, tt)
  first_right book_is.BeginRemove = move.right v.world s kept (book_call book_is.BeginRemove m) (inside, tt)
  first_right book_is.EndRemove = move.right v.world s kept (book_call book_is.EndRemove m) (inside, tt)
  first_right book_is.CancelRemove = move.right v.world s kept (book_call book_is.CancelRemove m) (inside, tt)

  -- the step at the word that is found, by the book of the seat and its own refusal
  right : (kind : BookCall) (o : Option Reply) → book_refusal v.world.catalogue book (book_call kind m) ≡ o → RightAt kind (unless_refused o n (book_step book (book_call kind m) n))
  right kind o is =
      let found = subst (λ (k : ℕ). RightAt kind (unless_refused (book_refusal v.world.catalogue T.book (book_call kind m)) k (book_step T.book (book_call kind m) k))) (sym (kept.words m inside)) (first_right kind) in
      let own = subst (λ (b : Book). RightAt kind (unless_refused (book_refusal v.world.catalogue b (book_call kind m)) n (book_step b (book_call kind m) n))) book_is_own found in
      subst (λ (p : Option Reply). RightAt kind (unless_refused p n (book_step book (book_call kind m) n))) is own

  abbrev Look : BookCall → Option Reply → Type 0
  Look kind o = Put n (λ w. MatchOption o (w ≡ v) (λ r. BookAnswered v m kind r w × (n ≡ word_after w m)))

  stays : (kind : BookCall) → Look kind None
  stays kind = (v, move.still v.world s kept id v at (place_of m) c, refl)

  looks_end_remove : (b : Bool) → is_draining (state_of book m) ≡ b → RightAt book_is.EndRemove (book_step book (book_call book_is.EndRemove m) n) → Look book_is.EndRemove (cond b None (Some Done))
  looks_end_remove true e is = stays book_is.EndRemove
  looks_end_remove false e is = answers book_is.EndRemove Done n (subst (λ (b : Bool). RightAt book_is.EndRemove (cond b (close_step drained n) (takes_effect n Done))) e is)

  looks_by : (kind : BookCall) (o : Option Reply) → book_refusal v.world.catalogue book (book_call kind m) ≡ o → Look kind (or_else o (unrefused_look book kind m))
  looks_by kind (Some r) is = answers kind r n (right kind (Some r) is)
  looks_by book_is.BeginLoad None is = answers book_is.BeginLoad Done n (right book_is.BeginLoad None is)
  looks_by (book_is.EndLoad true) None is = stays (book_is.EndLoad true)
  looks_by (book_is.EndLoad false) None is = answers (book_is.EndLoad false) Done n (right (book_is.EndLoad false) None is)
  looks_by book_is.BeginDrain None is = stays book_is.BeginDrain
  looks_by book_is.BeginRemove None is = stays book_is.BeginRemove
  looks_by book_is.EndRemove None is = looks_end_remove (is_draining (state_of book m)) refl (right book_is.EndRemove None is)
  looks_by book_is.CancelRemove None is = stays book_is.CancelRemove

  looks_at : (kind : BookCall) → Look kind (book_look v.world (book_of v) kind m)
  looks_at kind = looks_by kind (book_refusal v.world.catalogue book (book_call kind m)) refl

  abbrev Closing : BookCall → ℕ → Bool → Type 0
  Closing kind n' b = Put n' (λ w. BookAnswered v m kind (cond b Done InUse) w)

  -- an exchange by the closed word, hit or missed
  closes_hit : (kind : BookCall) (old : ℕ) → RightAt kind (close_step old n) → n ≡ old → Closing kind closed true
  closes_hit kind old is hit =
      let a = answers kind Done closed (subst (λ (b : Bool). RightAt kind (cond b (takes_effect closed Done) (takes_effect n InUse))) (eq-eqb n old hit) is) in
      (a.0, a.1, a.2.0)

  closes_miss : (kind : BookCall) (old : ℕ) → RightAt kind (close_step old n) → n ≢ old → Closing kind n false
  closes_miss kind old is miss =
      let a = answers kind InUse n (subst (λ (b : Bool). RightAt kind (cond b (takes_effect closed Done) (takes_effect n InUse))) (ne_eqb n old miss) is) in
      (a.0, a.1, a.2.0)

  removes_right : MayLeave v m → RightAt book_is.BeginRemove (close_step 0 n)
  removes_right may = right book_is.BeginRemove None may

  ends_right : state_in v m ≡ state_is.Draining → RightAt book_is.EndRemove (close_step drained n)
  ends_right draining =
      let unrefused : book_refusal v.world.catalogue book (book_call book_is.EndRemove m) ≡ None = ap (λ (t : ModuleState). refuse (not (is_unloading t || is_draining t)) NotUnloading None) draining in
      subst (λ (b : Bool). RightAt book_is.EndRemove (cond b (close_step drained n) (takes_effect n Done))) (ap is_draining draining) (right book_is.EndRemove None unrefused)

  closes_right : MayLeave v m ⊎ (state_in v m ≡ state_is.Draining) → RightAt (closing (state_in v m)) (close_step (unheld_word (state_in v m)) n)
  closes_right may =
      let Right : ModuleState → Type 0 = λ t. RightAt (closing t) (close_step (unheld_word t) n) in
      ⊎_elim (λ (leaves : MayLeave v m). subst Right (sym (leaves_live v m leaves)) (removes_right leaves))
      (λ (draining : state_in v m ≡ state_is.Draining). subst Right (sym draining) (ends_right draining))
      may

  loading_found : state_in v m ≡ state_is.Loading → n ≡ closed
  loading_found loading = found_is ∙ ap (λ (t : ModuleState). word_in t h) loading

  opens_at : state_in v m ≡ state_is.Loading → Put 0 (λ w. BookAnswered v m (book_is.EndLoad true) Done w)
  opens_at loading =
      let unrefused : book_refusal v.world.catalogue book (book_call (book_is.EndLoad true) m) ≡ None = ap (λ (t : ModuleState). refuse (not (is_loading t)) NotLoading None) loading in
      let is : RightAt (book_is.EndLoad true) (takes_effect (cond (n == closed) 0 n) Done) = right (book_is.EndLoad true) None unrefused in
      let a = answers (book_is.EndLoad true) Done 0 (is.0, sym (ap (λ (b : Bool). cond b 0 n) (eq-eqb n closed (loading_found loading))) ∙ is.1) in
      (a.0, a.1, a.2.0)

  drains_at : MayLeave v m → Put ((n + drained) % 18446744073709551616) (λ w. BookAnswered v m book_is.BeginDrain Done w)
  drains_at may =
      let is : RightAt book_is.BeginDrain (takes_effect (n + drained) Done) = right book_is.BeginDrain None may in
      let live : n ≡ h = found_is ∙ ap (λ (t : ModuleState). word_in t h) (leaves_live v m may) in
      let same : (n + drained) % 18446744073709551616 ≡ n + drained = whole n (let f = few in omega arith) in
      let a = answers book_is.BeginDrain Done ((n + drained) % 18446744073709551616) (is.0, same ∙ is.1) in
      (a.0, a.1, a.2.0)
    where
      whole : (k : ℕ) → k < closed → (k + drained) % 18446744073709551616 ≡ k + drained
      whole k small = omega arith

  -- the step that calls a removal off, by whether the module drains
  cancels_right : (s : ModuleState) → state_in v m ≡ s → not (is_unloading s || is_draining s) ≡ false
      → RightAt book_is.CancelRemove (cond (is_draining s) (takes_effect (n - drained) Done) (takes_effect (cond (n == closed) 0 n) Done))
  cancels_right s is going =
      let unrefused : book_refusal v.world.catalogue book (book_call book_is.CancelRemove m) ≡ None =
      ap (λ (t : ModuleState). refuse (not (is_unloading t || is_draining t)) NotUnloading None) is ∙ ap (λ (b : Bool). refuse b NotUnloading None) going in
      subst (λ (t : ModuleState). RightAt book_is.CancelRemove (cond (is_draining t) (takes_effect (n - drained) Done) (takes_effect (cond (n == closed) 0 n) Done))) is (right book_is.CancelRemove None unrefused)

  undrains_at : state_in v m ≡ state_is.Draining → Put ((n + 18446744065119617024) % 18446744073709551616) (λ w. BookAnswered v m book_is.CancelRemove Done w)
  undrains_at draining =
      let is : RightAt book_is.CancelRemove (takes_effect (n - drained) Done) = cancels_right state_is.Draining draining refl in
      let found : n ≡ drained + h = found_is ∙ ap (λ (t : ModuleState). word_in t h) draining in
      let same : (n + 18446744065119617024) % 18446744073709551616 ≡ n - drained = whole n h few found in
      let a = answers book_is.CancelRemove Done ((n + 18446744065119617024) % 18446744073709551616) (is.0, same ∙ is.1) in
      (a.0, a.1, a.2.0)
    where
      whole : (k j : ℕ) → j < closed → k ≡ drained + j → (k + 18446744065119617024) % 18446744073709551616 ≡ k - drained
      whole k j small e = omega (arith, small, e)

  unloading_found : state_in v m ≡ state_is.Unloading → n ≡ closed
  unloading_found unloading = found_is ∙ ap (λ (t : ModuleState). word_in t h) unloading

  reopens_at : state_in v m ≡ state_is.Unloading → Put 0 (λ w. BookAnswered v m book_is.CancelRemove Done w)
  reopens_at unloading =
      let is : RightAt book_is.CancelRemove (takes_effect (cond (n == closed) 0 n) Done) = cancels_right state_is.Unloading unloading refl in
      let a = answers book_is.CancelRemove Done 0 (is.0, sym (ap (λ (b : Bool). cond b 0 n) (eq-eqb n closed (unloading_found unloading))) ∙ is.1) in
      (a.0, a.1, a.2.0)

-- what the steps of the book tell
abbrev pub opened : BookCall → Step (Unit {0}) → SeatState → ℕ → SeatState → Type 0
opened kind = AtSlot (λ expected m v found w. BookAnswered v m kind Done w × (found ≡ expected))

abbrev pub looked_book : BookCall → Step (Unit {0}) → SeatState → ℕ → SeatState → Type 0
looked_book kind = AtSlot (λ _ m v found w. LookedBook kind m v found w)

abbrev pub tried_close : Step (Unit {0}) → SeatState → ℕ → SeatState → Type 0
tried_close = AtSlot (λ expected m v found w. TriedClose (closing (state_in v m)) m v (found == expected) w)

abbrev pub made : BookCall → Step (Unit {0}) → SeatState → ℕ → SeatState → Type 0
made kind = AtSlot (λ _ m v _ w. BookAnswered v m kind Done w)

module _ (world : World) (slots' id : ℕ) (me : Me (Unit {0}) View) (is : IsBook me.0) (m : ℕ) (inside : m < slots world) where
  -- what a step owes, at the world w
  abbrev Owes : move.St → (ℕ → ℕ) → (ℕ → Me (Unit {0}) View → Type 0) → World → Type 0
  Owes s f then d = (w : View) × (a : Act (Unit {0})) × Valid s.homes me.1 a × RowRule d (stepped s (place_of m) (f (get_or s.words (place_of m) 0)) id me.1 w a) × then (get_or s.words (place_of m) 0) (w, carried_after me.1 a)

  -- the step may take the world from its own view
  at_own : (f : ℕ → ℕ) (then : ℕ → Me (Unit {0}) View → Type 0)
      → ((s : move.St) → RowRule me.0.world s → get_elem? s.views id ≡ some me.0 → m < slots me.0.world → Owes s f then me.0.world)
      → Allows (RowRule world) slots' id me (place_of m) f then
  at_own f then own s kept _ at _ =
      let same = (move.fits_one world s kept id me.0 _ is at).same_world in
      subst (Owes s f then) same (own s (subst (λ (d : World). RowRule d s) (sym same) kept) at (subst (λ (d : World). m < slots d) (sym same) inside))

  pub looks : (kind : BookCall) → Allows (RowRule world) slots' id me (place_of m) (λ n. n) (looked_book kind (step slots' (place_of m) 0 0 none) me)
  looks kind = at_own (λ n. n) (looked_book kind (step slots' (place_of m) 0 0 none) me) (λ s kept at inside'.
      let r = looks_at s id me.0 kept at is m inside' me.1 kind in (
        r.0,
        keeps,
        tt,
        r.1,
        (
          refl,
          λ j e. subst (λ i. LookedBook kind i me.0 (get_or s.words (place_of m) 0) r.0) (move.same_slot m j e) r.2,
        ),
      ))

  pub drains : MayLeave me.0 m → Allows (RowRule world) slots' id me (place_of m) (λ n. (n + drained) % 2 ^ 64) (made book_is.BeginDrain (step slots' (place_of m) drained 0 none) me)
  drains may = at_own (λ n. (n + drained) % 2 ^ 64) (made book_is.BeginDrain (step slots' (place_of m) drained 0 none) me) (λ s kept at inside'.
      let r = drains_at s id me.0 kept at is m inside' me.1 may in
      (r.0, keeps, tt, r.1, (refl, λ j e. subst (λ i. BookAnswered me.0 i book_is.BeginDrain Done r.0) (move.same_slot m j e) r.2)))

  -- an exchange, by whether it is made
  exchanges : (old new : ℕ) (then : ℕ → Me (Unit {0}) View → Type 0)
      → ((s : move.St) → RowRule me.0.world s → get_elem? s.views id ≡ some me.0 → m < slots me.0.world
      → (get_or s.words (place_of m) 0 ≡ old → Owes s (λ _. new) then me.0.world) × (get_or s.words (place_of m) 0 ≢ old → Owes s (λ n. n) then me.0.world))
      → Allows (RowRule world) slots' id me (place_of m) (λ n. either (eqb n old) new n) then
  exchanges old new then both = at_own (λ n. either (eqb n old) new n) then (λ s kept at inside'.
      let t = both s kept at inside' in
      exchanged (get_or s.words (place_of m) 0) old new (λ n'. Owes s (λ _. n') then me.0.world) t.0 t.1)

  pub opens : state_in me.0 m ≡ state_is.Loading → Allows (RowRule world) slots' id me (place_of m) (λ n. either (eqb n closed) 0 n) (opened (book_is.EndLoad true) (step slots' (place_of m) closed 0 none) me)
  opens loading = exchanges closed 0 (opened (book_is.EndLoad true) (step slots' (place_of m) closed 0 none) me) (λ s kept at inside'. (
    (λ hit.
        let r = opens_at s id me.0 kept at is m inside' me.1 loading in
        (r.0, keeps, tt, r.1, (refl, λ j e. (subst (λ i. BookAnswered me.0 i (book_is.EndLoad true) Done r.0) (move.same_slot m j e) r.2, hit)))),
    (λ miss. absurd (miss (loading_found s id me.0 kept at is m inside' me.1 loading))),
  ))

  pub reopens : state_in me.0 m ≡ state_is.Unloading → Allows (RowRule world) slots' id me (place_of m) (λ n. either (eqb n closed) 0 n) (opened book_is.CancelRemove (step slots' (place_of m) closed 0 none) me)
  reopens unloading = exchanges closed 0 (opened book_is.CancelRemove (step slots' (place_of m) closed 0 none) me) (λ s kept at inside'. (
    (λ hit.
        let r = reopens_at s id me.0 kept at is m inside' me.1 unloading in
        (r.0, keeps, tt, r.1, (refl, λ j e. (subst (λ i. BookAnswered me.0 i book_is.CancelRemove Done r.0) (move.same_slot m j e) r.2, hit)))),
    (λ miss. absurd (miss (unloading_found s id me.0 kept at is m inside' me.1 unloading))),
  ))

  pub undrains : state_in me.0 m ≡ state_is.Draining → Allows (RowRule world) slots' id me (place_of m) (λ n. (n + (2 ^ 64 - drained)) % 2 ^ 64) (made book_is.CancelRemove (step slots' (place_of m) drained 0 none) me)
  undrains draining = at_own (λ n. (n + (2 ^ 64 - drained)) % 2 ^ 64) (made book_is.CancelRemove (step slots' (place_of m) drained 0 none) me) (λ s kept at inside'.
      let r = undrains_at s id me.0 kept at is m inside' me.1 draining in
      (r.0, keeps, tt, r.1, (refl, λ j e. subst (λ i. BookAnswered me.0 i book_is.CancelRemove Done r.0) (move.same_slot m j e) r.2)))

  -- a closing tells what it promises
  tells : (found old : ℕ) (b : Bool) (w : View) → (found == old) ≡ b → BookAnswered me.0 m (closing (state_in me.0 m)) (cond b Done InUse) w
      → tried_close (step slots' (place_of m) old closed none) me found (w, me.1)
  tells found old b w is t = (refl, λ j e. subst (λ i. TriedClose (closing (state_in me.0 i)) i me.0 (found == old) w) (move.same_slot m j e) (subst (λ (a : Bool). BookAnswered me.0 m (closing (state_in me.0 m)) (cond a Done InUse) w) (sym is) t))

  pub closes : MayLeave me.0 m ⊎ (state_in me.0 m ≡ state_is.Draining) → (old : ℕ) → old ≡ unheld_word (state_in me.0 m)
      → Allows (RowRule world) slots' id me (place_of m) (λ n. either (eqb n old) closed n) (tried_close (step slots' (place_of m) old closed none) me)
  closes may old is' = exchanges old closed (tried_close (step slots' (place_of m) old closed none) me) (λ s kept at inside'.
      let kind = closing (state_in me.0 m) in
      let n = get_or s.words (place_of m) 0 in
      let right_step = subst (λ (k : ℕ). RightAt s id me.0 kept at is m inside' me.1 kind (close_step k n)) (sym is') (closes_right s id me.0 kept at is m inside' me.1 may) in (
        (λ hit.
            let r = closes_hit s id me.0 kept at is m inside' me.1 kind old right_step hit in
            (r.0, keeps, tt, r.1, tells n old true r.0 (eq-eqb _ _ hit) r.2)),
        (λ miss.
            let r = closes_miss s id me.0 kept at is m inside' me.1 kind old right_step miss in
            (r.0, keeps, tt, r.1, tells n old false r.0 (ne_eqb _ _ miss) r.2)),
      ))
