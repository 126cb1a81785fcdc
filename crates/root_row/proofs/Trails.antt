-- The steps of a seat under the rule: what was proved of the views holds of the views with their steps.
use Rattle.std.proofs.Common.{◌≡◌, ◌⊎◌, ℕ, zero, suc, true, ◌+◌, ◌-◌, ◌<◌, ◌%◌, ◌^◌, List, [], ◌∷◌, ◌++◌, map, get_or, set, eqb, refl, sym, ap, ◌∙◌, subst}
use mathlib.Core.Option.{some, none}
use lib.ListN.{get_elem?}
use prog.Atomic.{either}
use Rattle.atomic_table.specs.Table.{State, Step, homes_after, step, Allows, Splits, Joins}
use Rattle.atomic_table.proofs.Lists.{at_map}
use Rattle.dep_index.specs.declared.table.states.ModuleState.TheVariants as state_is
use Rattle.dep_index.specs.Words.{closed, drained}
use Rattle.root_row.specs.declared.calls.LeafCall.{LeafCall}
use Rattle.root_row.specs.declared.calls.BookCall.{BookCall}
use Rattle.root_row.specs.declared.calls.BookCall.TheVariants as book_is
use Rattle.root_row.specs.declared.view.World.{World}
use Rattle.root_row.specs.declared.view.View.{View}
use Rattle.root_row.specs.declared.view.AtomicStep.{AtomicStep}
use Rattle.root_row.specs.declared.view.Trail.{Trail}
use Rattle.root_row.specs.World.{slots, place_of}
use Rattle.root_row.specs.Views.{Part, IsOne, IsLeaf, IsReader, IsBook, count_of, state_in}
use Rattle.root_row.specs.Rule.{RowRule}
use Rattle.root_row.specs.Steps.{SeatState}
use Rattle.root_row.specs.BookSteps.{MayLeave}
use Rattle.root_row.specs.StepsMade.{unheld_word}
use Rattle.root_row.specs.Seating.{spent, first_member}
use Rattle.root_row.specs.Trails.{trail, view_in, shown, TrailRule, TrailState, shown_seat, load_step, exchange_step, add_step, subtract_step, Recorded, first_trail, other_trail, joined_trail, spent_trail}
use Rattle.root_row.proofs.Moves as move
use Rattle.root_row.proofs.LeafSteps as leaf
use Rattle.root_row.proofs.ReaderSteps as reader
use Rattle.root_row.proofs.BookSteps as book
use Rattle.root_row.proofs.Seating as seating

pub views_set : (l : List Trail) (i : ℕ) (t : Trail) → map view_in (set l i t) ≡ set (map view_in l) i t.view
views_set [] i t = refl
views_set (x ∷ xs) zero t = refl
views_set (x ∷ xs) (suc i) t = ap (λ l. x.view ∷ l) (views_set xs i t)

views_more : (l m : List Trail) → map view_in (l ++ m) ≡ map view_in l ++ map view_in m
views_more [] m = refl
views_more (x ∷ xs) m = ap (λ l. x.view ∷ l) (views_more xs m)

-- a step that the views allow is allowed, and what is recorded of it
abbrev Of : World → State (Unit {0}) Trail → List ℕ → List View → Type 0
Of world s words views = RowRule world (record { words = words; homes = s.homes; views = views })

module _ (world : World) (slots' id : ℕ) (me : TrailState) where
  -- a step on the word of a slot
  pub records : (m : ℕ) (f : ℕ → ℕ) (Tells : Step (Unit {0}) → SeatState → ℕ → SeatState → Type 0) (entry : Step (Unit {0}) → ℕ → ℕ → AtomicStep) (st : Step (Unit {0})) → st.word ≡ place_of m
      → Allows (RowRule world) slots' id (shown_seat me) (place_of m) f (Tells st (shown_seat me))
      → Allows (TrailRule world) slots' id me (place_of m) f (Recorded Tells entry st me)
  records m f Tells entry st here allows s kept homes at small =
      let found = get_or s.words (place_of m) 0 in
      let r = allows (shown s) kept homes (at_map view_in s.views id me.0 at) small in
      let steps = me.0.steps ++ entry st m found ∷ [] in (
        trail r.0 steps,
        r.1,
        r.2,
        subst (λ (l : List View). RowRule world (record { words = set s.words (place_of m) (f found); homes = homes_after s.homes me.1 r.1; views = l })) (sym (views_set s.views id (trail r.0 steps))) r.3,
        (r.4, λ j e. ap (λ k. me.0.steps ++ entry st k found ∷ []) (move.same_slot m j (sym here ∙ e))),
      )

  pub looks : IsLeaf me.0.view → (m : ℕ) → m < slots world → (kind : LeafCall)
      → Allows (TrailRule world) slots' id me (place_of m) (λ n. n) (Recorded (leaf.looked kind) load_step (step slots' (place_of m) 0 0 none) me)
  looks is m inside kind = records m (λ n. n) (leaf.looked kind) load_step (step slots' (place_of m) 0 0 none) refl (leaf.looks world slots' id (shown_seat me) is m inside kind)

  pub arrives : IsLeaf me.0.view → (m : ℕ) → m < slots world → (old : ℕ) → old < closed → count_of me.0.view m ≡ 0
      → Allows (TrailRule world) slots' id me (place_of m) (λ n. either (eqb n old) (old + 1) n) (Recorded leaf.arrived exchange_step (step slots' (place_of m) old (old + 1) none) me)
  arrives is m inside old below zero_is = records m (λ n. either (eqb n old) (old + 1) n) leaf.arrived exchange_step (step slots' (place_of m) old (old + 1) none) refl (leaf.arrives world slots' id (shown_seat me) is m inside old below zero_is)

  pub departs : IsLeaf me.0.view → (m : ℕ) → m < slots world → count_of me.0.view m ≡ 1
      → Allows (TrailRule world) slots' id me (place_of m) (λ n. (n + (2 ^ 64 - 1)) % 2 ^ 64) (Recorded leaf.departed subtract_step (step slots' (place_of m) 1 0 none) me)
  departs is m inside one = records m (λ n. (n + (2 ^ 64 - 1)) % 2 ^ 64) leaf.departed subtract_step (step slots' (place_of m) 1 0 none) refl (leaf.departs world slots' id (shown_seat me) is m inside one)

  pub reads : IsReader me.0.view → (m : ℕ) → m < slots world
      → Allows (TrailRule world) slots' id me (place_of m) (λ n. n) (Recorded reader.read load_step (step slots' (place_of m) 0 0 none) me)
  reads is m inside = records m (λ n. n) reader.read load_step (step slots' (place_of m) 0 0 none) refl (reader.reads world slots' id (shown_seat me) is m inside)

  pub looks_book : IsBook me.0.view → (m : ℕ) → m < slots world → (kind : BookCall)
      → Allows (TrailRule world) slots' id me (place_of m) (λ n. n) (Recorded (book.looked_book kind) load_step (step slots' (place_of m) 0 0 none) me)
  looks_book is m inside kind = records m (λ n. n) (book.looked_book kind) load_step (step slots' (place_of m) 0 0 none) refl (book.looks world slots' id (shown_seat me) is m inside kind)

  pub opens : IsBook me.0.view → (m : ℕ) → m < slots world → state_in me.0.view m ≡ state_is.Loading
      → Allows (TrailRule world) slots' id me (place_of m) (λ n. either (eqb n closed) 0 n) (Recorded (book.opened (book_is.EndLoad true)) exchange_step (step slots' (place_of m) closed 0 none) me)
  opens is m inside loading = records m (λ n. either (eqb n closed) 0 n) (book.opened (book_is.EndLoad true)) exchange_step (step slots' (place_of m) closed 0 none) refl (book.opens world slots' id (shown_seat me) is m inside loading)

  pub drains : IsBook me.0.view → (m : ℕ) → m < slots world → MayLeave me.0.view m
      → Allows (TrailRule world) slots' id me (place_of m) (λ n. (n + drained) % 2 ^ 64) (Recorded (book.made book_is.BeginDrain) add_step (step slots' (place_of m) drained 0 none) me)
  drains is m inside may = records m (λ n. (n + drained) % 2 ^ 64) (book.made book_is.BeginDrain) add_step (step slots' (place_of m) drained 0 none) refl (book.drains world slots' id (shown_seat me) is m inside may)

  pub undrains : IsBook me.0.view → (m : ℕ) → m < slots world → state_in me.0.view m ≡ state_is.Draining
      → Allows (TrailRule world) slots' id me (place_of m) (λ n. (n + (2 ^ 64 - drained)) % 2 ^ 64) (Recorded (book.made book_is.CancelRemove) subtract_step (step slots' (place_of m) drained 0 none) me)
  undrains is m inside draining = records m (λ n. (n + (2 ^ 64 - drained)) % 2 ^ 64) (book.made book_is.CancelRemove) subtract_step (step slots' (place_of m) drained 0 none) refl (book.undrains world slots' id (shown_seat me) is m inside draining)

  pub reopens : IsBook me.0.view → (m : ℕ) → m < slots world → state_in me.0.view m ≡ state_is.Unloading
      → Allows (TrailRule world) slots' id me (place_of m) (λ n. either (eqb n closed) 0 n) (Recorded (book.opened book_is.CancelRemove) exchange_step (step slots' (place_of m) closed 0 none) me)
  reopens is m inside unloading = records m (λ n. either (eqb n closed) 0 n) (book.opened book_is.CancelRemove) exchange_step (step slots' (place_of m) closed 0 none) refl (book.reopens world slots' id (shown_seat me) is m inside unloading)

  pub closes : IsBook me.0.view → (m : ℕ) → m < slots world → MayLeave me.0.view m ⊎ (state_in me.0.view m ≡ state_is.Draining)
      → (old : ℕ) → old ≡ unheld_word (state_in me.0.view m)
      → Allows (TrailRule world) slots' id me (place_of m) (λ n. either (eqb n old) closed n) (Recorded book.tried_close exchange_step (step slots' (place_of m) old closed none) me)
  closes is m inside may old unheld = records m (λ n. either (eqb n old) closed n) book.tried_close exchange_step (step slots' (place_of m) old closed none) refl (book.closes world slots' id (shown_seat me) is m inside may old unheld)

pub splits : (world : World) (id : ℕ) (t : Trail) → Splits (TrailRule world) id t (other_trail t) (first_trail t)
splits world id t s kept at =
    subst (Of world s s.words) (sym (views_more (set s.views id (other_trail t)) (first_trail t ∷ []) ∙ ap (λ l. l ++ first_member t.view ∷ []) (views_set s.views id (other_trail t))))
    (seating.splits world id t.view (shown s) kept (at_map view_in s.views id t at))

pub joins : (world : World) (id other : ℕ) (t u : Trail) (x : Part) → IsOne t.view x → Joins (TrailRule world) id t other u (joined_trail t u) spent_trail
joins world id other t u x single s kept at apart there =
    subst (Of world s s.words) (sym (views_set (set s.views id (joined_trail t u)) other spent_trail ∙ ap (λ l. set l other spent) (views_set s.views id (joined_trail t u))))
    (seating.joins world id other t.view u.view x single (shown s) kept (at_map view_in s.views id t at) apart (subst (λ (l : List View). get_elem? l other ≡ some u.view) (views_set s.views id (joined_trail t u)) (at_map view_in (set s.views id (joined_trail t u)) other u there)))
