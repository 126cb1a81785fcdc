-- A step by a seat of one part keeps the rule.
use Rattle.std.proofs.Common.{◌≡◌, ◌≢◌, ℕ, zero, suc, ◌<◌, true, false, cond, nat_lt, List, [], ◌∷◌, ◌++◌, get_or, set, refl, sym, ap, ◌∙◌, subst, inr, ⊎_elim, arith, append_assoc, append-nil, length-set, get_or-set_other, get_or-set_same, eq-eqb, eqb-true}
use Rattle.std.proofs.lemmas.Bool.{false≢true, cases_eq, cases_Bool}
use Rattle.std.proofs.lemmas.List.Elements.{filter-append}
use Rattle.std.proofs.lemmas.List.Sums.{count_by-le-length}
use mathlib.Core.Option.{some, some-ne-none, some-injective}
use lib.ListN.{get_elem?}
use Rattle.atomic_table.specs.Table.{State, keeps, stepped}
use Rattle.atomic_table.proofs.Lists.{at_set, set_here, set_else, set_again}
use Rattle.dep_index.specs.declared.table.calls.Call.{Call}
use Rattle.dep_index.specs.declared.table.calls.Reply.{Reply}
use Rattle.dep_index.specs.declared.table.states.ModuleState.{ModuleState}
use Rattle.dep_index.specs.declared.table.states.ModuleState.TheVariants.{Absent, Loading, Live, Draining, Unloading}
use Rattle.dep_index.specs.Table.{Table, holders}
use Rattle.dep_index.specs.Calls.{reply, next, effect, is_done, slot_of, IsInRange}
use Rattle.dep_index.specs.History.{IsLegal}
use Rattle.dep_index.specs.Words.{word_in, word_of, word_step, closed, IsRightStep}
use Rattle.dep_index.proofs.Replies.{next_is}
use Rattle.dep_index.proofs.StepLaws.{word_steps_are_right}
use Rattle.root_row.specs.declared.view.World.{World}
use Rattle.root_row.specs.declared.view.SeatName.TheVariants as name_is
use Rattle.root_row.specs.declared.view.SeatAnswer.{SeatAnswer}
use Rattle.root_row.specs.declared.view.Member.{Member}
use Rattle.root_row.specs.declared.view.View.{View}
use Rattle.root_row.specs.World.{slots, place_of}
use Rattle.root_row.specs.History.{SeatName, seat_answer, answers_in, table_after, makes, same_name, own_answers}
use Rattle.root_row.specs.Views.{Part, name_of, member, seen_of, IsOne}
use Rattle.root_row.specs.Rule.{Agrees, FitsMember, Fits, IsAt, HasAll, RowRule}
use Rattle.root_row.specs.Steps.{Answered, word_after}
use Rattle.root_row.proofs.Replay.{at_length, table_after_one, legal_one, callers_one, shaped_after, lawful_after}

abbrev pub St : Type 0
St = State (Unit {0}) View

pub same_name-refl : (a : SeatName) → same_name a a ≡ true
same_name-refl (name_is.Leaf w) = eq-eqb w w refl
same_name-refl (name_is.Reader w) = eq-eqb w w refl
same_name-refl name_is.Book = refl

pub same_name-true : (a b : SeatName) → same_name a b ≡ true → a ≡ b
same_name-true (name_is.Leaf w) (name_is.Leaf v) e = ap name_is.Leaf (eqb-true w v e)
same_name-true (name_is.Leaf w) (name_is.Reader v) e = absurd (false≢true e)
same_name-true (name_is.Leaf w) name_is.Book e = absurd (false≢true e)
same_name-true (name_is.Reader w) (name_is.Leaf v) e = absurd (false≢true e)
same_name-true (name_is.Reader w) (name_is.Reader v) e = ap name_is.Reader (eqb-true w v e)
same_name-true (name_is.Reader w) name_is.Book e = absurd (false≢true e)
same_name-true name_is.Book (name_is.Leaf v) e = absurd (false≢true e)
same_name-true name_is.Book (name_is.Reader v) e = absurd (false≢true e)
same_name-true name_is.Book name_is.Book e = refl

pub same_name-not : (a b : SeatName) → a ≢ b → same_name a b ≡ false
same_name-not a b n = ⊎_elim (λ (t : same_name a b ≡ true). absurd (n (same_name-true a b t))) (λ (f : same_name a b ≡ false). f) (cases_Bool (same_name a b))

-- one more call is its seat's, and no other's
pub own_answers-one : (log : List SeatAnswer) (e : SeatAnswer) → own_answers e.by (log ++ e ∷ []) ≡ own_answers e.by log ++ e ∷ []
own_answers-one log e = filter-append (λ (x : SeatAnswer). same_name x.by e.by) log (e ∷ []) ∙ ap (λ l. own_answers e.by log ++ l) (subst (λ b. cond b (e ∷ []) [] ≡ e ∷ []) (sym (same_name-refl e.by)) refl)

pub own_answers-other : (log : List SeatAnswer) (e : SeatAnswer) (by : SeatName) → e.by ≢ by → own_answers by (log ++ e ∷ []) ≡ own_answers by log
own_answers-other log e by n = filter-append (λ (x : SeatAnswer). same_name x.by by) log (e ∷ []) ∙ ap (λ l. own_answers by log ++ l) (subst (λ b. cond b (e ∷ []) [] ≡ []) (sym (same_name-not e.by by n)) refl) ∙ append-nil (own_answers by log)

-- what a call changes: the part that makes it, and the word of one slot
pub record Turns (t t' : Table) (x x' : Part) (m n' : ℕ) : Type 0 where
  pub same : name_of x' ≡ name_of x
  pub agrees : Agrees t' x'
  pub others : (y : Part) → name_of y ≢ name_of x → Agrees t y → Agrees t' y
  pub here : n' ≡ word_of t' m
  pub elsewhere : (j : ℕ) → j ≢ m → word_of t' j ≡ word_of t j

-- a list of one element
pub at_single : {A : Type 0} (a b : A) (k : ℕ) → get_elem? (a ∷ []) k ≡ some b → (k ≡ 0) × (a ≡ b)
at_single a b zero e = (refl, some-injective a b e)
at_single a b (suc k) e = absurd (some-ne-none b (sym e))

pub same_words : (l : List ℕ) (i : ℕ) → set l i (get_or l i 0) ≡ l
same_words [] i = refl
same_words (x ∷ xs) zero = refl
same_words (x ∷ xs) (suc i) = ap (λ l. x ∷ l) (same_words xs i)

module _ (world : World) (s : St) (kept : RowRule world s) (id : ℕ) (v : View) (at : get_elem? s.views id ≡ some v) where
  -- nothing is changed
  pub still : (i : ℕ) (c : List (ℕ × Unit {0})) → RowRule world (stepped s i (get_or s.words i 0) id c v keeps)
  still i c = subst (λ (z : List ℕ × List View). RowRule world (record { words = z.0; homes = s.homes; views = z.1 })) (λ k. (sym (same_words s.words i) k, sym (set_again s.views id v at) k)) kept

  module _ (x x' : Part) (single : IsOne v x) (call : Call) (m n' : ℕ) (inside : m < slots world) (range : IsInRange (slots world) world.workers call) (maker : makes (name_of x) call ≡ true) (turns : Turns (table_after world kept.history) (next world.catalogue (table_after world kept.history) call) x x' m n') where
    abbrev pub e : SeatAnswer
    e = seat_answer (name_of x) call (reply world.catalogue (table_after world kept.history) call)

    abbrev pub now : List SeatAnswer
    now = kept.history ++ e ∷ []

    abbrev pub next_view : View
    next_view = record { world = v.world; members = member x' now ∷ [] }

    mine : FitsMember world kept.history kept.owner v id 0 (member x (seen_of v))
    mine = kept.seats id v at 0 (member x (seen_of v)) (ap (λ (l : List Member). get_elem? l 0) single)

    table_is : table_after world now ≡ next world.catalogue (table_after world kept.history) call
    table_is = table_after_one world kept.history e

    my_fit : Fits world now kept.owner id next_view
    my_fit zero y is = subst (λ (z : Member). FitsMember world now kept.owner next_view id 0 z) (some-injective (member x' now) y is) (record {
      same_world = mine.same_world;
      begins = ([], sym (append-nil now));
      own = refl;
      agrees = subst (λ (t : Table). Agrees t x') (sym table_is) turns.agrees;
      one = ap kept.owner turns.same ∙ mine.one;
    })
    my_fit (suc k) y is = absurd (some-ne-none y (sym is))

    other_name : (j k : ℕ) (y : Part) → j ≢ id → kept.owner (name_of y) ≡ (j, k) → name_of y ≢ name_of x
    other_name j k y apart one is = apart (ap (λ (z : ℕ × ℕ). z.0) (sym one ∙ ap kept.owner is ∙ mine.one))

    other_fit : (j : ℕ) (u : View) → j ≢ id → Fits world kept.history kept.owner j u → Fits world now kept.owner j u
    other_fit j u apart fit k y is = let old = fit k y is in let ne = other_name j k y.part apart old.one in record {
      same_world = old.same_world;
      begins = (old.begins.0 ++ e ∷ [], ap (λ l. l ++ e ∷ []) old.begins.1 ∙ append_assoc y.seen old.begins.0 (e ∷ []));
      own = own_answers-other kept.history e (name_of y.part) (λ q. ne (sym q)) ∙ old.own;
      agrees = subst (λ (t : Table). Agrees t y.part) (sym table_is) (turns.others y.part ne old.agrees);
      one = old.one;
    }

    -- each member stands where it stood, and the caller's has the same name
    stands : (p : ℕ × ℕ) (y : Member) → IsAt s.views p y → (z : Member) × IsAt (set s.views id next_view) p z × (name_of z.part ≡ name_of y.part)
    stands p y t = ⊎_elim here (λ (no : p.0 ≡ id → ⊥). (y, (t.0, set_else s.views id p.0 next_view no ∙ t.1, t.2), refl)) (cases_eq p.0 id)
      where
        here : p.0 ≡ id → (z : Member) × IsAt (set s.views id next_view) p z × (name_of z.part ≡ name_of y.part)
        here same =
            let own : v ≡ t.0 = some-injective v t.0 (sym at ∙ ap (λ i. get_elem? s.views i) (sym same) ∙ t.1) in
            let alone : get_elem? (member x (seen_of v) ∷ []) p.1 ≡ some y = ap (λ (l : List Member). get_elem? l p.1) (sym single) ∙ ap (λ (w : View). get_elem? w.members p.1) own ∙ t.2 in
            let only = at_single (member x (seen_of v)) y p.1 alone in (
              member x' now,
              (next_view, ap (λ i. get_elem? (set s.views id next_view) i) same ∙ set_here s.views id next_view (at_length s.views id v at), ap (λ k. get_elem? (member x' now ∷ []) k) only.0),
              turns.same ∙ ap (λ (z : Member). name_of z.part) only.1,
            )

    all_there : HasAll world (set s.views id next_view) kept.owner
    all_there n of = let t = kept.there n of in let z = stands (kept.owner n) t.0 t.1 in (z.0, z.1, z.2 ∙ t.2)

    pub point : (c : List (ℕ × Unit {0})) → RowRule world (stepped s (place_of m) n' id c next_view keeps)
    point c = record {
      history = now;
      owner = kept.owner;
      few = kept.few;
      legal = legal_one world kept.history e kept.legal refl range;
      callers = callers_one world kept.history e kept.callers maker;
      whole = inr ((id, 0), member x' now, (next_view, set_here s.views id next_view (at_length s.views id v at), refl), refl);
      seats = λ j u is. ⊎_elim
          (λ (z : (j ≡ id) × (next_view ≡ u)). subst (λ (y : ℕ × View). Fits world now kept.owner y.0 y.1) (λ i. (sym z.0 i, z.1 i)) my_fit)
          (λ (z : (j ≢ id) × (get_elem? s.views j ≡ some u)). other_fit j u z.0 (kept.seats j u z.1))
          (at_set s.views id j next_view u is);
      there = all_there;
      wide = length-set s.words (place_of m) n' ∙ kept.wide;
      spare = get_or-set_other s.words (place_of m) 0 n' 0 (λ q. omega arith) ∙ kept.spare;
      words = λ j lt. ⊎_elim
          (λ (z : j ≡ m). ap (λ i. get_or (set s.words (place_of m) n') (place_of i) 0) z ∙ get_or-set_same s.words (place_of m) n' 0 (let wide = kept.wide in omega arith) ∙ turns.here ∙ ap (λ (t : Table). word_of t m) (sym table_is) ∙ ap (λ i. word_of (table_after world now) i) (sym z))
          (λ (z : j ≡ m → ⊥). get_or-set_other s.words (place_of m) (place_of j) n' 0 (λ q. z (omega arith)) ∙ kept.words j lt ∙ sym (turns.elsewhere j z) ∙ ap (λ (t : Table). word_of t j) (sym table_is))
          (cases_eq j m);
    }

    pub answered : (r : Reply) → reply world.catalogue (table_after world kept.history) call ≡ r → Answered v (name_of x) call r x' next_view
    answered r is = record {
      between = mine.begins.0;
      seen = ap (λ l. l ++ e ∷ []) mine.begins.1 ∙ ap (λ a. (seen_of v ++ mine.begins.0) ++ seat_answer (name_of x) call a ∷ []) is;
      legal = subst (λ (d : World). IsLegal d.catalogue d.workers (answers_in now)) (sym mine.same_world) (legal_one world kept.history e kept.legal refl range);
      callers = callers_one world kept.history e kept.callers maker;
      agrees = subst (λ (d : World). Agrees (table_after d now) x') (sym mine.same_world) (subst (λ (t : Table). Agrees t x') (sym table_is) turns.agrees);
      own = own_answers-one kept.history e ∙ ap (λ l. l ++ e ∷ []) mine.own ∙ ap (λ a. own_answers (name_of x) (seen_of v) ++ seat_answer (name_of x) call a ∷ []) is;
      same_world = refl;
      members = refl;
    }

    pub word_is : n' ≡ word_after next_view m
    word_is = turns.here ∙ ap (λ (t : Table). word_of t m) (sym table_is) ∙ ap (λ (d : World). word_of (table_after d now) m) (sym mine.same_world)

-- a seat with one member knows the row's world, and its part is the table's
pub fits_one : (world : World) (s : St) (kept : RowRule world s) (id : ℕ) (v : View) (x : Part) → IsOne v x → get_elem? s.views id ≡ some v → FitsMember world kept.history kept.owner v id 0 (member x (seen_of v))
fits_one world s kept id v x single at = kept.seats id v at 0 (member x (seen_of v)) (ap (λ (l : List Member). get_elem? l 0) single)

-- each call's first step on its slot's word is right at the table after the history, and leaves what belongs to the other slots
module _ (world : World) (s : St) (kept : RowRule world s) (call : Call) (range : IsInRange (slots world) world.workers call) where
  pub right : IsRightStep world.catalogue (table_after world kept.history) call (word_step world.catalogue (table_after world kept.history) call (word_of (table_after world kept.history) (slot_of call)))
  right = (word_steps_are_right world.catalogue world.workers (table_after world kept.history) call (shaped_after world kept.history) kept.few (lawful_after world kept.history kept.legal) range).0

  pub others_stay : (j : ℕ) → j ≢ slot_of call → word_of (next world.catalogue (table_after world kept.history) call) j ≡ word_of (table_after world kept.history) j
  others_stay = (word_steps_are_right world.catalogue world.workers (table_after world kept.history) call (shaped_after world kept.history) kept.few (lawful_after world kept.history kept.legal) range).1

  -- the next table by the reply
  pub next_by : (r : Reply) → reply world.catalogue (table_after world kept.history) call ≡ r
      → next world.catalogue (table_after world kept.history) call ≡ cond (is_done r) (effect (table_after world kept.history) call) (table_after world kept.history)
  next_by r is =
      next_is world.catalogue (table_after world kept.history) call
      ∙ ap (λ (a : Reply). cond (is_done a) (effect (table_after world kept.history) call) (table_after world kept.history)) is

-- the slot of a word
pub same_slot : (i j : ℕ) → place_of i ≡ place_of j → i ≡ j
same_slot i j e = omega arith

-- fewer workers hold a slot than there are words below the closed one
pub few_holders : (world : World) (s : St) (kept : RowRule world s) (m : ℕ) → holders (table_after world kept.history).rows m < closed
few_holders world s kept m =
    let a = count_by-le-length (λ (row : List ℕ). nat_lt 0 (get_or row m 0)) (table_after world kept.history).rows in
    let b = (shaped_after world kept.history).rows in
    let d = kept.few in
    omega arith

pub word_small : (state : ModuleState) (h : ℕ) → h < closed → word_in state h < 18446744073709551616
word_small Live h lt = omega arith
word_small Draining h lt = omega arith
word_small Absent h lt = omega arith
word_small Loading h lt = omega arith
word_small Unloading h lt = omega arith
