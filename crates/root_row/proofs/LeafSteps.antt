-- The steps of a leaf: a look, an exchange and a subtraction.
use Rattle.std.proofs.Common.{◌≡◌, ◌≢◌, ℕ, zero, suc, ◌+◌, ◌-◌, ◌%◌, ◌^◌, ◌<◌, Bool, true, false, cond, List, [], ◌∷◌, get_or, eqb, nat_lt, ◌==◌, MatchBool, refl, sym, ap, ◌∙◌, subst, arith, lt-ltb, eq-eqb, ne_eqb}
use mathlib.Core.Option.{some, none}
use lib.ListN.{get_elem?}
use prog.Atomic.{either}
use Rattle.atomic_table.specs.Table.{Me, Step, Act, Valid, keeps, carried_after, step, stepped, Allows}
use Rattle.atomic_table.proofs.Lists.{set_here, set_else, exchanged}
use Rattle.dep_index.specs.declared.table.states.ModuleState.{ModuleState}
use Rattle.dep_index.specs.declared.table.states.ModuleState.TheVariants as state_is
use Rattle.dep_index.specs.declared.table.calls.Call.TheVariants as call_is
use Rattle.dep_index.specs.declared.table.calls.Reply.{Reply}
use Rattle.dep_index.specs.declared.table.calls.Reply.TheVariants.{Done, NotLive, TooMany, NotHeld}
use Rattle.dep_index.specs.declared.words.Outcome.{Outcome}
use Rattle.dep_index.specs.declared.words.Outcome.TheVariants.{Effect, GoesOn}
use Rattle.dep_index.specs.Table as dep
use Rattle.dep_index.specs.Table.{Table, state_of, holders}
use Rattle.dep_index.specs.Calls.{reply, next, effect, row_effect, row_given, is_done, IsInRange}
use Rattle.dep_index.specs.Words.{word_in, word_of, get_look, put_step, takes_effect, closed, MatchOutcome, IsRightStep}
use Rattle.dep_index.proofs.TableLaws.{none_held}
use Rattle.root_row.specs.declared.calls.LeafCall.{LeafCall}
use Rattle.root_row.specs.declared.calls.LeafCall.TheVariants as leaf_is
use Rattle.root_row.specs.declared.view.World.{World}
use Rattle.root_row.specs.declared.view.SeatName.TheVariants as name_is
use Rattle.root_row.specs.declared.view.Part.TheVariants as part_is
use Rattle.root_row.specs.declared.view.Member.{Member}
use Rattle.root_row.specs.declared.view.View.{View}
use Rattle.root_row.specs.World.{slots, place_of}
use Rattle.root_row.specs.History.{table_after, makes}
use Rattle.root_row.specs.Views.{Part, member, name_of, IsLeaf, IsOne, seen_in, part_in, worker_in, counts_in, worker_of, counts_of, count_of}
use Rattle.root_row.specs.Rule.{Agrees, RowRule}
use Rattle.root_row.specs.Steps.{Answered, AtSlot, SeatState, word_after, leaf_call, leaf_look, LeafAnswered, Looked, TriedArrive}
use Rattle.root_row.proofs.Replay.{get_or_at, at_length, shaped_after}
use Rattle.root_row.proofs.Moves as move

-- a look leaves the word
get_look_word : (count word : ℕ) → (get_look count word).word ≡ word
get_look_word count word = at (nat_lt word closed) (count == 0) where
  at : (a b : Bool) → (cond a (cond b (record { word = word; outcome = GoesOn word }) (takes_effect word (cond (nat_lt count 65535) Done TooMany))) (takes_effect word NotLive)).word ≡ word
  at true true = refl
  at true false = refl
  at false b = refl

put_step_word : (count word : ℕ) → (count == 1) ≡ false → (put_step count word).word ≡ word
put_step_word count word more = at (count == 0) (count == 1) more where
  at : (a b : Bool) → b ≡ false → (cond a (takes_effect word NotHeld) (takes_effect (cond b (word - 1) word) Done)).word ≡ word
  at true b e = refl
  at false true e = cc
  at false false e = refl

-- the word of a slot that is held is not 0
word_positive : (state : ModuleState) (h : ℕ) → 0 < h → 0 < word_in state h
word_positive state_is.Live h lt = lt
word_positive state_is.Draining h lt = omega arith
word_positive state_is.Absent h lt = omega arith
word_positive state_is.Loading h lt = omega arith
word_positive state_is.Unloading h lt = omega arith

holders_positive : (table : Table) (w m : ℕ) → 0 < dep.count_of table w m → 0 < holders table.rows m
holders_positive table w m held = at (holders table.rows m) refl where
  at : (n : ℕ) → holders table.rows m ≡ n → 0 < n
  at zero e = let z = none_held table.rows m w e in absurd (omega arith)
  at (suc n) e = omega arith

module _ (world : World) (s : move.St) (kept : RowRule world s) (id : ℕ) (v : View) (at : get_elem? s.views id ≡ some v) (worker : ℕ) (counts : List ℕ) (single : IsOne v (part_is.Leaf worker counts)) (m : ℕ) (inside : m < slots world) (c : List (ℕ × Unit {0})) where
  abbrev T : Table
  T = table_after world kept.history

  abbrev x : Part
  x = part_is.Leaf worker counts

  abbrev count : ℕ
  count = get_or counts m 0

  abbrev n : ℕ
  n = get_or s.words (place_of m) 0

  row_at : get_elem? T.rows worker ≡ some counts
  row_at = (move.fits_one world s kept id v x single at).agrees

  row_is : get_or T.rows worker [] ≡ counts
  row_is = get_or_at T.rows worker counts [] row_at

  count_is : dep.count_of T worker m ≡ count
  count_is = ap (λ row. get_or row m 0) row_is

  found_is : n ≡ word_of T m
  found_is = kept.words m inside

  known : worker < world.workers
  known = let a = at_length T.rows worker counts row_at in let b = (shaped_after world kept.history).rows in omega arith

  range : (kind : LeafCall) → IsInRange (slots world) world.workers (leaf_call kind worker m)
  range leaf_is.Get = (inside, known)
  range leaf_is.Put = (inside, known)

  maker : (kind : LeafCall) → makes (name_is.Leaf worker) (leaf_call kind worker m) ≡ true
  maker leaf_is.Get = eq-eqb worker worker refl
  maker leaf_is.Put = eq-eqb worker worker refl

  -- the leaf's call had this answer
  abbrev By : LeafCall → Reply → View → Type 0
  By kind r w = Answered v (name_is.Leaf worker) (leaf_call kind worker m) r (part_is.Leaf worker (row_given r counts (leaf_call kind worker m))) w

  others_stay : (kind : LeafCall) (j : ℕ) → j ≢ m → word_of (next world.catalogue T (leaf_call kind worker m)) j ≡ word_of T j
  others_stay leaf_is.Get = move.others_stay world s kept (call_is.Get worker m) (inside, known)
  others_stay leaf_is.Put = move.others_stay world s kept (call_is.Put worker m) (inside, known)

  -- the call changes the leaf's own row
  own_row : (kind : LeafCall) → Agrees (effect T (leaf_call kind worker m)) (part_is.Leaf worker (row_effect counts (leaf_call kind worker m)))
  own_row leaf_is.Get = set_here T.rows worker (row_effect (get_or T.rows worker []) (call_is.Get worker m)) (at_length T.rows worker counts row_at) ∙ ap (λ row. some (row_effect row (call_is.Get worker m))) row_is
  own_row leaf_is.Put = set_here T.rows worker (row_effect (get_or T.rows worker []) (call_is.Put worker m)) (at_length T.rows worker counts row_at) ∙ ap (λ row. some (row_effect row (call_is.Put worker m))) row_is

  other_parts : (kind : LeafCall) (y : Part) → name_of y ≢ name_is.Leaf worker → Agrees T y → Agrees (effect T (leaf_call kind worker m)) y
  other_parts leaf_is.Get (part_is.Leaf u row) ne old = set_else T.rows worker u (row_effect (get_or T.rows worker []) (call_is.Get worker m)) (λ q. ne (ap name_is.Leaf q)) ∙ old
  other_parts leaf_is.Put (part_is.Leaf u row) ne old = set_else T.rows worker u (row_effect (get_or T.rows worker []) (call_is.Put worker m)) (λ q. ne (ap name_is.Leaf q)) ∙ old
  other_parts kind (part_is.Reader r) ne old = tt
  other_parts leaf_is.Get (part_is.Book book) ne old = old
  other_parts leaf_is.Put (part_is.Book book) ne old = old

  own_given : (kind : LeafCall) (b : Bool) → Agrees (cond b (effect T (leaf_call kind worker m)) T) (part_is.Leaf worker (cond b (row_effect counts (leaf_call kind worker m)) counts))
  own_given kind true = own_row kind
  own_given kind false = row_at

  others_given : (kind : LeafCall) (b : Bool) (y : Part) → name_of y ≢ name_is.Leaf worker → Agrees T y → Agrees (cond b (effect T (leaf_call kind worker m)) T) y
  others_given kind true y ne old = other_parts kind y ne old
  others_given kind false y ne old = old

  abbrev given : LeafCall → Reply → Part
  given kind r = part_is.Leaf worker (row_given r counts (leaf_call kind worker m))

  turns : (kind : LeafCall) (r : Reply) (n' : ℕ) → reply world.catalogue T (leaf_call kind worker m) ≡ r → n' ≡ word_of (next world.catalogue T (leaf_call kind worker m)) m
      → move.Turns T (next world.catalogue T (leaf_call kind worker m)) x (given kind r) m n'
  turns kind r n' is here =
      let same = sym (move.next_by world s kept (leaf_call kind worker m) (range kind) r is) in record {
        same = refl;
        agrees = subst (λ (t : Table). Agrees t (given kind r)) same (own_given kind (is_done r));
        others = λ y ne old. subst (λ (t : Table). Agrees t y) same (others_given kind (is_done r) y ne old);
        here = here;
        elsewhere = others_stay kind;
      }

  -- the call was answered, and the word is n' now
  answers : (kind : LeafCall) (r : Reply) (n' : ℕ) → reply world.catalogue T (leaf_call kind worker m) ≡ r → n' ≡ word_of (next world.catalogue T (leaf_call kind worker m)) m
      → (w : View) × RowRule world (stepped s (place_of m) n' id c w keeps) × By kind r w × (n' ≡ word_after w m)
  answers kind r n' is here =
      let t = turns kind r n' is here in (
        move.next_view world s kept id v at x (given kind r) single (leaf_call kind worker m) m n' inside (range kind) (maker kind) t,
        move.point world s kept id v at x (given kind r) single (leaf_call kind worker m) m n' inside (range kind) (maker kind) t c,
        move.answered world s kept id v at x (given kind r) single (leaf_call kind worker m) m n' inside (range kind) (maker kind) t r is,
        move.word_is world s kept id v at x (given kind r) single (leaf_call kind worker m) m n' inside (range kind) (maker kind) t,
      )

  -- what a load gives: the call was answered, or nothing changed
  abbrev Load : LeafCall → Outcome → Type 0
  Load kind o = (w : View) × RowRule world (stepped s (place_of m) n id c w keeps) × MatchOutcome o (λ r. By kind r w × (n ≡ word_after w m)) (λ _. w ≡ v)

  stays : (kind : LeafCall) (word : ℕ) → Load kind (GoesOn word)
  stays kind word = (v, move.still world s kept id v at (place_of m) c, refl)

  loads : (kind : LeafCall) (Q : ℕ → Type 0) (o : Outcome) (word : ℕ) → word ≡ n
      → MatchOutcome o (λ r. (r ≡ reply world.catalogue T (leaf_call kind worker m)) × (word ≡ word_of (next world.catalogue T (leaf_call kind worker m)) m)) Q → Load kind o
  loads kind Q (Effect r) word same is = let a = answers kind r n (sym is.0) (sym same ∙ is.1) in (a.0, a.1, (a.2, a.3))
  loads kind Q (GoesOn to) word same is = stays kind to

  get_right : IsRightStep world.catalogue T (call_is.Get worker m) (get_look count n)
  get_right = subst (λ (z : ℕ × ℕ). IsRightStep world.catalogue T (call_is.Get worker m) (get_look z.0 z.1)) (λ i. (count_is i, sym found_is i)) (move.right world s kept (call_is.Get worker m) (inside, known))

  put_right : IsRightStep world.catalogue T (call_is.Put worker m) (put_step count n)
  put_right = subst (λ (z : ℕ × ℕ). IsRightStep world.catalogue T (call_is.Put worker m) (put_step z.0 z.1)) (λ i. (count_is i, sym found_is i)) (move.right world s kept (call_is.Put worker m) (inside, known))

  put_looks : (b : Bool) → (count == 1) ≡ b → Load leaf_is.Put (cond b (GoesOn n) (put_step count n).outcome)
  put_looks true e = stays leaf_is.Put n
  put_looks false e = loads leaf_is.Put _ (put_step count n).outcome (put_step count n).word (put_step_word count n e) put_right

  looks_at : (kind : LeafCall) → Load kind (leaf_look kind count n)
  looks_at leaf_is.Get = loads leaf_is.Get _ (get_look count n).outcome (get_look count n).word (get_look_word count n) get_right
  looks_at leaf_is.Put = put_looks (count == 1) refl

  abbrev Makes : ℕ → (View → Type 0) → Type 0
  Makes n' then = (w : View) × RowRule world (stepped s (place_of m) n' id c w keeps) × then w

  arrives_at : (old : ℕ) → n ≡ old → old < closed → count ≡ 0 → Makes (old + 1) (λ w. By leaf_is.Get Done w)
  arrives_at old hit below none_held =
      let looked : IsRightStep world.catalogue T (call_is.Get worker m) (get_look 0 old) = subst (λ (z : ℕ × ℕ). IsRightStep world.catalogue T (call_is.Get worker m) (get_look z.0 z.1)) (λ i. (none_held i, hit i)) get_right in
      let right : IsRightStep world.catalogue T (call_is.Get worker m) (record { word = old; outcome = GoesOn old }) =
      subst (λ (b : Bool). IsRightStep world.catalogue T (call_is.Get worker m) (cond b (record { word = old; outcome = GoesOn old }) (takes_effect old NotLive))) (lt-ltb old closed below) looked in
      let a = answers leaf_is.Get Done (old + 1) right.0 (sym right.4) in
      (a.0, a.1, a.2)

  departs_at : count ≡ 1 → Makes ((n + 18446744073709551615) % 18446744073709551616) (λ w. By leaf_is.Put Done w)
  departs_at one =
      let right : IsRightStep world.catalogue T (call_is.Put worker m) (put_step 1 n) = subst (λ (k : ℕ). IsRightStep world.catalogue T (call_is.Put worker m) (put_step k n)) one put_right in
      let held : 0 < holders T.rows m = holders_positive T worker m (let e = count_is in omega arith) in
      let positive : 0 < word_of T m = word_positive (state_of T.book m) (holders T.rows m) held in
      let small : word_of T m < 18446744073709551616 = move.word_small (state_of T.book m) (holders T.rows m) (move.few_holders world s kept m) in
      let here : (n + 18446744073709551615) % 18446744073709551616 ≡ n - 1 = less n (let e = found_is in omega arith) (let e = found_is in omega arith) in
      let a = answers leaf_is.Put Done ((n + 18446744073709551615) % 18446744073709551616) (sym right.0) (here ∙ right.1) in
      (a.0, a.1, a.2)
    where
      less : (k : ℕ) → 0 < k → k < 18446744073709551616 → (k + 18446744073709551615) % 18446744073709551616 ≡ k - 1
      less k positive small = omega arith

-- what the steps of a leaf tell
abbrev pub looked : LeafCall → Step (Unit {0}) → SeatState → ℕ → SeatState → Type 0
looked kind = AtSlot (λ _ m v found w. Looked kind m v found w)

abbrev pub arrived : Step (Unit {0}) → SeatState → ℕ → SeatState → Type 0
arrived = AtSlot (λ expected m v found w. TriedArrive m v (found == expected) w)

abbrev pub departed : Step (Unit {0}) → SeatState → ℕ → SeatState → Type 0
departed = AtSlot (λ _ m v _ w. LeafAnswered v m leaf_is.Put Done w)

module _ (world : World) (slots' id : ℕ) (me : Me (Unit {0}) View) (is : IsLeaf me.0) (m : ℕ) (inside : m < slots world) where
  pub looks : (kind : LeafCall) → Allows (RowRule world) slots' id me (place_of m) (λ n. n) (looked kind (step slots' (place_of m) 0 0 none) me)
  looks kind s kept _ at small =
      let r = looks_at world s kept id me.0 at (worker_of me.0) (counts_of me.0) is m inside me.1 kind in
      (r.0, keeps, tt, r.1, (refl, λ j e. subst (λ i. Looked kind i me.0 (get_or s.words (place_of m) 0) r.0) (move.same_slot m j e) r.2))

  pub arrives : (old : ℕ) → old < closed → count_of me.0 m ≡ 0 → Allows (RowRule world) slots' id me (place_of m) (λ n. either (eqb n old) (old + 1) n) (arrived (step slots' (place_of m) old (old + 1) none) me)
  arrives old below zero_is s kept _ at small = exchanged found old (old + 1) Goal hit miss
    where
      found : ℕ
      found = get_or s.words (place_of m) 0

      Goal : ℕ → Type 0
      Goal n' = (w : View) × (a : Act (Unit {0})) × Valid s.homes me.1 a × RowRule world (stepped s (place_of m) n' id me.1 w a) × arrived (step slots' (place_of m) old (old + 1) none) me (get_or s.words (place_of m) 0) (w, carried_after me.1 a)

      hit : get_or s.words (place_of m) 0 ≡ old → Goal (old + 1)
      hit e =
          let r = arrives_at world s kept id me.0 at (worker_of me.0) (counts_of me.0) is m inside me.1 old e below zero_is in (
            r.0,
            keeps,
            tt,
            r.1,
            (refl, λ j q. subst (λ i. TriedArrive i me.0 (get_or s.words (place_of m) 0 == old) r.0) (move.same_slot m j q) (subst (λ b. MatchBool b (LeafAnswered me.0 m leaf_is.Get Done r.0) (r.0 ≡ me.0)) (sym (eq-eqb (get_or s.words (place_of m) 0) old e)) r.2)),
          )

      miss : get_or s.words (place_of m) 0 ≢ old → Goal (get_or s.words (place_of m) 0)
      miss ne = (me.0, keeps, tt, move.still world s kept id me.0 at (place_of m) me.1, (refl, λ j q. subst (λ b. MatchBool b (LeafAnswered me.0 j leaf_is.Get Done me.0) (me.0 ≡ me.0)) (sym (ne_eqb (get_or s.words (place_of m) 0) old ne)) refl))

  pub departs : count_of me.0 m ≡ 1 → Allows (RowRule world) slots' id me (place_of m) (λ n. (n + (2 ^ 64 - 1)) % 2 ^ 64) (departed (step slots' (place_of m) 1 0 none) me)
  departs one s kept _ at small =
      let r = departs_at world s kept id me.0 at (worker_of me.0) (counts_of me.0) is m inside me.1 one in
      (r.0, keeps, tt, r.1, (refl, λ j e. subst (λ i. LeafAnswered me.0 i leaf_is.Put Done r.0) (move.same_slot m j e) r.2))

-- a leaf's view stays one
pub leaf_parts : (w : View) (a : ℕ) (counts : List ℕ) → IsOne w (part_is.Leaf a counts) → IsLeaf w
leaf_parts w a counts e = let P : List Member → Type 0 = λ ps. ps ≡ member (part_is.Leaf (worker_in (part_in ps)) (counts_in (part_in ps))) (seen_in ps) ∷ [] in subst P (sym e) refl

pub looked_leaf : (kind : LeafCall) (m found : ℕ) (v w : View) → IsLeaf v → Looked kind m v found w → IsLeaf w
looked_leaf kind m found v w is told = by_case (leaf_look kind (count_of v m) found) told
  where
    by_case : (o : Outcome) → MatchOutcome o (λ r. LeafAnswered v m kind r w × (found ≡ word_after w m)) (λ _. w ≡ v) → IsLeaf w
    by_case (Effect r) t = leaf_parts w (worker_of v) _ t.0.members
    by_case (GoesOn word) t = subst IsLeaf (sym t) is

pub arrived_leaf : (m : ℕ) (made : Bool) (v w : View) → IsLeaf v → TriedArrive m v made w → IsLeaf w
arrived_leaf m made v w is told = by_case made told
  where
    by_case : (b : Bool) → MatchBool b (LeafAnswered v m leaf_is.Get Done w) (w ≡ v) → IsLeaf w
    by_case true t = leaf_parts w (worker_of v) _ t.members
    by_case false t = subst IsLeaf (sym t) is

pub departed_leaf : (m : ℕ) (v w : View) → LeafAnswered v m leaf_is.Put Done w → IsLeaf w
departed_leaf m v w t = leaf_parts w (worker_of v) _ t.members
