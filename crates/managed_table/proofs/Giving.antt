-- A leaf that gives references back.
use Rattle.std.proofs.Common.{◌≡◌, ◌≢◌, ℕ, zero, suc, ◌+◌, ◌-◌, ◌<◌, ◌≤◌, ◌==◌, inl, inr, Bool, true, false, None, List, [], ◌∷◌, ◌++◌, replicate, length, refl, sym, ap, ◌∙◌, subst, append_assoc, append-nil, arith}
use Rattle.std.specs.Prelude.{slice_index, slice_set, if◌then◌else◌}
use Rattle.std.specs.Option.{is_some, unwrap_or}
use Rattle.std.proofs.lemmas.Bool.{eqb-true, cases_eq}
use Rattle.std.proofs.lemmas.List.{map-append, replicate_more, get_or-set_same, get_or-set_other}
use mathlib.Core.Option.{some}
use lib.ListN.{get_elem?}
use Rattle.dep_index.specs.declared.table.calls.Call.{Call}
use Rattle.dep_index.specs.declared.table.calls.Call.TheVariants.{Put}
use Rattle.dep_index.specs.declared.table.calls.Reply.{Reply}
use Rattle.dep_index.specs.declared.table.calls.Reply.TheVariants.{Done, NotHeld}
use Rattle.dep_index.specs.Calls.{refuse, reply, next, after, effect, replies, row_given}
use Rattle.dep_index.specs.History.{Answer, IsLegal, calls_in, replies_in}
use Rattle.dep_index.specs.Table as table
use Rattle.dep_index.specs.Table.{Module, Table}
use Rattle.root_row.specs.declared.view.World.{World}
use Rattle.root_row.specs.declared.view.SeatAnswer.{SeatAnswer}
use Rattle.root_row.specs.declared.view.SeatName.TheVariants as name_is
use Rattle.root_row.specs.declared.view.View.{View}
use Rattle.root_row.specs.declared.calls.LeafCall.TheVariants as leaf_is
use Rattle.root_row.specs.History.{SeatName, seat_answer, answer_of, answers_in, table_after, own_answers}
use Rattle.root_row.specs.World.{opened}
use Rattle.root_row.specs.Seats.{RowIs, Seated, IsOf}
use Rattle.root_row.specs.Views.{part_in, counts_in, seen_of, worker_of, counts_of, count_of}
use Rattle.root_row.specs.Steps.{LeafAnswered}
use Rattle.root_row.proofs.Replay.{get_or_at, table_after_one}
use Rattle.managed_table.specs.Kept.{seen, leaf_fits}
use Rattle.managed_table.specs.Holdings.{put_done, puts_below, MadeInOrder, HasNone}
use Rattle.managed_table.proofs.Answered.{leaf_back}

first : (x y : Reply) (xs ys : List Reply) → x ∷ xs ≡ y ∷ ys → x ≡ y
first x y xs ys e = cc

others : (x y : Reply) (xs ys : List Reply) → x ∷ xs ≡ y ∷ ys → xs ≡ ys
others x y xs ys e = cc

-- the last call of a legal history is answered as the table before it answers it
last_reply : (catalogue : List Module) (t : Table) (before : List Answer) (a : Answer) → replies catalogue t (calls_in (before ++ a ∷ [])) ≡ replies_in (before ++ a ∷ [])
    → a.reply ≡ reply catalogue (after catalogue t (calls_in before)) a.call
last_reply catalogue t [] a e = sym (first _ _ _ _ e)
last_reply catalogue t (b ∷ before) a e = last_reply catalogue (next catalogue t b.call) before a (others _ _ _ _ e)

legal_reply : (world : World) (log : List SeatAnswer) (e : SeatAnswer) → IsLegal world.catalogue world.workers (answers_in (log ++ e ∷ []))
    → e.reply ≡ reply world.catalogue (table_after world log) e.call
legal_reply world log e legal =
    last_reply world.catalogue (opened world) (answers_in log) (answer_of e)
    (subst (λ (h : List Answer). replies world.catalogue (opened world) (calls_in h) ≡ replies_in h) (map-append answer_of log (e ∷ [])) legal.replay)

-- a put of what the worker holds
module _ (v w : View) (slot : ℕ) (given : Reply) (t : LeafAnswered v slot leaf_is.Put given w) (held : 0 < count_of v slot) where
  abbrev call : Call
  call = Put (worker_of v) slot

  abbrev log : List SeatAnswer
  log = seen_of v ++ t.between

  abbrev answer : SeatAnswer
  answer = seat_answer (name_is.Leaf (worker_of v)) call given

  abbrev before : Table
  before = table_after w.world log

  given_is : given ≡ reply w.world.catalogue before call
  given_is = legal_reply w.world log answer (subst (λ (l : List SeatAnswer). IsLegal w.world.catalogue w.world.workers (answers_in l)) t.seen t.legal)

  row_is : get_elem? (next w.world.catalogue before call).rows (worker_of v) ≡ some (row_given given (counts_of v) call)
  row_is = subst (λ (x : Table). get_elem? x.rows (worker_of v) ≡ some (row_given given (counts_of v) call)) (ap (table_after w.world) t.seen ∙ table_after_one w.world log answer) t.agrees

  refused : (b : Bool) → (table.count_of before (worker_of v) slot == 0) ≡ b → given ≡ Done
  refused false is = given_is ∙ ap (λ c. unwrap_or (refuse c NotHeld None) Done) is
  refused true is =
      let not_held : given ≡ NotHeld = given_is ∙ ap (λ c. unwrap_or (refuse c NotHeld None) Done) is in
      let same : next w.world.catalogue before call ≡ before = ap (λ c. if is_some (refuse c NotHeld None) then before else effect before call) is in
      let row : get_elem? before.rows (worker_of v) ≡ some (counts_of v) =
      subst (λ (x : Table). get_elem? x.rows (worker_of v) ≡ some (counts_of v)) same
      (subst (λ r. get_elem? (next w.world.catalogue before call).rows (worker_of v) ≡ some (row_given r (counts_of v) call)) not_held row_is) in
      let count : table.count_of before (worker_of v) slot ≡ count_of v slot = ap (λ l. slice_index l slot) (get_or_at before.rows (worker_of v) (counts_of v) [] row) in
      let none : table.count_of before (worker_of v) slot ≡ 0 = eqb-true _ 0 is in
      absurd (omega (arith, held, count, none))

  pub is_done : given ≡ Done
  is_done = refused (table.count_of before (worker_of v) slot == 0) refl

  pub counts_after : counts_of w ≡ slice_set (counts_of v) slot (count_of v slot - 1)
  counts_after = ap (λ ms. counts_in (part_in ms)) t.members ∙ ap (λ r. row_given r (counts_of v) call) is_done

  inside : slot < length (counts_of v)
  inside = in_list (counts_of v) slot held
    where
      in_list : (l : List ℕ) (i : ℕ) → 0 < slice_index l i → i < length l
      in_list [] i held = absurd (omega (arith, held))
      in_list (x ∷ xs) zero held = omega arith
      in_list (x ∷ xs) (suc i) held = let r = in_list xs i held in omega (arith, r)

  pub one_less : count_of w slot + 1 ≡ count_of v slot
  one_less =
      let left : count_of w slot ≡ count_of v slot - 1 = ap (λ l. slice_index l slot) counts_after ∙ get_or-set_same (counts_of v) slot (count_of v slot - 1) 0 inside in
      omega (arith, left, held)

  pub same_others : (m : ℕ) → m ≢ slot → count_of w m ≡ count_of v m
  same_others m other = ap (λ l. slice_index l m) counts_after ∙ get_or-set_other (counts_of v) slot m (count_of v slot - 1) 0 other

  own_one : own_answers (name_is.Leaf (worker_of v)) (seen_of w) ≡ own_answers (name_is.Leaf (worker_of v)) (seen_of v) ++ put_done (worker_of v) slot ∷ []
  own_one = t.own ∙ ap (λ r. own_answers (name_is.Leaf (worker_of v)) (seen_of v) ++ seat_answer (name_is.Leaf (worker_of v)) call r ∷ []) is_done

pub made_none : (x : Seated) → MadeInOrder [] x x
made_none x = record {
  begins = ([], sym (append-nil (seen x)));
  own = sym (append-nil (own_answers (name_is.Leaf (worker_of x.view)) (seen x)));
}

-- these calls, and then those
pub made_both : (one other : List SeatAnswer) (x y z : Seated) → worker_of y.view ≡ worker_of x.view → MadeInOrder one x y → MadeInOrder other y z → MadeInOrder (one ++ other) x z
made_both one other x y z same m n =
    let by : SeatName = name_is.Leaf (worker_of x.view) in
    let own : own_answers by (seen z) ≡ own_answers by (seen y) ++ other =
    subst (λ w. own_answers (name_is.Leaf w) (seen z) ≡ own_answers (name_is.Leaf w) (seen y) ++ other) same n.own in
    record {
      begins = (m.begins.0 ++ n.begins.0, n.begins.1 ∙ ap (λ l. l ++ n.begins.0) m.begins.1 ∙ append_assoc (seen x) m.begins.0 n.begins.0);
      own = own ∙ ap (λ l. l ++ other) m.own ∙ append_assoc (own_answers by (seen x)) one other;
    }

module _ (row : RowIs) (slot : ℕ) (old x y : Seated) (fits : leaf_fits row (worker_of old.view) x) (own : IsOf row y) (given : Reply)
    (t : LeafAnswered x.view slot leaf_is.Put given y.view) (held : 0 < count_of x.view slot) where
  pub put_fits : leaf_fits row (worker_of old.view) y
  put_fits = (leaf_back row (worker_of old.view) slot x y fits own leaf_is.Put given t).0

  pub made_put : MadeInOrder (put_done (worker_of x.view) slot ∷ []) x y
  made_put = record {
    begins = (leaf_back row (worker_of old.view) slot x y fits own leaf_is.Put given t).1;
    own = own_one x.view y.view slot given t held;
  }

  pub put_more : (n : ℕ) → MadeInOrder (replicate n (put_done (worker_of old.view) slot)) old x → MadeInOrder (replicate (n + 1) (put_done (worker_of old.view) slot)) old y
  put_more n made =
      let put : MadeInOrder (put_done (worker_of old.view) slot ∷ []) x y = subst (λ w. MadeInOrder (put_done w slot ∷ []) x y) fits.1 made_put in
      subst (λ l. MadeInOrder l old y) (replicate_more n (put_done (worker_of old.view) slot))
      (made_both (replicate n (put_done (worker_of old.view) slot)) (put_done (worker_of old.view) slot ∷ []) old x y fits.1 made put)

-- the slots before one were given back, and now it is
module _ (slot : ℕ) (old x y : Seated) (worker : worker_of x.view ≡ worker_of old.view)
    (made : MadeInOrder (puts_below (worker_of old.view) (counts_of old.view) slot) old x)
    (none : HasNone x 0 slot) (rest : (m : ℕ) → slot ≤ m → count_of x.view m ≡ count_of old.view m)
    (put : MadeInOrder (replicate (count_of x.view slot) (put_done (worker_of x.view) slot)) x y) (gone : count_of y.view slot ≡ 0)
    (same : (m : ℕ) → m ≢ slot → count_of y.view m ≡ count_of x.view m) where
  pub slots_made : MadeInOrder (puts_below (worker_of old.view) (counts_of old.view) (slot + 1)) old y
  slots_made =
      let puts : MadeInOrder (replicate (count_of old.view slot) (put_done (worker_of old.view) slot)) x y =
      subst (λ w. MadeInOrder (replicate (count_of old.view slot) (put_done w slot)) x y) worker
      (subst (λ n. MadeInOrder (replicate n (put_done (worker_of x.view) slot)) x y) (rest slot (omega arith)) put) in
      let next : suc slot ≡ slot + 1 = omega arith in
      subst (λ n. MadeInOrder (puts_below (worker_of old.view) (counts_of old.view) n) old y) next (made_both _ _ old x y worker made puts)

  pub slots_none : HasNone y 0 (slot + 1)
  slots_none m from below = elim (cases_eq m slot) [
    | inl is ↦ ap (count_of y.view) is ∙ gone
    | inr other ↦ same m other ∙ none m from (omega (arith, below, other))
  ]

  pub slots_rest : (m : ℕ) → slot + 1 ≤ m → count_of y.view m ≡ count_of old.view m
  slots_rest m above = same m (λ is. absurd (omega (arith, above, is))) ∙ rest m (omega (arith, above))
