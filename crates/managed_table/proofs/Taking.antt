-- A leaf that takes references to several slots, or gives back those that it took.
use Rattle.std.proofs.Common.{◌≡◌, ℕ, zero, suc, ◌+◌, ◌-◌, ◌<◌, ◌≤◌, ◌==◌, Bool, true, false, List, [], ◌∷◌, ◌++◌, Option, Some, None, IfNone, length, drop, refl, sym, ap, ◌∙◌, subst, append_assoc, append-nil, arith}
use Rattle.std.specs.Prelude.{slice_index, slice_set, MatchBool}
use Rattle.std.proofs.Math.Seq.{drop-append_seam}
use Rattle.std.proofs.lemmas.List.{set-set, set-get_or, length-set, get_or-set_same}
use Rattle.dep_index.specs.declared.table.calls.Call.TheVariants.{Get}
use Rattle.dep_index.specs.declared.table.calls.Reply.{Reply}
use Rattle.dep_index.specs.declared.table.calls.Reply.TheVariants.{Done}
use Rattle.dep_index.specs.declared.table.refusals.GetError.{GetError}
use Rattle.dep_index.specs.declared.table.refusals.GetError.TheVariants as get
use Rattle.dep_index.specs.Refusals.{get_refusal}
use Rattle.root_row.specs.declared.view.AtomicStep.{AtomicStep}
use Rattle.root_row.specs.declared.view.AtomicStep.TheVariants.{Load, Subtract}
use Rattle.root_row.specs.declared.view.SeatAnswer.{SeatAnswer}
use Rattle.root_row.specs.declared.view.SeatName.TheVariants as name_is
use Rattle.root_row.specs.declared.calls.LeafCall.TheVariants as leaf_is
use Rattle.root_row.specs.History.{seat_answer, table_after, own_answers}
use Rattle.root_row.specs.World.{slots}
use Rattle.root_row.specs.Seats.{RowIs, Seated, IsOf, KnowsTable}
use Rattle.root_row.specs.Views.{part_in, counts_in, seen_of, worker_of, counts_of, count_of}
use Rattle.root_row.specs.Steps.{LeafAnswered}
use Rattle.root_row.specs.StepsMade.{StepsMade, OneLoad}
use Rattle.root_row.proofs.Replay.{get_or_at, at_length, shaped_after}
use Rattle.use_indicator.specs.Counted.{missed, last_try, FirstSteps, GivenUp, TrySteps, PutSteps}
use Rattle.managed_table.specs.Kept.{seen, leaf_fits}
use Rattle.managed_table.specs.Turns.{since}
use Rattle.managed_table.specs.Holdings.{put_done, MadeInOrder}
use Rattle.managed_table.specs.AllOrNone.{get_done, refused_get, first_gets, back_puts, one_more, with_gets, AreBelow, MadeSteps, HasMisses, WasGivenUp}
use Rattle.managed_table.proofs.Answered.{leaf_back, leaf_same}
use Rattle.managed_table.proofs.Giving.{counts_after, made_none, made_put, made_both}
use Rattle.managed_table.proofs.Holders.{knows_row}

-- a leaf has a count for each slot
pub as_wide : (row : RowIs) (x : Seated) → leaf_fits row (worker_of x.view) x → KnowsTable x.view → length (counts_of x.view) ≡ slots row.world
as_wide row x fits knows =
    let worker = worker_of x.view in
    let rows = (table_after row.world (seen x)).rows in
    let is = knows_row row worker x fits knows in
    let shape = shaped_after row.world (seen x) in
    let inside = at_length rows worker (counts_of x.view) is in
    let few = shape.rows in
    ap length (sym (get_or_at rows worker (counts_of x.view) [] is)) ∙ shape.row worker (omega (arith, inside, few))

-- a get that was answered, or was given up
module _ (row : RowIs) (slot : ℕ) (x y : Seated) (fits : leaf_fits row (worker_of x.view) x) (own : IsOf row y) where
  pub get_fits : (reply : Reply) → LeafAnswered x.view slot leaf_is.Get reply y.view → leaf_fits row (worker_of x.view) y
  get_fits reply t = (leaf_back row (worker_of x.view) slot x y fits own leaf_is.Get reply t).0

  pub get_made : (reply : Reply) → LeafAnswered x.view slot leaf_is.Get reply y.view → MadeInOrder (seat_answer (name_is.Leaf (worker_of x.view)) (Get (worker_of x.view) slot) reply ∷ []) x y
  get_made reply t = record { begins = (leaf_back row (worker_of x.view) slot x y fits own leaf_is.Get reply t).1; own = t.own }

  pub got_counts : LeafAnswered x.view slot leaf_is.Get Done y.view → counts_of y.view ≡ one_more (counts_of x.view) slot
  got_counts t = ap (λ ms. counts_in (part_in ms)) t.members

  pub kept_counts : (error : GetError) → LeafAnswered x.view slot leaf_is.Get (get_refusal error) y.view → counts_of y.view ≡ counts_of x.view
  kept_counts get.NotLive t = ap (λ ms. counts_in (part_in ms)) t.members
  kept_counts get.TooMany t = ap (λ ms. counts_in (part_in ms)) t.members

  pub missed_fits : y.view ≡ x.view → leaf_fits row (worker_of x.view) y
  missed_fits same = (leaf_same row (worker_of x.view) slot x y fits own same).0

  pub missed_made : y.view ≡ x.view → MadeInOrder [] x y
  missed_made same = record {
    begins = (leaf_same row (worker_of x.view) slot x y fits own same).1;
    own = ap (λ v. own_answers (name_is.Leaf (worker_of x.view)) (seen_of v)) same ∙ sym (append-nil (own_answers (name_is.Leaf (worker_of x.view)) (seen x)));
  }

-- a row with some references more is as wide
pub wide_with : (counts wanted : List ℕ) (n : ℕ) → length (with_gets counts wanted n) ≡ length counts
wide_with counts wanted zero = refl
wide_with counts wanted (suc n) =
    let row = with_gets counts wanted n in
    let slot = slice_index wanted n in
    length-set row slot (slice_index row slot + 1) ∙ wide_with counts wanted n

-- a put of what was taken last
module _ (slot : ℕ) (x y : Seated) (given : Reply) (t : LeafAnswered x.view slot leaf_is.Put given y.view) (counts : List ℕ) (inside : slot < length counts)
    (is : counts_of x.view ≡ one_more counts slot) where
  got_one : count_of x.view slot ≡ slice_index counts slot + 1
  got_one = ap (λ l. slice_index l slot) is ∙ get_or-set_same counts slot (slice_index counts slot + 1) 0 inside

  pub got_held : 0 < count_of x.view slot
  got_held = let one = got_one in omega (arith, one)

  pub got_back : counts_of y.view ≡ counts
  got_back =
      let one = got_one in
      let less : count_of x.view slot - 1 ≡ slice_index counts slot = omega (arith, one) in
      counts_after x.view y.view slot given t got_held
      ∙ ap (λ l. slice_set l slot (count_of x.view slot - 1)) is
      ∙ set-set counts slot (slice_index counts slot + 1) (count_of x.view slot - 1)
      ∙ ap (λ n. slice_set counts slot n) less
      ∙ set-get_or counts slot 0

-- the puts that give the first so many of these slots back were made, but for those of the first so many
abbrev pub AllButMade : List ℕ → ℕ → Seated → Seated → ℕ → Type 0
AllButMade wanted count old now left =
    (front : List SeatAnswer) × MadeInOrder front old now × (front ++ back_puts (worker_of old.view) wanted left ≡ back_puts (worker_of old.view) wanted count)

-- and now one more is
module _ (row : RowIs) (wanted : List ℕ) (old x y : Seated) (place count : ℕ) (fits : leaf_fits row (worker_of old.view) x) (own : IsOf row y) (given : Reply)
    (t : LeafAnswered x.view (slice_index wanted place) leaf_is.Put given y.view) (held : 0 < count_of x.view (slice_index wanted place)) where
  pub front_more : AllButMade wanted count old x (suc place) → AllButMade wanted count old y place
  front_more m =
      let put : MadeInOrder (put_done (worker_of old.view) (slice_index wanted place) ∷ []) x y =
      subst (λ w. MadeInOrder (put_done w (slice_index wanted place) ∷ []) x y) fits.1 (made_put row (slice_index wanted place) old x y fits own given t held) in (
        m.0 ++ put_done (worker_of old.view) (slice_index wanted place) ∷ [],
        made_both m.0 (put_done (worker_of old.view) (slice_index wanted place) ∷ []) old x y fits.1 m.1 put,
        append_assoc m.0 (put_done (worker_of old.view) (slice_index wanted place) ∷ []) (back_puts (worker_of old.view) wanted place) ∙ m.2,
      )

-- the next to give back is the one before the first so many that are left
module _ (row : RowIs) (wanted : List ℕ) (count back : ℕ) (more : back < count) (inside : AreBelow (slots row.world) wanted) (few : count ≤ length wanted) where
  abbrev pub next_place : ℕ
  next_place = count - 1 - back

  pub one_left : suc next_place ≡ count - back
  one_left = omega (arith, more)

  pub next_inside : slice_index wanted next_place < slots row.world
  next_inside = inside next_place (omega (arith, more, few))

  module _ (old x y : Seated) (fits : leaf_fits row (worker_of old.view) x) (own : IsOf row y) (given : Reply)
      (t : LeafAnswered x.view (slice_index wanted next_place) leaf_is.Put given y.view)
      (counts : (counts : List ℕ) → length counts ≡ slots row.world → counts_of old.view ≡ with_gets counts wanted count → counts_of x.view ≡ with_gets counts wanted (count - back))
      (took : (counts : List ℕ) × (length counts ≡ slots row.world) × (counts_of old.view ≡ with_gets counts wanted count)) where
    in_row : (c : List ℕ) → length c ≡ slots row.world → slice_index wanted next_place < length (with_gets c wanted next_place)
    in_row c wide =
        let within = next_inside in
        let same = wide_with c wanted next_place in
        omega (arith, within, wide, same)

    is_one_more : (c : List ℕ) → length c ≡ slots row.world → counts_of old.view ≡ with_gets c wanted count → counts_of x.view ≡ one_more (with_gets c wanted next_place) (slice_index wanted next_place)
    is_one_more c wide is = counts c wide is ∙ ap (with_gets c wanted) (sym one_left)

    pub back_held : 0 < count_of x.view (slice_index wanted next_place)
    back_held = got_held (slice_index wanted next_place) x y given t (with_gets took.0 wanted next_place) (in_row took.0 took.1) (is_one_more took.0 took.1 took.2)

    pub back_fits : leaf_fits row (worker_of old.view) y
    back_fits = (leaf_back row (worker_of old.view) (slice_index wanted next_place) x y fits own leaf_is.Put given t).0

    pub back_made : AllButMade wanted count old x (count - back) → AllButMade wanted count old y (count - (back + 1))
    back_made m =
        let less : next_place ≡ count - (back + 1) = omega arith in
        subst (AllButMade wanted count old y) less
        (front_more row wanted old x y next_place count fits own given t back_held (subst (AllButMade wanted count old x) (sym one_left) m))

    pub back_counts : (c : List ℕ) → length c ≡ slots row.world → counts_of old.view ≡ with_gets c wanted count → counts_of y.view ≡ with_gets c wanted (count - (back + 1))
    back_counts c wide is =
        let less : next_place ≡ count - (back + 1) = omega arith in
        got_back (slice_index wanted next_place) x y given t (with_gets c wanted next_place) (in_row c wide) (is_one_more c wide is) ∙ ap (with_gets c wanted) less

-- one get more was done
module _ (wanted : List ℕ) (place : ℕ) (old x y : Seated) (worker : worker_of x.view ≡ worker_of old.view) where
  pub gets_more : MadeInOrder (first_gets (worker_of old.view) wanted place) old x → MadeInOrder (get_done (worker_of x.view) (slice_index wanted place) ∷ []) x y
      → MadeInOrder (first_gets (worker_of old.view) wanted (place + 1)) old y
  gets_more made one =
      let last : MadeInOrder (get_done (worker_of old.view) (slice_index wanted place) ∷ []) x y = subst (λ w. MadeInOrder (get_done w (slice_index wanted place) ∷ []) x y) worker one in
      let next : suc place ≡ place + 1 = omega arith in
      subst (λ n. MadeInOrder (first_gets (worker_of old.view) wanted n) old y) next (made_both _ _ old x y worker made last)

  pub counts_more : counts_of x.view ≡ with_gets (counts_of old.view) wanted place → counts_of y.view ≡ one_more (counts_of x.view) (slice_index wanted place)
      → counts_of y.view ≡ with_gets (counts_of old.view) wanted (place + 1)
  counts_more were is =
      let next : suc place ≡ place + 1 = omega arith in
      is ∙ ap (λ l. one_more l (slice_index wanted place)) were ∙ ap (with_gets (counts_of old.view) wanted) next

-- a get was refused, and those before it were given back
module _ (wanted : List ℕ) (place : ℕ) (refusal : Option GetError) (old x y z : Seated) (x_worker : worker_of x.view ≡ worker_of old.view) (y_worker : worker_of y.view ≡ worker_of x.view) where
  pub gave_up : MadeInOrder (first_gets (worker_of old.view) wanted place) old x → MadeInOrder (refused_get (worker_of x.view) (slice_index wanted place) refusal) x y
      → MadeInOrder (back_puts (worker_of y.view) wanted place) y z
      → MadeInOrder ((first_gets (worker_of old.view) wanted place ++ refused_get (worker_of old.view) (slice_index wanted place) refusal) ++ back_puts (worker_of old.view) wanted place) old z
  gave_up made refused back =
      let middle : MadeInOrder (refused_get (worker_of old.view) (slice_index wanted place) refusal) x y = subst (λ w. MadeInOrder (refused_get w (slice_index wanted place) refusal) x y) x_worker refused in
      let last : MadeInOrder (back_puts (worker_of old.view) wanted place) y z = subst (λ w. MadeInOrder (back_puts w wanted place) y z) (y_worker ∙ x_worker) back in
      made_both _ _ old y z (y_worker ∙ x_worker) (made_both _ _ old x y x_worker made middle) last

pub none_back : (wanted : List ℕ) (count n : ℕ) (old : Seated) → n ≡ count → AllButMade wanted count old old n
none_back wanted count n old is = ([], made_none old, ap (back_puts (worker_of old.view) wanted) is)

pub all_back : (wanted : List ℕ) (count n : ℕ) (old now : Seated) → n ≡ 0 → AllButMade wanted count old now n → MadeInOrder (back_puts (worker_of old.view) wanted count) old now
all_back wanted count n old now is m =
    let last = subst (AllButMade wanted count old now) is m in
    subst (λ l. MadeInOrder l old now) (sym (append-nil last.0) ∙ last.2) last.1

-- the steps of a call
got_first : (tries m : ℕ) (b : Bool) (answer : Reply) (old new : Seated) → MatchBool b ((found : List ℕ) × (length found < tries) × FirstSteps m found answer old new) (OneLoad m old new) → MadeSteps old new
got_first tries m true answer old new t = (missed m t.0 ++ last_try m t.2.0 answer, t.2.1)
got_first tries m false answer old new t = (Load m t.0 ∷ [], t.1)

pub got_steps : (tries m count : ℕ) (answer : Reply) (old new : Seated) → TrySteps tries m count answer old new → MadeSteps old new
got_steps tries m count answer old new t = got_first tries m (count == 0) answer old new t

pub gave_up_steps : (tries m : ℕ) (old new : Seated) → GivenUp tries m old new → MadeSteps old new
gave_up_steps tries m old new t = (missed m t.0, t.2)

put_last : (m : ℕ) (b : Bool) (old new : Seated) → MatchBool b (StepsMade old (Subtract m 1 ∷ []) new) (OneLoad m old new) → MadeSteps old new
put_last m true old new t = (Subtract m 1 ∷ [], t)
put_last m false old new t = (Load m t.0 ∷ [], t.1)

pub no_steps : (x : Seated) → MadeSteps x x
no_steps x = ([], sym (append-nil x.steps))

pub steps_both : (x y z : Seated) → MadeSteps x y → MadeSteps y z → MadeSteps x z
steps_both x y z s t = (s.0 ++ t.0, t.1 ∙ ap (λ l. l ++ t.0) s.1 ∙ append_assoc x.steps s.0 t.0)

pub put_steps : (m count : ℕ) (old x y : Seated) → MadeSteps old x → PutSteps m count x y → MadeSteps old y
put_steps m count old x y s t = steps_both old x y s (put_last m (count == 1) x y t)

-- a get was given up between other calls
among : (tries slot : ℕ) (old x y z : Seated) → MadeSteps old x → GivenUp tries slot x y → MadeSteps y z → HasMisses tries slot (since old.steps z)
among tries slot old x y z s t u =
    let more : List AtomicStep = missed slot t.0 ++ u.0 in
    let made : z.steps ≡ old.steps ++ (s.0 ++ more) =
    u.1 ∙ ap (λ l. l ++ u.0) t.2 ∙ append_assoc x.steps (missed slot t.0) u.0 ∙ ap (λ l. l ++ more) s.1 ∙ append_assoc old.steps s.0 more in
    (s.0, t.0, u.0, t.1, ap (drop (length old.steps)) made ∙ drop-append_seam old.steps (s.0 ++ more))

pub was_given_up : (wanted : List ℕ) (place tries : ℕ) (refusal : Option GetError) (old x y z : Seated) → counts_of x.view ≡ with_gets (counts_of old.view) wanted place
    → IfNone refusal (count_of x.view (slice_index wanted place) ≡ 0) → IfNone refusal (GivenUp tries (slice_index wanted place) x y) → MadeSteps old x → MadeSteps y z
    → WasGivenUp tries (counts_of old.view) wanted (since old.steps z) (record { place = place; refusal = refusal })
was_given_up wanted place tries (Some error) old x y z counts none gave s t = tt
was_given_up wanted place tries None old x y z counts none gave s t =
    (ap (λ l. slice_index l (slice_index wanted place)) (sym counts) ∙ none, among tries (slice_index wanted place) old x y z s gave t)
