-- One more point is replayed.
use Rattle.std.proofs.Common.{◌≡◌, ◌↔◌, ℕ, ◌+◌, ◌<◌, Bool, true, false, cond, List, [], ◌∷◌, length, map, drop, get_or, refl, sym, ◌∙◌, ap, subst, arith, add-one, drop-cons}
use Rattle.std.proofs.Math.ListN.{length-set}
use Rattle.std.proofs.lemmas.List.{get_or-map, length-map}
use Rattle.std.specs.Option.{is_some}
use Rattle.dep_index.specs.declared.table.calls.Call.{Call}
use Rattle.dep_index.specs.declared.table.calls.Call.TheVariants.{Get, Put, InUse as Query, BeginLoad, EndLoad, BeginDrain, BeginRemove, EndRemove, CancelRemove}
use Rattle.dep_index.specs.declared.table.calls.Reply.{Reply}
use Rattle.dep_index.specs.Table.{Module, Table}
use Rattle.dep_index.specs.Calls.{reply, next, replies, effect, rows_effect, row_effect, refusal, IsInRange}
use Rattle.dep_index.specs.Laws.{AllInRange}
use Rattle.step_core.specs.Run.{call_numbered}
use Rattle.linear_points.specs.declared.point.Point.{Point}
use Rattle.linear_points.specs.declared.intervals.Interval.{Interval}
use Rattle.linear_points.specs.Noted.{calls_at}
use Rattle.linear_points.proofs.Numbers.{numbered_in_range}

abbrev pub interval_calls : List Interval → List Call
interval_calls intervals = map (λ (i : Interval). i.call) intervals

-- no call changes how many workers there are
rows_kept : (rows : List (List ℕ)) (call : Call) → length (rows_effect rows call) ≡ length rows
rows_kept rows (Get w m) = length-set rows w (row_effect (get_or rows w []) (Get w m))
rows_kept rows (Put w m) = length-set rows w (row_effect (get_or rows w []) (Put w m))
rows_kept rows (Query m) = refl
rows_kept rows (BeginLoad m) = refl
rows_kept rows (EndLoad m ok) = refl
rows_kept rows (BeginDrain m) = refl
rows_kept rows (BeginRemove m) = refl
rows_kept rows (EndRemove m) = refl
rows_kept rows (CancelRemove m) = refl

pub workers_kept : (catalogue : List Module) (table : Table) (call : Call) → length (next catalogue table call).rows ≡ length table.rows
workers_kept catalogue table call = at (is_some (refusal catalogue table call)) where
  at : (b : Bool) → length (cond b table (effect table call)).rows ≡ length table.rows
  at true = refl
  at false = rows_kept table.rows call

-- a point's call
pub call_found : (intervals : List Interval) (n : ℕ) (x : Interval) → x ≡ get_or intervals n x → n < length intervals → call_numbered (interval_calls intervals) n ≡ x.call
call_found intervals n x is h = get_or-map (λ (i : Interval). i.call) intervals n x (Query 0) h ∙ ap (λ (i : Interval). i.call) (sym is)

pub call_in_range : (catalogue : List Module) (workers : ℕ) (intervals : List Interval) (n : ℕ) (x : Interval) → AllInRange catalogue workers (interval_calls intervals)
    → x ≡ get_or intervals n x → n < length intervals → IsInRange (length catalogue) workers x.call
call_in_range catalogue workers intervals n x range is h =
    subst (IsInRange (length catalogue) workers) (call_found intervals n x is h)
    (numbered_in_range catalogue workers (interval_calls intervals) n range (omega (arith, h, length-map intervals (λ (i : Interval). i.call))))

-- the points from here on replay
abbrev pub Replays : List Module → Table → List Call → List Point → Type 0
Replays catalogue table calls points = replies catalogue table (calls_at calls points) ≡ map (λ (p : Point). p.reply) points

head_same : (x y : Reply) (xs ys : List Reply) → x ∷ xs ≡ y ∷ ys → x ≡ y
head_same x y xs ys e = cc

tail_same : (x y : Reply) (xs ys : List Reply) → x ∷ xs ≡ y ∷ ys → xs ≡ ys
tail_same x y xs ys e = cc

rest_is : (points : List Point) (i : ℕ) (d : Point) → i < length points → drop i points ≡ get_or points i d ∷ drop (i + 1) points
rest_is points i d h = drop-cons points i d h ∙ ap (λ (n : ℕ). get_or points i d ∷ drop n points) (sym (add-one i))

-- if the next point has its reply, the rest decides
pub goes_on : (catalogue : List Module) (table : Table) (calls : List Call) (points : List Point) (i : ℕ) (d : Point) (call : Call) → i < length points → call_numbered calls (get_or points i d).call ≡ call
    → reply catalogue table call ≡ (get_or points i d).reply
    → (Replays catalogue table calls (drop i points)) ↔ (Replays catalogue (next catalogue table call) calls (drop (i + 1) points))
goes_on catalogue table calls points i d call h is answered = (forth, back) where
  forth : Replays catalogue table calls (drop i points) → Replays catalogue (next catalogue table call) calls (drop (i + 1) points)
  forth e =
      let cons : Replays catalogue table calls (get_or points i d ∷ drop (i + 1) points) = subst (Replays catalogue table calls) (rest_is points i d h) e in
      subst (λ (c : Call). Replays catalogue (next catalogue table c) calls (drop (i + 1) points)) is (tail_same _ _ _ _ cons)

  back : Replays catalogue (next catalogue table call) calls (drop (i + 1) points) → Replays catalogue table calls (drop i points)
  back e =
      let first : reply catalogue table (call_numbered calls (get_or points i d).call) ≡ (get_or points i d).reply = ap (reply catalogue table) is ∙ answered in
      let later : Replays catalogue (next catalogue table (call_numbered calls (get_or points i d).call)) calls (drop (i + 1) points) = subst (λ (c : Call). Replays catalogue (next catalogue table c) calls (drop (i + 1) points)) (sym is) e in
      subst (Replays catalogue table calls) (sym (rest_is points i d h))
      (ap (λ (r : Reply). r ∷ replies catalogue (next catalogue table (call_numbered calls (get_or points i d).call)) (calls_at calls (drop (i + 1) points))) first
      ∙ ap (λ (rs : List Reply). (get_or points i d).reply ∷ rs) later)

-- a point that has another reply
pub differs : (catalogue : List Module) (table : Table) (calls : List Call) (points : List Point) (i : ℕ) (d : Point) (call : Call) → i < length points → call_numbered calls (get_or points i d).call ≡ call
    → (reply catalogue table call ≡ (get_or points i d).reply → ⊥) → Replays catalogue table calls (drop i points) → ⊥
differs catalogue table calls points i d call h is other e =
    let cons : Replays catalogue table calls (get_or points i d ∷ drop (i + 1) points) = subst (Replays catalogue table calls) (rest_is points i d h) e in
    other (ap (reply catalogue table) (sym is) ∙ head_same _ _ _ _ cons)

pub decides_on : (A : Type 0) (catalogue over : List Module) (table new : Table) (calls : List Call) (points : List Point) (i : ℕ) (d : Point) (call : Call) (answered : Reply)
    → A ↔ Replays catalogue table calls (drop i points) → i < length points → call_numbered calls (get_or points i d).call ≡ call
    → answered ≡ reply catalogue table call → answered ≡ (get_or points i d).reply → over ≡ catalogue → new ≡ next catalogue table call
    → A ↔ Replays over new calls (drop (i + 1) points)
decides_on A catalogue over table new calls points i d call answered decides h is told same kept becomes = (
  (λ a. subst (λ (c : List Module). Replays c new calls (drop (i + 1) points)) (sym kept) (subst (λ (t : Table). Replays catalogue t calls (drop (i + 1) points)) (sym becomes) (on.0 (decides.0 a)))),
  λ e. decides.1 (on.1 (subst (λ (t : Table). Replays catalogue t calls (drop (i + 1) points)) becomes (subst (λ (c : List Module). Replays c new calls (drop (i + 1) points)) kept e))),
) where
  on : Replays catalogue table calls (drop i points) ↔ Replays catalogue (next catalogue table call) calls (drop (i + 1) points)
  on = goes_on catalogue table calls points i d call h is (sym told ∙ same)
