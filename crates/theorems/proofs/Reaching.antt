-- The table of a session is reached from the opening table by calls in range.
use Rattle.std.proofs.Common.{◌≡◌, ℕ, ◌<◌, Bool, true, false, cond, List, [], ◌∷◌, ◌++◌, length, filter, Option, Some, None, Result, Ok, Err, refl, sym, ◌∙◌, ap, subst, length-set}
use Rattle.std.specs.Prelude.{nat_lt}
use Rattle.std.specs.List.{AllByRecursion}
use Rattle.std.proofs.lemmas.List.Elements.{recursion_from_All}
use Rattle.std.proofs.lemmas.Bool.{ltb-true}
use Rattle.std.proofs.lemmas.List.{length-replicate}
use Rattle.std.proofs.Math.ListN.{replicate}
use Rattle.std.specs.Option.{is_some}
use Rattle.dep_index.specs.declared.table.calls.Call.{Call}
use Rattle.dep_index.specs.declared.table.calls.Call.TheVariants as call
use Rattle.dep_index.specs.Table.{Module, Table, state_of, is_live, is_absent, is_draining}
use Rattle.dep_index.specs.Calls.{after, next, effect, refusal, IsInRange}
use Rattle.dep_index.specs.Catalogue.{description_at, slot_named, modules_of}
use Rattle.dep_index.specs.Laws.{AllInRange}
use Rattle.load_plan.specs.declared.items.Item.{Item}
use Rattle.load_plan.specs.declared.items.PlanError.{PlanError}
use Rattle.load_plan.specs.Items.{plan_of, removal_plan_of}
use Rattle.load_plan.specs.Parameters.{are_valid}
use Rattle.load_plan.specs.Sources.{is_kept}
use Rattle.modprobe.specs.Commands.{Action, insmod, rmmod, drain, query, get, put, Request, act, modinfo, plan, modprobe, modprobe_remove, Command, nothing, malformed, by_name, lsmod, proc, command_of}
use Rattle.modprobe.specs.Setup.{Setup, name_at}
use Rattle.modprobe.specs.Refusals.{code_of, unload_code}
use Rattle.modprobe.specs.Changes.{Change, ◌then◌, call_change, end_of_load, one_load, one_removal}
use Rattle.modprobe.specs.Plans.{◌>>=◌, targets_of, items_of_plans}
use Rattle.modprobe.specs.Loads as loads
use Rattle.modprobe.specs.Outcomes.{Outcome}
use Rattle.modprobe.specs.Session.{change_outcome, by_worker, action_outcome, named_outcome, request_outcome, command_outcome, line_outcome, line_reply, answer}
use Rattle.modprobe.specs.Serve.{opening_of}
use Rattle.modprobe.proofs.SlotLemmas.{named_below, known_below}
use Rattle.theorems.proofs.Bounding.{plan_slots, removal_slots}
use Rattle.theorems.specs.Sessions.{IsReached}

after_append : (catalogue : List Module) (table : Table) (xs ys : List Call) → after catalogue table (xs ++ ys) ≡ after catalogue (after catalogue table xs) ys
after_append catalogue table [] ys = refl
after_append catalogue table (x ∷ xs) ys = after_append catalogue (next catalogue table x) xs ys

range_append : (catalogue : List Module) (workers : ℕ) (xs ys : List Call) → AllInRange catalogue workers xs → AllInRange catalogue workers ys → AllInRange catalogue workers (xs ++ ys)
range_append catalogue workers [] ys left right = right
range_append catalogue workers (x ∷ xs) ys left right = (left.0, range_append catalogue workers xs ys left.1 right)

-- a call keeps the number of workers
rows_effect : (table : Table) (x : Call) → length (effect table x).rows ≡ length table.rows
rows_effect table (call.Get w m) = length-set table.rows w _
rows_effect table (call.Put w m) = length-set table.rows w _
rows_effect table (call.InUse m) = refl
rows_effect table (call.BeginLoad m) = refl
rows_effect table (call.EndLoad m ok) = refl
rows_effect table (call.BeginDrain m) = refl
rows_effect table (call.BeginRemove m) = refl
rows_effect table (call.EndRemove m) = refl
rows_effect table (call.CancelRemove m) = refl

rows_next : (catalogue : List Module) (table : Table) (x : Call) → length (next catalogue table x).rows ≡ length table.rows
rows_next catalogue table x = at (is_some (refusal catalogue table x)) where
  at : (b : Bool) → length (cond b table (effect table x)).rows ≡ length table.rows
  at true = refl
  at false = rows_effect table x

rows_after : (catalogue : List Module) (table : Table) (xs : List Call) → length (after catalogue table xs).rows ≡ length table.rows
rows_after catalogue table [] = refl
rows_after catalogue table (x ∷ xs) = rows_after catalogue (next catalogue table x) xs ∙ rows_next catalogue table x

-- a fact of what is given, if it is given
abbrev IfGiven : {A : Type 0} → (A → Type 0) → Result A PlanError → Type 0
IfGiven P (Ok x) = P x
IfGiven P (Err e) = Unit {0}

given-then : {A B : Type 0} (P : B → Type 0) (r : Result A PlanError) (f : A → Result B PlanError) → ((x : A) → r ≡ Ok x → IfGiven P (f x)) → IfGiven P (r >>= f)
given-then P (Ok x) f h = h x refl
given-then P (Err e) f h = tt

append-all : {A : Type 0} (P : A → Type 0) (xs ys : List A) → AllByRecursion P xs → AllByRecursion P ys → AllByRecursion P (xs ++ ys)
append-all P [] ys l r = r
append-all P (x ∷ xs) ys l r = (l.0, append-all P xs ys l.1 r)

module _ (s : Setup) (workers : ℕ) where
  abbrev known : List Module
  known = modules_of s.catalogue

  abbrev Good : Table → Type 0
  Good t = IsReached s workers t

  pick : (b : Bool) (x y : Change) → Good x.1 → Good y.1 → Good (cond b x y).1
  pick true x y gx gy = gx
  pick false x y gx gy = gy

  reach_call : (x : Call) (t : Table) → IsInRange (length known) workers x → Good t → Good (next known t x)
  reach_call x t range g =
      record {
        calls = g.calls ++ x ∷ [];
        range = range_append known workers g.calls (x ∷ []) g.range (range, tt);
        reached = ap (λ u. next known u x) g.reached ∙ sym (after_append known (opening_of s workers) g.calls (x ∷ []));
      }

  then_reached : (c : Change) (f : Table → Change) → Good c.1 → ((u : Table) → Good u → Good (f u).1) → Good (c then f).1
  then_reached (None, t) f g h = h t g
  then_reached (Some r, t) f g h = g

  end_reached : (m : ℕ) → m < length known → (ok : Bool) (t : Table) → Good t → Good (end_of_load s m ok t).1
  end_reached m below true t g = reach_call (call.EndLoad m true) t (below, tt) g
  end_reached m below false t g =
      then_reached (call_change s code_of m (call.EndLoad m false) t) _ (reach_call (call.EndLoad m false) t (below, tt) g) (λ u h. h)

  load_reached : (m : ℕ) → m < length known → (words : List (List ℕ)) (t : Table) → Good t → Good (one_load s m words t).1
  load_reached m below words t g =
      then_reached (call_change s code_of m (call.BeginLoad m) t) (λ u. end_of_load s m (are_valid (description_at s.catalogue m) words) u)
      (reach_call (call.BeginLoad m) t (below, tt) g)
      (λ u h. end_reached m below (are_valid (description_at s.catalogue m) words) u h)

  removal_reached : (m : ℕ) → m < length known → (t : Table) → Good t → Good (one_removal s m t).1
  removal_reached m below t g =
      pick (is_draining (state_of t.book m)) (call_change s unload_code m (call.EndRemove m) t) (call_change s unload_code m (call.BeginRemove m) t then (λ u. call_change s unload_code m (call.EndRemove m) u))
      (reach_call (call.EndRemove m) t (below, tt) g)
      (then_reached (call_change s unload_code m (call.BeginRemove m) t) (λ u. call_change s unload_code m (call.EndRemove m) u)
      (reach_call (call.BeginRemove m) t (below, tt) g)
      (λ u h. reach_call (call.EndRemove m) u (below, tt) h))

  abbrev Inside : List Item → Type 0
  Inside items = AllByRecursion (λ (i : Item). i.slot < length s.catalogue) items

  item_reached : (item : Item) → item.slot < length s.catalogue → (t : Table) → Good t → Good (loads.item_load s item t).1
  item_reached item below t g =
      let one : Good (one_load s item.slot item.options t).1 = load_reached item.slot (known_below s.catalogue item.slot below) item.options t g in
      pick (is_live (state_of t.book item.slot)) (None, t) _ g
      (pick item.soft (loads.without_refusal (one_load s item.slot item.options t)) (one_load s item.slot item.options t) one one)

  loads_reached : (items : List Item) → Inside items → (t : Table) → Good t → Good (loads.loads s items t).1
  loads_reached [] inside t g = g
  loads_reached (item ∷ items) inside t g =
      then_reached (loads.item_load s item t) (λ u. loads.loads s items u) (item_reached item inside.0 t g) (λ u h. loads_reached items inside.1 u h)

  planned_inside : (words : List (List ℕ)) (targets : List (List ℕ)) (items : List Item) → Inside items → IfGiven Inside (items_of_plans s words items targets)
  planned_inside words [] items inside = inside
  planned_inside words (target ∷ targets) items inside =
      given-then Inside (plan_of s.catalogue s.dependencies s.configuration target words) (λ more. items_of_plans s words (items ++ more) targets)
      (λ more is. planned_inside words targets (items ++ more)
      (append-all (λ (i : Item). i.slot < length s.catalogue) items more inside
      (recursion_from_All (λ (i : Item). i.slot < length s.catalogue) more (plan_slots s.catalogue s.dependencies s.configuration target words more is))))

  by_plan_reached : {A : Type 0} (P : A → Type 0) (go : A → Table → Change) (r : Result A PlanError) (t : Table) → IfGiven P r
      → ((x : A) → P x → Good (go x t).1) → Good t → Good (loads.by_plan go r t).1
  by_plan_reached P go (Ok x) t given h g = h x given
  by_plan_reached P go (Err e) t given h g = g

  kept_inside : (words : List (List ℕ)) (test : List ℕ → Bool) (r : Result (List (List ℕ)) PlanError)
      → IfGiven Inside (r >>= λ targets. items_of_plans s words [] (filter test targets))
  kept_inside words test (Ok targets) = planned_inside words (filter test targets) [] tt
  kept_inside words test (Err e) = tt

  modprobe_reached : (name : List ℕ) (words : List (List ℕ)) (t : Table) → Good t → Good (loads.modprobe s name words t).1
  modprobe_reached name words t g =
      by_plan_reached Inside (loads.loads s) (loads.load_plan s name words t) t (kept_inside words _ (targets_of s name))
      (λ items inside. loads_reached items inside t g) g

  abbrev Below : List ℕ → Type 0
  Below ms = AllByRecursion (λ m. m < length s.catalogue) ms

  rest_reached : (m : ℕ) → m < length s.catalogue → (t : Table) → Good t → Good (loads.rest_removal s m t)
  rest_reached m below t g = at (is_kept s.configuration (name_at s m)) where
    at : (b : Bool) → Good (cond b t (one_removal s m t).1)
    at true = g
    at false = removal_reached m (known_below s.catalogue m below) t g

  rests_reached : (ms : List ℕ) → Below ms → (t : Table) → Good t → Good (loads.rest_removals s ms t)
  rests_reached [] below t g = g
  rests_reached (m ∷ ms) below t g = rests_reached ms below.1 (loads.rest_removal s m t) (rest_reached m below.0 t g)

  plan_removal_reached : (order : List ℕ) → Below order → (t : Table) → Good t → Good (loads.plan_removal s order t).1
  plan_removal_reached [] below t g = g
  plan_removal_reached (m ∷ rest) below t g =
      pick (is_absent (state_of t.book m)) (None, t) (one_removal s m t then (λ u. (None, loads.rest_removals s rest u))) g
      (then_reached (one_removal s m t) (λ u. (None, loads.rest_removals s rest u)) (removal_reached m (known_below s.catalogue m below.0) t g) (λ u h. rests_reached rest below.1 u h))

  removals_reached : (orders : List (List ℕ)) → AllByRecursion Below orders → (t : Table) → Good t → Good (loads.removals s orders t).1
  removals_reached [] below t g = g
  removals_reached (order ∷ orders) below t g =
      then_reached (loads.plan_removal s order t) (λ u. loads.removals s orders u) (plan_removal_reached order below.0 t g) (λ u h. removals_reached orders below.1 u h)

  removals_below : (targets : List (List ℕ)) (orders : List (List ℕ)) → AllByRecursion Below orders → IfGiven (AllByRecursion Below) (loads.removal_plans_of s orders targets)
  removals_below [] orders below = below
  removals_below (target ∷ targets) orders below =
      given-then (AllByRecursion Below) (removal_plan_of s.catalogue s.dependencies s.configuration target) (λ order. loads.removal_plans_of s (orders ++ order ∷ []) targets)
      (λ order is. removals_below targets (orders ++ order ∷ [])
      (append-all Below orders (order ∷ []) below
      (recursion_from_All (λ m. m < length s.catalogue) order (removal_slots s.catalogue s.dependencies s.configuration target order is), tt)))

  kept_below : (test : List ℕ → Bool) (r : Result (List (List ℕ)) PlanError)
      → IfGiven (AllByRecursion Below) (r >>= λ targets. loads.removal_plans_of s [] (filter test targets))
  kept_below test (Ok targets) = removals_below (filter test targets) [] tt
  kept_below test (Err e) = tt

  remove_reached : (name : List ℕ) (t : Table) → Good t → Good (loads.modprobe_remove s name t).1
  remove_reached name t g =
      by_plan_reached (AllByRecursion Below) (loads.removals s) (loads.removal_plans s name t) t (kept_below _ (targets_of s name))
      (λ plans below. removals_reached plans below t g) g

  workers_of : (t : Table) → Good t → length t.rows ≡ workers
  workers_of t g = ap (λ (u : Table). length u.rows) g.reached ∙ rows_after known (opening_of s workers) g.calls ∙ length-replicate workers (replicate (length known) 0)

  choose : (b : Bool) (x y : Outcome × Table) → (b ≡ true → Good x.1) → Good y.1 → Good (cond b x y).1
  choose true x y gx gy = gx refl
  choose false x y gx gy = gy

  by_worker_reached : (w m : ℕ) (x : Call) (t : Table) → (w < workers → IsInRange (length known) workers x) → Good t → Good (by_worker s w m x t).1
  by_worker_reached w m x t range g =
      choose (nat_lt w (length t.rows)) (change_outcome (call_change s code_of m x t)) _
      (λ is. reach_call x t (range (subst (λ n. w < n) (workers_of t g) (ltb-true w (length t.rows) is))) g) g

  action_reached : (m : ℕ) → m < length known → (action : Action) (t : Table) → Good t → Good (action_outcome s m action t).1
  action_reached m below (insmod words) t g = load_reached m below words t g
  action_reached m below rmmod t g = removal_reached m below t g
  action_reached m below drain t g = reach_call (call.BeginDrain m) t (below, tt) g
  action_reached m below query t g = g
  action_reached m below (get w) t g = by_worker_reached w m (call.Get w m) t (λ h. (below, h)) g
  action_reached m below (put w) t g = by_worker_reached w m (call.Put w m) t (λ h. (below, h)) g

  by_name_reached : (name : List ℕ) (o : Option ℕ) → slot_named s.catalogue name ≡ o → (action : Action) (t : Table) → Good t → Good (named_outcome s name o action t).1
  by_name_reached name None is action t g = g
  by_name_reached name (Some m) is action t g = action_reached m (known_below s.catalogue m (named_below s.catalogue name m is)) action t g

  request_reached : (name : List ℕ) (request : Request) (t : Table) → Good t → Good (request_outcome s name request t).1
  request_reached name (act action) t g = by_name_reached name (slot_named s.catalogue name) refl action t g
  request_reached name modinfo t g = g
  request_reached name plan t g = g
  request_reached name (modprobe words) t g = modprobe_reached name words t g
  request_reached name modprobe_remove t g = remove_reached name t g

  command_reached : (command : Command) (t : Table) → Good t → Good (command_outcome s command t).1
  command_reached nothing t g = g
  command_reached (malformed first) t g = g
  command_reached (by_name name request) t g = request_reached name request t g
  command_reached lsmod t g = g
  command_reached proc t g = g

  line_reached : (line : List ℕ) (t : Table) → Good t → Good (line_reply s t line).1
  unfolding line_outcome
  line_reached line t g = command_reached (command_of line) t g

  lines_reached : (lines : List (List ℕ)) (t : Table) → Good t → Good (answer s t lines).1
  lines_reached [] t g = g
  lines_reached (line ∷ lines) t g = lines_reached lines (line_reply s t line).1 (line_reached line t g)

pub sessions_make_calls : (s : Setup) (workers : ℕ) (lines : List (List ℕ)) → IsReached s workers (answer s (opening_of s workers) lines).1
sessions_make_calls s workers lines = lines_reached s workers lines (opening_of s workers) (record { calls = []; range = tt; reached = refl })
