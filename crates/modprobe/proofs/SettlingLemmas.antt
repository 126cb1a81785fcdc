-- Plans of modules that are all live by then load nothing.
use Rattle.std.proofs.Common.{◌≡◌, ℕ, zero, suc, ◌+◌, ◌<◌, Bool, true, false, ◌&&◌, cond, List, [], ◌∷◌, ◌++◌, length, drop, take, get_or, set, replicate, length-set, get_or-set_other, Some, None, Result, Ok, Err, refl, sym, ◌∙◌, ap, subst, inl, inr, ◌⊎◌, add-one, append_assoc}
use Rattle.std.proofs.Math.Seq.{drop-cons}
use Rattle.std.proofs.lemmas.Bool.{cases_Bool}
use Rattle.std.proofs.lemmas.Bool.Decides.{eqb_tells}
use Rattle.std.proofs.lemmas.List.{take_more}
use Rattle.std.specs.List.{All, list_all}
use Rattle.std.proofs.lemmas.List.Elements.{All-nil, All-cons, All-append, All-get_or, All-head, All-tail, All-take}
use Rattle.dep_index.specs.Table.{Table, state_of, is_absent, is_live}
use Rattle.dep_index.specs.Catalogue.{needs_of}
use Rattle.load_plan.specs.declared.items.Item.{Item}
use Rattle.load_plan.specs.declared.items.PlanError.{PlanError}
use Rattle.load_plan.specs.declared.items.PlanError.TheVariants as error
use Rattle.load_plan.specs.declared.sources.Sources.{Sources}
use Rattle.load_plan.specs.Items.{FailsAs, plan_of, plan_from, removal_plan_of}
use Rattle.load_plan.specs.Outlook.{Outlook, settled_at}
use Rattle.modprobe.specs.Setup.{Setup}
use Rattle.modprobe.specs.Changes.{Change, ◌then◌, one_load}
use Rattle.modprobe.specs.Loads.{without_refusal, item_load, loads, removal_plans_of}
use Rattle.modprobe.specs.Plans.{◌>>=◌, items_of_plans}
use Rattle.modprobe.specs.Settling.{AreIn, IsSure, AreSure, PlansFor, Settling}
use Rattle.modprobe.proofs.LoadLemmas.{OneSlot, AtRest, then_said, load_one, load_rest, load_live}

-- what loads keep: who is live stays so, and who is at rest stays at rest
pub record Keeps (t u : Table) : Type 0 where
  pub long : length u.book.states ≡ length t.book.states
  pub live : (m : ℕ) → is_live (state_of t.book m) ≡ true → is_live (state_of u.book m) ≡ true
  pub rest : (m : ℕ) → AtRest (state_of t.book m) → AtRest (state_of u.book m)

keeps_same : (t : Table) → Keeps t t
keeps_same t = record { long = refl; live = λ m h. h; rest = λ m h. h }

keeps_both : {t u v : Table} → Keeps t u → Keeps u v → Keeps t v
keeps_both {t} {u} {v} a b = record { long = b.long ∙ a.long; live = λ m h. b.live m (a.live m h); rest = λ m h. b.rest m (a.rest m h) }

either_table : (soft : Bool) (c : Change) → (cond soft (without_refusal c) c).1 ≡ c.1
either_table true c = refl
either_table false c = refl

-- what an item's load leaves
item_table : (s : Setup) (item : Item) (t : Table) → is_live (state_of t.book item.slot) ≡ false → (item_load s item t).1 ≡ (one_load s item.slot item.options t).1
item_table s item t down =
    ap (λ b. (cond b (None, t) (cond item.soft (without_refusal (one_load s item.slot item.options t)) (one_load s item.slot item.options t))).1) down
    ∙ either_table item.soft (one_load s item.slot item.options t)

item_live : (s : Setup) (item : Item) (t : Table) → is_live (state_of t.book item.slot) ≡ true → item_load s item t ≡ (None, t)
item_live s item t live =
    ap (λ b. cond b (None, t) (cond item.soft (without_refusal (one_load s item.slot item.options t)) (one_load s item.slot item.options t))) live

item_keeps : (s : Setup) (item : Item) (t : Table) → item.slot < length t.book.states → Keeps t (item_load s item t).1
item_keeps s item t within = elim (cases_Bool (is_live (state_of t.book item.slot))) [
  | inl live ↦ subst (λ (c : Change). Keeps t c.1) (sym (item_live s item t live)) (keeps_same t)
  | inr down ↦ subst (λ u. Keeps t u) (sym (item_table s item t down)) (changed down)
]
  where
    one : OneSlot t (one_load s item.slot item.options t).1 item.slot
    one = load_one s item.slot item.options t

    changed : is_live (state_of t.book item.slot) ≡ false → Keeps t (one_load s item.slot item.options t).1
    changed down = record {
      long = one.long;
      live = λ m h. elim (eqb_tells m item.slot) [
        | inl e ↦ (let up : is_live (state_of t.book item.slot) ≡ true = subst (λ k. is_live (state_of t.book k) ≡ true) e.1 h in absurd (cc))
        | inr e ↦ ap is_live (one.other m e.1) ∙ h
      ];
      rest = λ m h. elim (eqb_tells m item.slot) [
        | inl e ↦ subst (λ k. AtRest (state_of (one_load s item.slot item.options t).1.book k)) (sym e.1)
            (elim (subst (λ k. AtRest (state_of t.book k)) e.1 h) [
              | inl up ↦ absurd (cc)
              | inr absent ↦ load_rest s item.slot item.options t within absent
            ])
        | inr e ↦ subst AtRest (sym (one.other m e.1)) h
      ];
    }

then_keeps : (c : Change) (f : Table → Change) (t : Table) → Keeps t c.1 → ((u : Table) → Keeps t u → Keeps u (f u).1) → Keeps t (c then f).1
then_keeps (None, u) f t h g = keeps_both h (g u h)
then_keeps (Some r, u) f t h g = h

pub loads_keep : (s : Setup) (items : List Item) (t : Table) → length t.book.states ≡ length s.catalogue → AreIn s items → Keeps t (loads s items t).1
loads_keep s [] t long within = keeps_same t
loads_keep s (item ∷ items) t long within =
    let P : Item → Type 0 = λ (x : Item). x.slot < length s.catalogue in
    let here : item.slot < length s.catalogue = All-head P item items within in
    then_keeps (item_load s item t) (λ u. loads s items u) t (item_keeps s item t (subst (λ n. item.slot < n) (sym long) here))
    (λ u k. loads_keep s items u (k.long ∙ long) (All-tail P item items within))

then_both : (c : Change) (f g : Table → Change) (h : Table → Change) → ((u : Table) → h u ≡ (f u then g)) → (c then h) ≡ ((c then f) then g)
then_both (None, u) f g h e = e u
then_both (Some r, u) f g h e = refl

pub loads-append : (s : Setup) (xs ys : List Item) (t : Table) → loads s (xs ++ ys) t ≡ (loads s xs t then (λ u. loads s ys u))
loads-append s [] ys t = refl
loads-append s (x ∷ xs) ys t = then_both (item_load s x t) (λ u. loads s xs u) (λ u. loads s ys u) (λ u. loads s (xs ++ ys) u) (λ u. loads-append s xs ys u)

-- items of live modules
pub loads_live : (s : Setup) (items : List Item) (u : Table) → All (λ (item : Item). is_live (state_of u.book item.slot) ≡ true) items → loads s items u ≡ (None, u)
loads_live s [] u all = refl
loads_live s (item ∷ items) u all =
    let P : Item → Type 0 = λ (x : Item). is_live (state_of u.book x.slot) ≡ true in
    ap (λ (c : Change). c then (λ v. loads s items v)) (item_live s item u (All-head P item items all))
    ∙ loads_live s items u (All-tail P item items all)

-- loads that stop
stopped : (c : Change) (f : Table → Change) → (c then f).0 ≡ None → c.0 ≡ None
stopped (None, u) f h = refl
stopped (Some r, u) f h = absurd (cc)

-- loads that go on
goes_on : (c : Change) (f : Table → Change) → c.0 ≡ None → (c then f) ≡ f c.1
goes_on (None, u) f h = refl
goes_on (Some r, u) f h = absurd (cc)

-- one item more
one_more : (s : Setup) (before : List Item) (item : Item) (t : Table) → (loads s (before ++ item ∷ []) t).0 ≡ None → ((loads s before t).0 ≡ None) × ((loads s (before ++ item ∷ []) t).1 ≡ (item_load s item (loads s before t).1).1)
one_more s before item t none =
    let split : loads s (before ++ item ∷ []) t ≡ (loads s before t then (λ u. loads s (item ∷ []) u)) = loads-append s before (item ∷ []) t in
    let first : (loads s before t).0 ≡ None = stopped (loads s before t) (λ u. loads s (item ∷ []) u) (sym (ap (λ (c : Change). c.0) split) ∙ none) in
    (first, ap (λ (c : Change). c.1) (split ∙ goes_on (loads s before t) (λ u. loads s (item ∷ []) u) first) ∙ then_said (item_load s item (loads s before t).1) (λ u. None))

-- what is sure stays so
pub sure_more : (s : Setup) (t : Table) (before : List Item) (item : Item) (settled : List Bool) → length t.book.states ≡ length s.catalogue → AreIn s before → item.slot < length s.catalogue → AreSure s t before settled → AreSure s t (before ++ item ∷ []) settled
sure_more s t before item settled long within here sure m is none =
    let both : ((loads s before t).0 ≡ None) × ((loads s (before ++ item ∷ []) t).1 ≡ (item_load s item (loads s before t).1).1) = one_more s before item t none in
    let k : Keeps t (loads s before t).1 = loads_keep s before t long within in
    let kept : Keeps (loads s before t).1 (item_load s item (loads s before t).1).1 = item_keeps s item (loads s before t).1 (subst (λ n. item.slot < n) (sym (k.long ∙ long)) here) in
    ap (λ (u : Table). is_live (state_of u.book m)) both.1 ∙ kept.live m (sure m is both.0)

all_live : (settled : List Bool) (u : Table) → ((m : ℕ) → settled_at settled m ≡ true → is_live (state_of u.book m) ≡ true) → (needs : List ℕ) → list_all (settled_at settled) needs ≡ true → list_all (λ n. is_live (state_of u.book n)) needs ≡ true
all_live settled u live [] all = refl
all_live settled u live (n ∷ ns) all = at (settled_at settled n) refl all (all_live settled u live ns)
  where
    at : (b : Bool) → settled_at settled n ≡ b → (b && list_all (settled_at settled) ns) ≡ true → (list_all (settled_at settled) ns ≡ true → list_all (λ n. is_live (state_of u.book n)) ns ≡ true) → (is_live (state_of u.book n) && list_all (λ n. is_live (state_of u.book n)) ns) ≡ true
    at true e h later = ap (λ b. b && list_all (λ n. is_live (state_of u.book n)) ns) (live n e) ∙ later h
    at false e h later = absurd (cc)

-- the module of an item that is sure is live behind it
sure_here : (s : Setup) (t u : Table) (item : Item) (settled : List Bool) → item.slot < length s.catalogue → item.slot < length u.book.states → Keeps t u → ((m : ℕ) → settled_at settled m ≡ true → is_live (state_of u.book m) ≡ true) → IsSure s t settled item → is_live (state_of (item_load s item u).1.book item.slot) ≡ true
sure_here s t u item settled within room k live sure = elim sure [
  | inl up ↦ already (k.live item.slot up)
  | inr l ↦ elim (cases_Bool (is_live (state_of u.book item.slot))) [
    | inl up ↦ already up
    | inr down ↦ ap (λ (v : Table). is_live (state_of v.book item.slot)) (item_table s item u down)
        ∙ load_live s item.slot item.options u within room (absent down (k.rest item.slot (inr l.absent))) l.known (all_live settled u live (needs_of s.catalogue item.slot) l.needs) l.valid
  ]
]
  where
    already : is_live (state_of u.book item.slot) ≡ true → is_live (state_of (item_load s item u).1.book item.slot) ≡ true
    already up = ap (λ (c : Change). is_live (state_of c.1.book item.slot)) (item_live s item u up) ∙ up

    absent : is_live (state_of u.book item.slot) ≡ false → AtRest (state_of u.book item.slot) → is_absent (state_of u.book item.slot) ≡ true
    absent down r = elim r [ inl up ↦ absurd (cc) | inr a ↦ a ]

-- one module more is settled
pub sure_step : (s : Setup) (t : Table) (before : List Item) (item : Item) (settled : List Bool) → length t.book.states ≡ length s.catalogue → AreIn s before → item.slot < length s.catalogue → IsSure s t settled item → AreSure s t before settled → AreSure s t (before ++ item ∷ []) (set settled item.slot true)
sure_step s t before item settled long within here is sure m h none =
    let both : ((loads s before t).0 ≡ None) × ((loads s (before ++ item ∷ []) t).1 ≡ (item_load s item (loads s before t).1).1) = one_more s before item t none in
    let k : Keeps t (loads s before t).1 = loads_keep s before t long within in
    let room : item.slot < length (loads s before t).1.book.states = subst (λ n. item.slot < n) (sym (k.long ∙ long)) here in
    elim (eqb_tells m item.slot) [
      | inl e ↦ subst (λ q. is_live (state_of (loads s (before ++ item ∷ []) t).1.book q) ≡ true) (sym e.1)
          (ap (λ (u : Table). is_live (state_of u.book item.slot)) both.1
          ∙ sure_here s t (loads s before t).1 item settled here room k (λ q g. sure q g both.0) is)
      | inr e ↦ sure_more s t before item settled long within here sure m (sym (get_or-set_other settled item.slot m true false e.1) ∙ h) none
    ]

all_sure : (settled : List Bool) (u : Table) → ((m : ℕ) → settled_at settled m ≡ true → is_live (state_of u.book m) ≡ true) → (items : List Item) → All (λ (item : Item). settled_at settled item.slot ≡ true) items → All (λ (item : Item). is_live (state_of u.book item.slot) ≡ true) items
all_sure settled u live [] all = All-nil (λ (item : Item). is_live (state_of u.book item.slot) ≡ true)
all_sure settled u live (x ∷ xs) all =
    let P : Item → Type 0 = λ (item : Item). settled_at settled item.slot ≡ true in
    All-cons (λ (item : Item). is_live (state_of u.book item.slot) ≡ true) x xs (live x.slot (All-head P x xs all)) (all_sure settled u live xs (All-tail P x xs all))

then_nothing : (c : Change) (f : Table → Change) → (c.0 ≡ None → f c.1 ≡ (None, c.1)) → (c then f) ≡ c
then_nothing (None, u) f h = h refl
then_nothing (Some r, u) f h = refl

-- settled items load nothing
loads_settled : (s : Setup) (t : Table) (items more : List Item) (settled : List Bool) → AreSure s t items settled → All (λ (item : Item). settled_at settled item.slot ≡ true) more → loads s (items ++ more) t ≡ loads s items t
loads_settled s t items more settled sure all =
    loads-append s items more t
    ∙ then_nothing (loads s items t) (λ u. loads s more u) (λ none. loads_live s more (loads s items t).1 (all_sure settled (loads s items t).1 (λ m h. sure m h none) more all))

same_more : (s : Setup) (t : Table) (xs ys more : List Item) → loads s xs t ≡ loads s ys t → loads s (xs ++ more) t ≡ loads s (ys ++ more) t
same_more s t xs ys more same =
    loads-append s xs more t ∙ ap (λ (c : Change). c then (λ u. loads s more u)) same ∙ sym (loads-append s ys more t)

none_settled : (n m : ℕ) → settled_at (replicate n false) m ≡ false
none_settled zero m = refl
none_settled (suc n) zero = refl
none_settled (suc n) (suc m) = none_settled n m

-- plans from the planner's sources are those of the setup
pub plan_same : (s : Setup) (o : Outlook) (name : List ℕ) (words : List (List ℕ)) → PlansFor s o → plan_from o.sources name words ≡ plan_of s.catalogue s.dependencies s.configuration name words
plan_same s o name words p =
    ap (λ catalogue. plan_of catalogue o.sources.dependencies.now o.sources.configuration.now name words) p.catalogue
    ∙ ap (λ dependencies. plan_of s.catalogue dependencies o.sources.configuration.now name words) p.dependencies
    ∙ ap (λ configuration. plan_of s.catalogue s.dependencies configuration name words) p.configuration

-- one module more is settled
pub plans_settle : (s : Setup) (before after : Outlook) (slot : ℕ) → after.sources ≡ before.sources → after.settled ≡ set before.settled slot true → PlansFor s before → PlansFor s after
plans_settle s before after slot same settled p = record {
  catalogue = ap (λ (x : Sources). x.catalogue.now) same ∙ p.catalogue;
  dependencies = ap (λ (x : Sources). x.dependencies.now) same ∙ p.dependencies;
  configuration = ap (λ (x : Sources). x.configuration.now) same ∙ p.configuration;
  long = ap length settled ∙ length-set before.settled slot true ∙ p.long;
}

pub Settling-begin : (s : Setup) (t : Table) (words targets : List (List ℕ)) (settled : List Bool) (n : ℕ) (items : List Item) → settled ≡ replicate n false → items ≡ [] → Settling s t words targets targets settled items
Settling-begin s t words targets settled n items none nothing = subst (λ l. Settling s t words targets targets settled l) (sym nothing) (record {
  whole = [];
  left = refl;
  same = refl;
  sure = λ m h. (let no : settled_at settled m ≡ false = ap (λ l. settled_at l m) none ∙ none_settled n m in absurd (cc));
  within = All-nil (λ (item : Item). item.slot < length s.catalogue);
})

-- all targets were gone through
pub Settling-end : (s : Setup) (t : Table) (words targets : List (List ℕ)) (settled : List Bool) (items : List Item) → Settling s t words targets [] settled items → (whole : List Item) × (items_of_plans s words [] targets ≡ Ok whole) × (loads s items t ≡ loads s whole t)
Settling-end s t words targets settled items x = (x.whole, sym x.left, x.same)

-- the plan of the next target is left out
pub Settling-skip : (s : Setup) (t : Table) (words targets rest : List (List ℕ)) (target : List ℕ) (settled : List Bool) (items more : List Item) → Settling s t words targets (target ∷ rest) settled items → plan_of s.catalogue s.dependencies s.configuration target words ≡ Ok more → All (λ (item : Item). settled_at settled item.slot ≡ true) more → Settling s t words targets rest settled items
Settling-skip s t words targets rest target settled items more x planned all = record {
  whole = x.whole ++ more;
  left = sym (ap (λ r. r >>= λ more. items_of_plans s words (x.whole ++ more) rest) planned) ∙ x.left;
  same = sym (loads_settled s t items more settled x.sure all) ∙ same_more s t items x.whole more x.same;
  sure = x.sure;
  within = x.within;
}

-- the plan of the next target is made
pub Settling-plan : (s : Setup) (t : Table) (words targets rest : List (List ℕ)) (target : List ℕ) (settled after : List Bool) (items more : List Item) → Settling s t words targets (target ∷ rest) settled items → plan_of s.catalogue s.dependencies s.configuration target words ≡ Ok more → AreIn s more → AreSure s t (items ++ more) after → Settling s t words targets rest after (items ++ more)
Settling-plan s t words targets rest target settled after items more x planned within sure = record {
  whole = x.whole ++ more;
  left = sym (ap (λ r. r >>= λ more. items_of_plans s words (x.whole ++ more) rest) planned) ∙ x.left;
  same = same_more s t items x.whole more x.same;
  sure = sure;
  within = All-append (λ (item : Item). item.slot < length s.catalogue) items more x.within within;
}

-- the next target of a list
pub next_target : (targets : List (List ℕ)) (i : ℕ) (target : List ℕ) → i < length targets → target ≡ get_or targets i target → drop i targets ≡ target ∷ drop (i + 1) targets
next_target targets i target below is = rw (add-one) (drop-cons targets i target below ∙ ap (λ x. x ∷ drop (suc i) targets) (sym is))

-- one item more of a list
pub sure_next : (s : Setup) (t : Table) (before items : List Item) (i : ℕ) (item : Item) (settled after : List Bool) → length t.book.states ≡ length s.catalogue → AreIn s before → AreIn s items → i < length items → item ≡ get_or items i item → (after ≡ settled) ⊎ (IsSure s t settled item × (after ≡ set settled item.slot true)) → AreSure s t (before ++ take i items) settled → AreSure s t (before ++ take (i + 1) items) after
sure_next s t before items i item settled after long within all below is which sure =
    let P : Item → Type 0 = λ (x : Item). x.slot < length s.catalogue in
    let split : before ++ take (i + 1) items ≡ (before ++ take i items) ++ item ∷ [] =
    ap (λ l. before ++ l) (take_more items i item below ∙ ap (λ x. take i items ++ x ∷ []) (sym is)) ∙ sym (append_assoc before (take i items) (item ∷ [])) in
    let here : item.slot < length s.catalogue = subst P (sym is) (All-get_or P items i item below all) in
    let so_far : AreIn s (before ++ take i items) = All-append P before (take i items) within (All-take P i items all) in
    subst (λ l. AreSure s t l after) (sym split) (elim which [
      | inl same ↦ subst (λ l. AreSure s t ((before ++ take i items) ++ item ∷ []) l) (sym same) (sure_more s t (before ++ take i items) item settled long so_far here sure)
      | inr x ↦ subst (λ l. AreSure s t ((before ++ take i items) ++ item ∷ []) l) (sym x.1) (sure_step s t (before ++ take i items) item settled long so_far here x.0 sure)
    ])

-- the next target's plan is made
pub next_items : (s : Setup) (words targets : List (List ℕ)) (i : ℕ) (target : List ℕ) (items more after : List Item) → i < length targets → target ≡ get_or targets i target → plan_of s.catalogue s.dependencies s.configuration target words ≡ Ok more → after ≡ items ++ more → items_of_plans s words items (drop i targets) ≡ items_of_plans s words [] targets → items_of_plans s words after (drop (i + 1) targets) ≡ items_of_plans s words [] targets
next_items s words targets i target items more after below is planned same left =
    ap (λ l. items_of_plans s words l (drop (i + 1) targets)) same
    ∙ sym (ap (λ r. r >>= λ more. items_of_plans s words (items ++ more) (drop (i + 1) targets)) planned)
    ∙ sym (ap (items_of_plans s words items) (next_target targets i target below is))
    ∙ left

pub next_removals : (s : Setup) (targets : List (List ℕ)) (i : ℕ) (target plan : List ℕ) (plans after : List (List ℕ)) → i < length targets → target ≡ get_or targets i target → removal_plan_of s.catalogue s.dependencies s.configuration target ≡ Ok plan → after ≡ plans ++ plan ∷ [] → removal_plans_of s plans (drop i targets) ≡ removal_plans_of s [] targets → removal_plans_of s after (drop (i + 1) targets) ≡ removal_plans_of s [] targets
next_removals s targets i target plan plans after below is planned same left =
    ap (λ l. removal_plans_of s l (drop (i + 1) targets)) same
    ∙ sym (ap (λ r. r >>= λ plan. removal_plans_of s (plans ++ plan ∷ []) (drop (i + 1) targets)) planned)
    ∙ sym (ap (removal_plans_of s plans) (next_target targets i target below is))
    ∙ left

fails_from : {A B : Type 0} (e : PlanError) (a : Result A PlanError) (b : Result B PlanError) → FailsAs e a → (a ≡ Err e → b ≡ Err e) → FailsAs e b
fails_from (error.Cycle name) a b h goes = goes h
fails_from (error.Install name) a b h goes = goes h
fails_from (error.Unknown name) a b h goes = goes h
fails_from error.Memory a b h goes = tt
fails_from (error.Remove name) a b h goes = goes h

-- the next target has no plan
pub fails_next : (s : Setup) (words targets : List (List ℕ)) (i : ℕ) (target : List ℕ) (items : List Item) (e : PlanError) → i < length targets → target ≡ get_or targets i target → FailsAs e (plan_of s.catalogue s.dependencies s.configuration target words) → items_of_plans s words items (drop i targets) ≡ items_of_plans s words [] targets → FailsAs e (items_of_plans s words [] targets)
fails_next s words targets i target items e below is fails left =
    fails_from e (plan_of s.catalogue s.dependencies s.configuration target words) (items_of_plans s words [] targets) fails
    (λ refused. sym left ∙ ap (items_of_plans s words items) (next_target targets i target below is) ∙ ap (λ r. r >>= λ more. items_of_plans s words (items ++ more) (drop (i + 1) targets)) refused)

-- where a target of the list stands
pub Settling-at : (s : Setup) (t : Table) (words targets : List (List ℕ)) (i : ℕ) (target : List ℕ) (settled : List Bool) (items : List Item) → i < length targets → target ≡ get_or targets i target → Settling s t words targets (drop i targets) settled items → Settling s t words targets (target ∷ drop (i + 1) targets) settled items
Settling-at s t words targets i target settled items below is x = subst (λ l. Settling s t words targets l settled items) (next_target targets i target below is) x
