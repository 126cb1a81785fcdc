-- A hard walk gives an order, and goes through if there is one.
use Rattle.std.proofs.Common.{◌≡◌, ℕ, zero, suc, ◌<◌, ◌≤◌, ◌+◌, arith, Bool, true, false, cond, ◌&&◌, nat_eq, List, [], ◌∷◌, ◌++◌, length, Result, Ok, Err, refl, sym, ◌∙◌, ap, subst, ◌⊎◌, inl, inr}
use Rattle.std.specs.List.{list_all, IsDistinct}
use Rattle.std.proofs.lemmas.Bool.Decides.{eqb_tells}
use Rattle.std.proofs.lemmas.List.{length-append}
use Rattle.std.proofs.lemmas.Map.Keys.{IsDistinct-push}
use Rattle.std.proofs.lemmas.Map.Steps.{length-le_from_distinct_below}
use Rattle.std.proofs.lemmas.Cmp.{nat_eq_equiv}
use Rattle.load_plan.specs.declared.graph.Target.{Target}
use Rattle.load_plan.specs.declared.graph.Target.TheVariants.{Slot, Missing}
use Rattle.load_plan.specs.declared.refusal.PlanRefusal.{PlanRefusal}
use Rattle.load_plan.specs.declared.refusal.PlanRefusal.TheVariants.{Cycle, Install}
use Rattle.load_plan.specs.Graph.{Node, node_at, is_within, is_bounded}
use Rattle.load_plan.specs.Walk.{◌>>=◌, has, walk_each, walk}
use Rattle.load_plan.specs.Laws.{is_in, IsOrder, start, more}
use Rattle.load_plan.proofs.Lists.{and_true, and_makes, either_way, chosen, has-same, has-other, has-last_same, has-last_other, nothing_apart}
use Rattle.load_plan.proofs.Bounds.{lt-true, named_within}
use Rattle.load_plan.proofs.Walking.{walk-enter}

-- no module of the way is in the list
abbrev pub IsApart : List ℕ → List ℕ → Type 0
IsApart way ms = (q : ℕ) → has way q ≡ true → has ms q ≡ false

abbrev pub IsWithin : List ℕ → List ℕ → Type 0
IsWithin few many = (q : ℕ) → has few q ≡ true → has many q ≡ true

-- a module that a walk may finish
abbrev pub IsEntered : List Node → Bool → ℕ → Type 0
IsEntered w tests q = (q < length w) × ((tests && (node_at w q).installs) ≡ false)

-- what a walk makes of a list
pub record Extends (w : List Node) (tests : Bool) (way done after : List ℕ) : Type 0 where
  pub order : IsOrder w after
  pub grows : IsWithin done after
  pub apart : IsApart way after
  pub entered : ((q : ℕ) → has done q ≡ true → IsEntered w tests q) → (q : ℕ) → has after q ≡ true → IsEntered w tests q

pub is_in-grows : (ms after : List ℕ) (t : Target) → IsWithin ms after → is_in ms t ≡ true → is_in after t ≡ true
is_in-grows ms after (Slot m) g h = g m h
is_in-grows ms after (Missing name) g h = h

pub all_in-grows : (few many : List ℕ) (ts : List Target) → IsWithin few many → list_all (is_in few) ts ≡ true → list_all (is_in many) ts ≡ true
all_in-grows few many [] g h = refl
all_in-grows few many (t ∷ ts) g h =
    let p : (is_in few t ≡ true) × (list_all (is_in few) ts ≡ true) = and_true (is_in few t) (list_all (is_in few) ts) h in
    and_makes (is_in many t) (list_all (is_in many) ts) (is_in-grows few many t g p.0) (all_in-grows few many ts g p.1)

pub bind_ok : {A B : Type 0} (r : Result A PlanRefusal) (f : A → Result B PlanRefusal) (y : B) → (r >>= f) ≡ Ok y → (x : A) × (r ≡ Ok x) × (f x ≡ Ok y)
bind_ok (Ok x) f y h = (x, refl, h)
bind_ok (Err e) f y h = absurd (cc)

-- one step, as a premise on what comes with less fuel
abbrev Steps : List Node → Bool → List ℕ → (List ℕ → Target → Result (List ℕ) PlanRefusal) → Type 0
Steps w tests way go = (done : List ℕ) (t : Target) (after : List ℕ) → is_within (length w) t ≡ true → IsOrder w done → IsApart way done → go done t ≡ Ok after → Extends w tests way done after × (is_in after t ≡ true)

each_extends : (w : List Node) (tests : Bool) (way : List ℕ) (go : List ℕ → Target → Result (List ℕ) PlanRefusal) → Steps w tests way go → (ts : List Target) (done after : List ℕ) → list_all (is_within (length w)) ts ≡ true → IsOrder w done → IsApart way done → walk_each go done ts ≡ Ok after → Extends w tests way done after × (list_all (is_in after) ts ≡ true)
each_extends w tests way go steps [] done after within order apart h =
    let e : done ≡ after = cc in
    (record { order = subst (λ l. IsOrder w l) e order; grows = λ q g. subst (λ l. has l q ≡ true) e g; apart = subst (λ l. IsApart way l) e apart; entered = subst (λ l. ((q : ℕ) → has done q ≡ true → IsEntered w tests q) → (q : ℕ) → has l q ≡ true → IsEntered w tests q) e (λ known. known) }, refl)
each_extends w tests way go steps (t ∷ ts) done after within order apart h =
    let first : (mid : List ℕ) × (go done t ≡ Ok mid) × (walk_each go mid ts ≡ Ok after) = bind_ok (go done t) (λ d. walk_each go d ts) after h in
    let named : (is_within (length w) t ≡ true) × (list_all (is_within (length w)) ts ≡ true) = and_true (is_within (length w) t) (list_all (is_within (length w)) ts) within in
    let one : Extends w tests way done first.0 × (is_in first.0 t ≡ true) = steps done t first.0 named.0 order apart first.1 in
    let rest : Extends w tests way first.0 after × (list_all (is_in after) ts ≡ true) = each_extends w tests way go steps ts first.0 after named.1 one.0.order one.0.apart first.2 in
    (record { order = rest.0.order; grows = λ q g. rest.0.grows q (one.0.grows q g); apart = rest.0.apart; entered = λ known. rest.0.entered (one.0.entered known) }, and_makes (is_in after t) (list_all (is_in after) ts) (is_in-grows first.0 after t rest.0.grows one.1) rest.1)

-- a module that is there already changes nothing
already : (w : List Node) (tests : Bool) (way done after : List ℕ) (m : ℕ) → IsOrder w done → IsApart way done → has done m ≡ true → ◌≡◌ {A = Result (List ℕ) PlanRefusal} (Ok done) (Ok after) → Extends w tests way done after × (has after m ≡ true)
already w tests way done after m order apart h same =
    let e : done ≡ after = cc in
    (record { order = subst (λ l. IsOrder w l) e order; grows = λ q g. subst (λ l. has l q ≡ true) e g; apart = subst (λ l. IsApart way l) e apart; entered = subst (λ l. ((q : ℕ) → has done q ≡ true → IsEntered w tests q) → (q : ℕ) → has l q ≡ true → IsEntered w tests q) e (λ known. known) }, subst (λ l. has l m ≡ true) e h)

-- a module that is finished now
finishes : (w : List Node) (tests : Bool) (way done mid after : List ℕ) (m : ℕ) → has way m ≡ false → IsEntered w tests m → Extends w tests (m ∷ way) done mid → list_all (is_in mid) (node_at w m).hard ≡ true → ◌≡◌ {A = Result (List ℕ) PlanRefusal} (Ok (mid ++ m ∷ [])) (Ok after) → Extends w tests way done after × (has after m ≡ true)
finishes w tests way done mid after m off good x all same =
    let e : mid ++ m ∷ [] ≡ after = cc in
    let new : has mid m ≡ false = x.apart m (has-same way m m refl) in
    let grows : IsWithin done (mid ++ m ∷ []) =
    λ q g. elim (eqb_tells q m) [ inl t ↦ has-last_same mid m q t.1 | inr t ↦ has-last_other mid m q t.0 ∙ x.grows q g ] in
    let apart : IsApart way (mid ++ m ∷ []) =
    λ q g. elim (eqb_tells q m) [
      | inl t ↦ (let on : has way m ≡ true = subst (λ y. has way y ≡ true) t.1 g in absurd (cc))
      | inr t ↦ has-last_other mid m q t.0 ∙ x.apart q (has-other way m q t.0 ∙ g)
    ] in
    let entered : ((q : ℕ) → has done q ≡ true → IsEntered w tests q) → (q : ℕ) → has (mid ++ m ∷ []) q ≡ true → IsEntered w tests q =
    λ known q g. elim (eqb_tells q m) [ inl t ↦ subst (λ y. IsEntered w tests y) (sym t.1) good | inr t ↦ x.entered known q (sym (has-last_other mid m q t.0) ∙ g) ] in (
      record {
        order = subst (λ l. IsOrder w l) e (more mid m x.order new all);
        grows = λ q g. subst (λ l. has l q ≡ true) e (grows q g);
        apart = λ q g. subst (λ l. has l q ≡ false) e (apart q g);
        entered = subst (λ l. ((q : ℕ) → has done q ≡ true → IsEntered w tests q) → (q : ℕ) → has l q ≡ true → IsEntered w tests q) e entered;
      },
      subst (λ l. has l m ≡ true) e (has-last_same mid m m refl),
    )

pub walk_extends : (w : List Node) (tests : Bool) → is_bounded w ≡ true → (n : ℕ) (way : List ℕ) → Steps w tests way (walk w tests n way)
walk_extends w tests bounded zero way done (Missing name) after within order apart h = absurd (cc)
walk_extends w tests bounded zero way done (Slot m) after within order apart h =
    elim (chosen (has done m) (Ok done) (Err (Cycle m)) (Ok after) h) [
      | inl t ↦ already w tests way done after m order apart t.0 t.1
      | inr t ↦ absurd (cc)
    ]
walk_extends w tests bounded (suc n) way done (Missing name) after within order apart h = absurd (cc)
walk_extends w tests bounded (suc n) way done (Slot m) after within order apart h =
    let go : List ℕ → Target → Result (List ℕ) PlanRefusal = walk w tests n (m ∷ way) in
    let through : Result (List ℕ) PlanRefusal = walk_each go done (node_at w m).hard >>= λ d. Ok (d ++ m ∷ []) in
    let tested : Result (List ℕ) PlanRefusal = cond (tests && (node_at w m).installs) (Err (Install m)) through in
    elim (chosen (has done m) (Ok done) (cond (has way m) (Err (Cycle m)) tested) (Ok after) h) [
      | inl t ↦ already w tests way done after m order apart t.0 t.1
      | inr t ↦ elim (chosen (has way m) (Err (Cycle m)) tested (Ok after) t.1) [
        | inl u ↦ absurd (cc)
        | inr u ↦ elim (chosen (tests && (node_at w m).installs) (Err (Install m)) through (Ok after) u.1) [
          | inl v ↦ absurd (cc)
          | inr v ↦
              (let parts : (mid : List ℕ) × (walk_each go done (node_at w m).hard ≡ Ok mid) × (Ok (mid ++ m ∷ []) ≡ Ok after) = bind_ok (walk_each go done (node_at w m).hard) (λ d. Ok (d ++ m ∷ [])) after v.1 in
              let apart2 : IsApart (m ∷ way) done = λ q g. elim (eqb_tells q m) [ inl e ↦ subst (λ y. has done y ≡ false) (sym e.1) t.0 | inr e ↦ apart q (sym (has-other way m q e.0) ∙ g) ] in
              let all : Extends w tests (m ∷ way) done parts.0 × (list_all (is_in parts.0) (node_at w m).hard ≡ true) = each_extends w tests (m ∷ way) go (walk_extends w tests bounded n (m ∷ way)) (node_at w m).hard done parts.0 (named_within w m bounded).0 order apart2 parts.1 in
              finishes w tests way done parts.0 after m u.0 (lt-true m (length w) within, v.0) all.0 all.1 parts.2)
        ]
      ]
    ]

-- a member of an order stands on those before it
pub record Stands (w : List Node) (ms : List ℕ) (d : ℕ) : Type 0 where
  pub below : List ℕ
  pub order : IsOrder w below
  pub new : has below d ≡ false
  pub hard : list_all (is_in below) (node_at w d).hard ≡ true
  pub within : IsWithin below ms
  pub shorter : length below < length ms

pub grows_last : (ms : List ℕ) (m q : ℕ) → has ms q ≡ true → has (ms ++ m ∷ []) q ≡ true
grows_last ms m q h = elim (eqb_tells q m) [ inl t ↦ has-last_same ms m q t.1 | inr t ↦ has-last_other ms m q t.0 ∙ h ]

-- what is not in the greater list is not in the smaller one
pub no_member : (few many : List ℕ) (q : ℕ) → IsWithin few many → has many q ≡ false → has few q ≡ false
no_member few many q within h = elim (either_way (has few q)) [ inl t ↦ (let u : has many q ≡ true = within q t in absurd (cc)) | inr t ↦ t ]

pub stands : (w : List Node) (ms : List ℕ) (d : ℕ) → IsOrder w ms → has ms d ≡ true → Stands w ms d
stands w _ d start h = absurd (cc)
stands w _ d (more ms m order new all) h =
    let longer : length (ms ++ m ∷ []) ≡ length ms + 1 = length-append ms (m ∷ []) in
    elim (eqb_tells d m) [
      | inl t ↦ record {
        below = ms;
        order = order;
        new = subst (λ x. has ms x ≡ false) (sym t.1) new;
        hard = subst (λ x. list_all (is_in ms) (node_at w x).hard ≡ true) (sym t.1) all;
        within = λ q g. grows_last ms m q g;
        shorter = omega arith;
      }
      | inr t ↦ (let s : Stands w ms d = stands w ms d order (sym (has-last_other ms m d t.0) ∙ h) in
          record { below = s.below; order = s.order; new = s.new; hard = s.hard; within = λ q g. grows_last ms m q (s.within q g); shorter = omega (arith, s.shorter) })
    ]

pub distinct_order : (w : List Node) (ms : List ℕ) → IsOrder w ms → IsDistinct nat_eq ms
distinct_order w _ start = nothing_apart
distinct_order w _ (more ms m order new all) = IsDistinct-push nat_eq_equiv ms m (distinct_order w ms order) new

-- an order is no longer than there are modules
pub order_fits : (w : List Node) (ms : List ℕ) → IsOrder w ms → ((q : ℕ) → has ms q ≡ true → q < length w) → length ms ≤ length w
order_fits w ms order below = length-le_from_distinct_below ms (length w) (distinct_order w ms order) below

-- the modules of a list may be entered by a walk with the test for install lines
abbrev pub AreEntered : List Node → List ℕ → Type 0
AreEntered w ms = (q : ℕ) → has ms q ≡ true → (node_at w q).installs ≡ false

-- a walk that goes through adds modules of the order alone
pub record Through (ms done : List ℕ) (walked : Result (List ℕ) PlanRefusal) : Type 0 where
  pub after : List ℕ
  pub is : walked ≡ Ok after
  pub adds : (q : ℕ) → has after q ≡ true → (has done q ≡ true) ⊎ (has ms q ≡ true)

abbrev Goes : List ℕ → (List ℕ → Target → Result (List ℕ) PlanRefusal) → Type 0
Goes ms go = (done : List ℕ) (m : ℕ) → has ms m ≡ true → Through ms done (go done (Slot m))

each_goes : (ms : List ℕ) (go : List ℕ → Target → Result (List ℕ) PlanRefusal) → Goes ms go → (ts : List Target) (done : List ℕ) → list_all (is_in ms) ts ≡ true → Through ms done (walk_each go done ts)
each_goes ms go goes [] done all = record { after = done; is = refl; adds = λ q h. inl h }
each_goes ms go goes (Missing name ∷ ts) done all = absurd (cc)
each_goes ms go goes (Slot m ∷ ts) done all =
    let parts : (has ms m ≡ true) × (list_all (is_in ms) ts ≡ true) = and_true (has ms m) (list_all (is_in ms) ts) all in
    let one : Through ms done (go done (Slot m)) = goes done m parts.0 in
    let rest : Through ms one.after (walk_each go one.after ts) = each_goes ms go goes ts one.after parts.1 in
    record {
      after = rest.after;
      is = ap (λ r. r >>= λ d. walk_each go d ts) one.is ∙ rest.is;
      adds = λ q h. elim (rest.adds q h) [ inl a ↦ one.adds q a | inr b ↦ inr b ];
    }

-- A walk goes through to each module of an order that is apart from the way.
pub walk_goes : (w : List Node) (n : ℕ) (way ms : List ℕ) → IsOrder w ms → AreEntered w ms → IsApart way ms → length ms ≤ n → Goes ms (walk w true n way)
walk_goes w zero way ms order entered apart fits done m here =
    let s : Stands w ms m = stands w ms m order here in absurd (omega (arith, s.shorter))
walk_goes w (suc n) way ms order entered apart fits done m here =
    let s : Stands w ms m = stands w ms m order here in
    let off : has way m ≡ false = elim (either_way (has way m)) [ inl t ↦ (let no : has ms m ≡ false = apart m t in absurd (cc)) | inr t ↦ t ] in
    elim (either_way (has done m)) [
      | inl t ↦ record { after = done; is = rw t; adds = λ q h. inl h }
      | inr t ↦
          (let apart2 : IsApart (m ∷ way) s.below = λ q g. elim (eqb_tells q m) [ inl e ↦ subst (λ y. has s.below y ≡ false) (sym e.1) s.new | inr e ↦ no_member s.below ms q s.within (apart q (sym (has-other way m q e.0) ∙ g)) ] in
          let each : Through s.below done (walk_each (walk w true n (m ∷ way)) done (node_at w m).hard) =
          each_goes s.below (walk w true n (m ∷ way)) (walk_goes w n (m ∷ way) s.below s.order (λ q g. entered q (s.within q g)) apart2 (omega (arith, s.shorter))) (node_at w m).hard done s.hard in
          record {
            after = each.after ++ m ∷ [];
            is = walk-enter w true n way done m t off (entered m here) ∙ ap (λ r. r >>= λ d. Ok (d ++ m ∷ [])) each.is;
            adds = λ q h. elim (eqb_tells q m) [ inl e ↦ inr (subst (λ y. has ms y ≡ true) (sym e.1) here) | inr e ↦ elim (each.adds q (sym (has-last_other each.after m q e.0) ∙ h)) [ inl a ↦ inl a | inr b ↦ inr (s.within q b) ] ];
          })
    ]
