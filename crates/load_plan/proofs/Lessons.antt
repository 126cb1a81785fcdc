-- What is learnt of hard walks is true and stays so, and tells which soft items are clean.
use Rattle.std.proofs.Common.{◌≡◌, ℕ, zero, suc, ◌+◌, ◌<◌, ◌≤◌, Bool, ◌||◌, arith, get_or, true, false, not, List, [], ◌∷◌, ◌++◌, drop, take, length, replicate, reverse, set, Option, None, Some, IfSome, Result, Ok, Err, refl, sym, ◌∙◌, ap, subst, append_assoc, append-nil, length-append, ◌⊎◌, inl, inr}
use Rattle.std.specs.List.{list_all, Contains}
use Rattle.std.proofs.lemmas.Bool.Decides.{eqb_tells}
use Rattle.std.proofs.lemmas.List.{get_or_append_left, get_or-set_same, get_or-set_other, get_or-take, length-take-le, reverse-append}
use Rattle.std.proofs.Math.Nat.{eq-or-lt_of_le}
use Rattle.std.proofs.lemmas.List.Elements.{Contains-append_left, Contains-append_right}
use Rattle.load_plan.specs.declared.graph.Target.{Target}
use Rattle.load_plan.specs.declared.graph.Target.TheVariants.{Slot, Missing}
use Rattle.load_plan.specs.declared.refusal.PlanRefusal.{PlanRefusal}
use Rattle.load_plan.specs.declared.walk.Mark.{Mark}
use Rattle.load_plan.specs.declared.walk.Mark.TheVariants.{New}
use Rattle.load_plan.specs.declared.walk.Frame.{Frame}
use Rattle.load_plan.specs.declared.learnt.Meeting.{Meeting}
use Rattle.load_plan.specs.declared.learnt.Verdict.{Verdict}
use Rattle.load_plan.specs.declared.learnt.Verdict.TheVariants.{Unknown, Entered, Free}
use Rattle.load_plan.specs.Graph.{Node, node_at, is_bounded}
use Rattle.load_plan.specs.Walk.{has, hard_walk}
use Rattle.load_plan.specs.Plan.{is_free, is_clean}
use Rattle.load_plan.specs.Laws.{is_in, more}
use Rattle.load_plan.specs.ForProofs.{AreMarks, IsKept, mark_at}
use Rattle.load_plan.specs.Learnt as learnt
use Rattle.load_plan.specs.Learnt.{verdict_at, IsPassable, IsBarred, Needs, StandsOn, Holds, IsOver, none, ArePlaced, IsLearnt, TargetNeeds, IsMet, IsOnWay, IsWay}
use Rattle.load_plan.proofs.Clean.{Whole, whole_walk, free_from_apart, none_in_progress, turned}
use Rattle.load_plan.proofs.Lists.{and_true, and_makes, either_way, or_false, has-append, has-other, has-same, has-last_same, has-last_other, not_makes, passes_at, passes_contained}
use Rattle.load_plan.proofs.Orders.{IsWithin, Stands, Through, all_in-grows, grows_last, no_member, order_fits, stands, walk_goes}
use Rattle.load_plan.proofs.Walking.{mark_new}

-- One module on another, whatever is in progress.

-- a member of a passable order stands on the rest of it
stands_below : (w : List Node) (ms : List ℕ) (m : ℕ) → IsPassable w ms → has ms m ≡ true → (s : Stands w ms m) × IsPassable w s.below
stands_below w ms m p here =
    let s : Stands w ms m = stands w ms m p.order here in (s, record { order = s.order; entered = λ q h. p.entered q (s.within q h) })

-- a module stands on its hard dependencies
pub stands_on : (w : List Node) (m k d : ℕ) (rest : List Target) → drop k (node_at w m).hard ≡ Slot d ∷ rest → StandsOn w m d
stands_on w m k d rest leads ms p here =
    let b : (s : Stands w ms m) × IsPassable w s.below = stands_below w ms m p here in
    (b.0.below, b.1, passes_at (is_in b.0.below) (node_at w m).hard k (Slot d) rest b.0.hard leads, b.0.shorter)

stands_over : (w : List Node) (a b d : ℕ) → StandsOn w a b → StandsOn w b d → StandsOn w a d
stands_over w a b d first later ms p here =
    let x : (below : List ℕ) × IsPassable w below × (has below b ≡ true) × (length below < length ms) = first ms p here in
    let y : (below : List ℕ) × IsPassable w below × (has below d ≡ true) × (length below < length x.0) = later x.0 x.1 x.2 in
    (y.0, y.1, y.2, omega (arith, x.3, y.3))

-- no module stands on itself
no_descent : (w : List Node) (m : ℕ) → StandsOn w m m → (n : ℕ) (ms : List ℕ) → length ms ≤ n → IsPassable w ms → has ms m ≡ true → ⊥
no_descent w m on zero ms fits p here = let x : (below : List ℕ) × IsPassable w below × (has below m ≡ true) × (length below < length ms) = on ms p here in omega (arith, x.3, fits)
no_descent w m on (suc n) ms fits p here =
    let x : (below : List ℕ) × IsPassable w below × (has below m ≡ true) × (length below < length ms) = on ms p here in
    no_descent w m on n x.0 (omega (arith, x.3, fits)) x.1 x.2

barred_circle : (w : List Node) (m : ℕ) → StandsOn w m m → IsBarred w m
barred_circle w m on ms p here = no_descent w m on (length ms) ms (omega arith) p here

-- who is on a way stands on its last module
way_stands : (w : List Node) (frames : List Frame) (m : ℕ) (frame : Frame) → IsWay w frames m → (k : ℕ) → k < length frames → get_or frames k frame ≡ frame → StandsOn w frame.slot m
way_stands w [] m frame way k within e = absurd (omega arith)
way_stands w (f ∷ fs) m frame way zero within e = subst (λ (x : Frame). StandsOn w x.slot m) e way.0
way_stands w (f ∷ fs) m frame way (suc k) within e = stands_over w frame.slot f.slot m (way_stands w fs f.slot frame way.1 k (omega arith) e) way.0

contains-reverse : (frames : List Frame) (frame : Frame) (k : ℕ) → k < length frames → get_or frames k frame ≡ frame → Contains (reverse frames) frame
contains-reverse [] frame k within e = absurd (omega arith)
contains-reverse (f ∷ fs) frame zero within e =
    subst (λ l. Contains l frame) (sym (reverse-append (f ∷ []) fs)) (Contains-append_right (reverse fs) (f ∷ []) frame (zero, omega arith, e))
contains-reverse (f ∷ fs) frame (suc k) within e =
    subst (λ l. Contains l frame) (sym (reverse-append (f ∷ []) fs)) (Contains-append_left (reverse fs) (f ∷ []) frame (contains-reverse fs frame k (omega arith) e))

-- a hard dependency that is on the way closes a circle
pub barred_way : (w : List Node) (frames : List Frame) (m k d : ℕ) (rest : List Target) → drop k (node_at w m).hard ≡ Slot d ∷ rest → IsWay w (reverse frames) m → IsOnWay frames m d → IsBarred w m
barred_way w frames m k d rest leads way (inl same) = barred_circle w m (subst (λ x. StandsOn w m x) same (stands_on w m k d rest leads))
barred_way w frames m k d rest leads way (inr found) =
    let there : Contains (reverse frames) found.0 = contains-reverse frames found.0 found.1.0 found.1.1 found.1.2 in
    let up : StandsOn w found.0.slot m = way_stands w (reverse frames) m found.0 way there.0 there.1 there.2 in
    barred_circle w m (stands_over w m d m (stands_on w m k d rest leads) (subst (λ x. StandsOn w x m) found.2 up))

pub barred_target : (w : List Node) (m k d : ℕ) (rest : List Target) → drop k (node_at w m).hard ≡ Slot d ∷ rest → IsBarred w d → IsBarred w m
barred_target w m k d rest leads barred ms p here =
    let x : (below : List ℕ) × IsPassable w below × (has below d ≡ true) × (length below < length ms) = stands_on w m k d rest leads ms p here in
    barred x.0 x.1 x.2

pub barred_missing : (w : List Node) (m k : ℕ) (name : List ℕ) (rest : List Target) → drop k (node_at w m).hard ≡ Missing name ∷ rest → IsBarred w m
barred_missing w m k name rest leads ms p here =
    let b : (s : Stands w ms m) × IsPassable w s.below = stands_below w ms m p here in
    let no : false ≡ true = passes_at (is_in b.0.below) (node_at w m).hard k (Missing name) rest b.0.hard leads in
    absurd (cc)

pub barred_stopped : (w : List Node) (m : ℕ) → (node_at w m).installs ≡ true → IsBarred w m
barred_stopped w m stops ms p here = let no : (node_at w m).installs ≡ false = p.entered m here in absurd (cc)

-- a module meets what one of its hard dependencies meets
pub needs_target : (w : List Node) (m r : ℕ) (t : Target) → Contains (node_at w m).hard t → TargetNeeds w t r → Needs w m r
needs_target w m r (Missing name) among needs ms p here = absurd needs
needs_target w m r (Slot d) among needs ms p here =
    let b : (s : Stands w ms m) × IsPassable w s.below = stands_below w ms m p here in
    let there : has b.0.below d ≡ true = passes_contained (is_in b.0.below) (node_at w m).hard (Slot d) b.0.hard among.0 among.1 among.2 in
    b.0.within r (needs b.0.below b.1 there)

-- one of the targets, by its place
pub met_among : (w : List Node) (progress : List ℕ) (ts : List Target) (t : Target) (i : ℕ) → i < length ts → t ≡ get_or ts i t → (o : Option Meeting) → IfSome o (λ x. (has progress x.met ≡ true) × TargetNeeds w t x.named) → IfSome o (IsMet w progress ts)
met_among w progress ts t i within at None met = tt
met_among w progress ts t i within at (Some x) met = record { on = met.0; target = t; among = (i, within, sym at); needs = met.1 }

-- What a walk is, if a module is barred or meets one in progress.

not_free : (w : List Node) (progress : List ℕ) (m : ℕ) (r : Result (List ℕ) PlanRefusal) → is_bounded w ≡ true → m < length w → hard_walk w true (Slot m) ≡ r → ((ms : List ℕ) → IsPassable w ms → has ms m ≡ true → is_free progress (Ok ms) ≡ false) → is_free progress r ≡ false
not_free w progress m (Err e) bounded lt is h = refl
not_free w progress m (Ok reached) bounded lt is h =
    let x : Whole w m reached = whole_walk w m reached bounded lt is in h reached (record { order = x.order; entered = x.entered }) x.here

pub barred_walk : (w : List Node) (progress : List ℕ) (m : ℕ) → is_bounded w ≡ true → m < length w → IsBarred w m → is_free progress (hard_walk w true (Slot m)) ≡ false
barred_walk w progress m bounded lt barred = not_free w progress m (hard_walk w true (Slot m)) bounded lt refl (λ ms p here. absurd (barred ms p here))

pub meeting_walk : (w : List Node) (progress : List ℕ) (m r : ℕ) → is_bounded w ≡ true → m < length w → has progress r ≡ true → Needs w m r → is_free progress (hard_walk w true (Slot m)) ≡ false
meeting_walk w progress m r bounded lt on needs = not_free w progress m (hard_walk w true (Slot m)) bounded lt refl
    (λ ms p here. elim (either_way (is_free progress (Ok ms))) [
      | inl t ↦ (let no : has ms r ≡ false = none_in_progress progress ms r t on in let yes : has ms r ≡ true = needs ms p here in absurd (cc))
      | inr t ↦ t
    ])

-- who is not free is no clean item
pub unclean : (w : List Node) (progress done : List ℕ) (m : ℕ) → is_free progress (hard_walk w true (Slot m)) ≡ false → is_clean w progress done (Slot m) ≡ false
unclean w progress done m stained = elim (either_way (is_clean w progress done (Slot m))) [
  | inl t ↦ (let parts : (not (has done m) ≡ true) × (is_free progress (hard_walk w true (Slot m)) ≡ true) = and_true (not (has done m)) (is_free progress (hard_walk w true (Slot m))) t in absurd (cc))
  | inr t ↦ t
]

-- The list of free modules.

kept_more : (w : List Node) (progress order : List ℕ) (s : ℕ) → IsKept w progress order → s < length w → has progress s ≡ false → has order s ≡ false → (node_at w s).installs ≡ false → list_all (is_in order) (node_at w s).hard ≡ true → IsKept w progress (order ++ s ∷ [])
kept_more w progress order s kept lt off new free all = record {
  bounded = kept.bounded;
  order = more order s kept.order new all;
  off = λ q g. elim (eqb_tells q s) [
    | inl t ↦ (let on : has progress s ≡ true = subst (λ y. has progress y ≡ true) t.1 g in absurd (cc))
    | inr t ↦ has-last_other order s q t.0 ∙ kept.off q g
  ];
  entered = λ q g. elim (eqb_tells q s) [
    | inl t ↦ subst (λ y. (y < length w) × ((node_at w y).installs ≡ false)) (sym t.1) (lt, free)
    | inr t ↦ kept.entered q (sym (has-last_other order s q t.0) ∙ g)
  ];
}

-- one order of both lists
pub record Joined (w : List Node) (progress done order : List ℕ) : Type 0 where
  pub all : List ℕ
  pub kept : IsKept w progress all
  pub within : IsWithin (done ++ order) all

joined_more : (w : List Node) (progress done ms : List ℕ) (m : ℕ) → Joined w progress done ms → m < length w → has progress m ≡ false → (node_at w m).installs ≡ false → list_all (is_in (done ++ ms)) (node_at w m).hard ≡ true → Joined w progress done (ms ++ m ∷ [])
joined_more w progress done ms m j lt off free all =
    let inside : list_all (is_in j.all) (node_at w m).hard ≡ true = all_in-grows (done ++ ms) j.all (node_at w m).hard j.within all in
    let cut : (q : ℕ) → has (done ++ (ms ++ m ∷ [])) q ≡ true → has ((done ++ ms) ++ m ∷ []) q ≡ true = λ q h. subst (λ l. has l q ≡ true) (sym (append_assoc done ms (m ∷ []))) h in
    elim (either_way (has j.all m)) [
      | inl t ↦ record {
        all = j.all;
        kept = j.kept;
        within = λ q h. elim (eqb_tells q m) [ inl e ↦ subst (λ y. has j.all y ≡ true) (sym e.1) t | inr e ↦ j.within q (sym (has-last_other (done ++ ms) m q e.0) ∙ cut q h) ];
      }
      | inr t ↦ record {
        all = j.all ++ m ∷ [];
        kept = kept_more w progress j.all m j.kept lt off t free inside;
        within = λ q h. elim (eqb_tells q m) [ inl e ↦ has-last_same j.all m q e.1 | inr e ↦ grows_last j.all m q (j.within q (sym (has-last_other (done ++ ms) m q e.0) ∙ cut q h)) ];
      }
    ]

pub joined : (w : List Node) (progress done order : List ℕ) → IsKept w progress done → IsOver w done order → ((q : ℕ) → has progress q ≡ true → has order q ≡ false) → Joined w progress done order
joined w progress done _ kept none apart = record { all = done; kept = kept; within = λ q h. subst (λ l. has l q ≡ true) (append-nil done) h }
joined w progress done _ kept (learnt.more ms m over lt free all) apart =
    joined_more w progress done ms m
    (joined w progress done ms kept over (λ q h. (or_false (has ms q) (has (m ∷ []) q) (sym (has-append ms (m ∷ []) q) ∙ apart q h)).0))
    lt
    (elim (either_way (has progress m)) [ inl t ↦ (let no : has (ms ++ m ∷ []) m ≡ false = apart m t in let yes : has (ms ++ m ∷ []) m ≡ true = has-last_same ms m m refl in absurd (cc)) | inr t ↦ t ])
    free all

pub over-grows : (w : List Node) (done after order : List ℕ) → IsWithin done after → IsOver w done order → IsOver w after order
over-grows w done after _ grows none = none
over-grows w done after _ grows (learnt.more ms m over lt free all) =
    learnt.more ms m (over-grows w done after ms grows over) lt free
    (all_in-grows (done ++ ms) (after ++ ms) (node_at w m).hard (λ q h. has-append after ms q ∙ both q (sym (has-append done ms q) ∙ h)) all)
  where
    either : (a b c : Bool) → (a ≡ true → c ≡ true) → (a || b) ≡ true → (c || b) ≡ true
    either true b c h k = ap (λ x. x || b) (h refl)
    either false b true h k = refl
    either false b false h k = k

    both : (q : ℕ) → (has done q || has ms q) ≡ true → (has after q || has ms q) ≡ true
    both q h = either (has done q) (has ms q) (has after q) (grows q) h

take_last : (ms : List ℕ) (m k : ℕ) → (take k (ms ++ m ∷ []) ≡ take k ms) ⊎ (take k (ms ++ m ∷ []) ≡ ms ++ m ∷ [])
take_last [] m zero = inl refl
take_last [] m (suc k) = inr (ap (λ l. m ∷ l) (take_none k))
  where
    take_none : (k : ℕ) → take {A = ℕ} k [] ≡ []
    take_none zero = refl
    take_none (suc k) = refl
take_last (x ∷ xs) m zero = inl refl
take_last (x ∷ xs) m (suc k) = elim (take_last xs m k) [ inl e ↦ inl (ap (λ l. x ∷ l) e) | inr e ↦ inr (ap (λ l. x ∷ l) e) ]

pub over-take : (w : List Node) (done order : List ℕ) (k : ℕ) → IsOver w done order → IsOver w done (take k order)
over-take w done _ zero none = none
over-take w done _ (suc k) none = none
over-take w done _ k (learnt.more ms m over lt free all) = elim (take_last ms m k) [
  | inl e ↦ subst (λ l. IsOver w done l) (sym e) (over-take w done ms k over)
  | inr e ↦ subst (λ l. IsOver w done l) (sym e) (learnt.more ms m over lt free all)
]

pub has_place : (ms : List ℕ) (m : ℕ) → has ms m ≡ true → (i : ℕ) × (i < length ms) × (get_or ms i 0 ≡ m)
has_place [] m h = absurd (cc)
has_place (x ∷ xs) m h = elim (eqb_tells m x) [
  | inl t ↦ (zero, omega arith, sym t.1)
  | inr t ↦ (let later : (i : ℕ) × (i < length xs) × (get_or xs i 0 ≡ m) = has_place xs m (sym (has-other xs x m t.0) ∙ h) in (suc later.0, omega (arith, later.1), later.2))
]

pub place_has : (ms : List ℕ) (i m : ℕ) → i < length ms → get_or ms i 0 ≡ m → has ms m ≡ true
place_has [] i m within e = absurd (omega arith)
place_has (x ∷ xs) zero m within e = has-same xs x m (sym e)
place_has (x ∷ xs) (suc i) m within e = elim (eqb_tells m x) [ inl t ↦ has-same xs x m t.1 | inr t ↦ has-other xs x m t.0 ∙ place_has xs i m (omega arith) e ]

-- What is learnt.

-- the verdict of a module that is not in the list
other_place : (order : List ℕ) (m i : ℕ) → has order m ≡ false → i < length order → get_or order i 0 ≡ m → ⊥
other_place order m i new within e = let yes : has order m ≡ true = place_has order i m within e in absurd (cc)

-- the verdict of a module of the graph, whatever is said past the end
pub verdict_with : (verdicts : List Verdict) (m : ℕ) (d : Verdict) → m < length verdicts → verdict_at verdicts m ≡ get_or verdicts m d
verdict_with [] m d within = absurd (omega arith)
verdict_with (x ∷ xs) zero d within = refl
verdict_with (x ∷ xs) (suc m) d within = verdict_with xs m d (omega arith)

-- a module that is not where its verdict says is not in the list
pub not_placed : (verdicts : List Verdict) (order : List ℕ) (m : ℕ) → ((i : ℕ) → verdict_at verdicts m ≡ Free i → i < length order → get_or order i 0 ≡ m → ⊥) → ArePlaced verdicts order → has order m ≡ false
not_placed verdicts order m off placed = elim (either_way (has order m)) [
  | inl t ↦
      (let x : (i : ℕ) × (i < length order) × (get_or order i 0 ≡ m) = has_place order m t in
      absurd (off x.0 (ap (verdict_at verdicts) (sym x.2) ∙ placed x.0 x.1) x.1 x.2))
  | inr t ↦ t
]

pub same_place : (a b : ℕ) → Free a ≡ Free b → a ≡ b
same_place a b e = cc

holds-set : (w : List Node) (verdicts : List Verdict) (m : ℕ) (x : Verdict) → m < length verdicts → Holds w m x → ((q : ℕ) → q < length w → Holds w q (verdict_at verdicts q)) → (q : ℕ) → q < length w → Holds w q (verdict_at (set verdicts m x) q)
holds-set w verdicts m x within here all q lt = elim (eqb_tells q m) [
  | inl t ↦ subst (λ y. Holds w y (verdict_at (set verdicts m x) y)) (sym t.1) (subst (λ v. Holds w m v) (sym (get_or-set_same verdicts m x Unknown within)) here)
  | inr t ↦ subst (λ v. Holds w q v) (sym (get_or-set_other verdicts m q x Unknown t.1)) (all q lt)
]

pub Learnt-set : (w : List Node) (progress done : List ℕ) (verdicts : List Verdict) (order : List ℕ) (m : ℕ) (x : Verdict) → m < length verdicts → has order m ≡ false → Holds w m x → IsLearnt w progress done verdicts order → IsLearnt w progress done (set verdicts m x) order
Learnt-set w progress done verdicts order m x within new here k = record {
  over = k.over;
  apart = k.apart;
  placed = λ i lt. get_or-set_other verdicts m (get_or order i 0) x Unknown (λ e. other_place order m i new lt e) ∙ k.placed i lt;
  holds = holds-set w verdicts m x within here k.holds;
}

pub Learnt-add : (w : List Node) (progress done : List ℕ) (verdicts : List Verdict) (order : List ℕ) (m : ℕ) → m < length verdicts → m < length w → has order m ≡ false → has progress m ≡ false → (node_at w m).installs ≡ false → list_all (is_in (done ++ order)) (node_at w m).hard ≡ true → IsLearnt w progress done verdicts order → IsLearnt w progress done (set verdicts m (Free (length order))) (order ++ m ∷ [])
Learnt-add w progress done verdicts order m within lt new off free all k = record {
  over = learnt.more order m k.over lt free all;
  apart = λ q h. elim (eqb_tells q m) [
    | inl t ↦ (let on : has progress m ≡ true = subst (λ y. has progress y ≡ true) t.1 h in absurd (cc))
    | inr t ↦ has-last_other order m q t.0 ∙ k.apart q h
  ];
  placed = λ i inside. elim (place i inside) [
    | inl before ↦ ap (verdict_at (set verdicts m (Free (length order)))) (get_or_append_left order (m ∷ []) 0 i before)
        ∙ get_or-set_other verdicts m (get_or order i 0) (Free (length order)) Unknown (λ e. other_place order m i new before e) ∙ k.placed i before
    | inr same ↦ ap (verdict_at (set verdicts m (Free (length order)))) (ap (λ j. get_or (order ++ m ∷ []) j 0) same ∙ last order)
        ∙ get_or-set_same verdicts m (Free (length order)) Unknown within ∙ ap (λ j. Free j) (sym same)
  ];
  holds = holds-set w verdicts m (Free (length order)) within tt k.holds;
}
  where
    place : (i : ℕ) → i < length (order ++ m ∷ []) → (i < length order) ⊎ (i ≡ length order)
    place i inside =
        let longer : length (order ++ m ∷ []) ≡ length order + 1 = length-append order (m ∷ []) in
        let most : i ≤ length order = omega (arith, inside, longer) in
        elim (eq-or-lt_of_le most) [ inl e ↦ inr e | inr l ↦ inl l ]

    last : (ms : List ℕ) → get_or (ms ++ m ∷ []) (length ms) 0 ≡ m
    last [] = refl
    last (x ∷ xs) = last xs

-- the visit of a module begins that is not in the list
pub Learnt-enter_new : (w : List Node) (progress done : List ℕ) (verdicts : List Verdict) (order : List ℕ) (m depth : ℕ) → m < length verdicts → has order m ≡ false → IsLearnt w progress done verdicts order → IsLearnt w (m ∷ progress) done (set verdicts m (Entered depth)) order
Learnt-enter_new w progress done verdicts order m depth within new k =
    let x : IsLearnt w progress done (set verdicts m (Entered depth)) order = Learnt-set w progress done verdicts order m (Entered depth) within new tt k in
    record {
      over = x.over;
      apart = λ q h. elim (eqb_tells q m) [ inl t ↦ subst (λ y. has order y ≡ false) (sym t.1) new | inr t ↦ x.apart q (sym (has-other progress m q t.0) ∙ h) ];
      placed = x.placed;
      holds = x.holds;
    }

taken : (order : List ℕ) (k q : ℕ) → has (take k order) q ≡ true → has order q ≡ true
taken [] zero q h = h
taken [] (suc k) q h = h
taken (x ∷ xs) zero q h = absurd (cc)
taken (x ∷ xs) (suc k) q h = elim (eqb_tells q x) [ inl t ↦ has-same xs x q t.1 | inr t ↦ has-other xs x q t.0 ∙ taken xs k q (sym (has-other (take k xs) x q t.0) ∙ h) ]

-- one that is in it: those before it stay
pub Learnt-cut : (w : List Node) (progress done : List ℕ) (verdicts : List Verdict) (order : List ℕ) (m place : ℕ) → verdict_at verdicts m ≡ Free place → place ≤ length order → IsLearnt w progress done verdicts order → IsLearnt w progress done verdicts (take place order) × (has (take place order) m ≡ false)
Learnt-cut w progress done verdicts order m place is within k = (
  record {
    over = over-take w done order place k.over;
    apart = λ q h. no_member (take place order) order q (λ y g. taken order place y g) (k.apart q h);
    placed = λ i lt. ap (verdict_at verdicts) (get_or-take place order i 0 (before i lt)) ∙ k.placed i (omega (arith, before i lt, within));
    holds = k.holds;
  },
  elim (either_way (has (take place order) m)) [
    | inl t ↦ absurd (again t)
    | inr t ↦ t
  ],
)
  where
    shorter : length (take place order) ≡ place
    shorter = length-take-le place order within

    before : (i : ℕ) → i < length (take place order) → i < place
    before i lt = omega (arith, lt, shorter)

    again : has (take place order) m ≡ true → ⊥
    again t =
        let x : (i : ℕ) × (i < length (take place order)) × (get_or (take place order) i 0 ≡ m) = has_place (take place order) m t in
        let at : get_or order x.0 0 ≡ m = sym (get_or-take place order x.0 0 (before x.0 x.1)) ∙ x.2 in
        let own : verdict_at verdicts m ≡ Free x.0 = ap (verdict_at verdicts) (sym at) ∙ k.placed x.0 (omega (arith, before x.0 x.1, within)) in
        let same : x.0 ≡ place = same_place x.0 place (sym own ∙ is) in
        omega (arith, same, before x.0 x.1)

-- a module is appended to the list of the visit
pub Learnt-append : (w : List Node) (progress done : List ℕ) (verdicts : List Verdict) (order : List ℕ) (m : ℕ) → IsLearnt w (m ∷ progress) done verdicts order → IsLearnt w progress (done ++ m ∷ []) verdicts order
Learnt-append w progress done verdicts order m k = record {
  over = over-grows w done (done ++ m ∷ []) order (λ q h. grows_last done m q h) k.over;
  apart = λ q h. k.apart q (elim (eqb_tells q m) [ inl t ↦ has-same progress m q t.1 | inr t ↦ has-other progress m q t.0 ∙ h ]);
  placed = k.placed;
  holds = k.holds;
}

-- the walk from a member of an order that is apart from what is in progress is free
free_member : (w : List Node) (progress ms : List ℕ) (m : ℕ) → IsKept w progress ms → has ms m ≡ true → is_free progress (hard_walk w true (Slot m)) ≡ true
free_member w progress ms m kept here =
    let t : Through ms [] (hard_walk w true (Slot m)) =
    walk_goes w (length w) [] ms kept.order (λ q g. (kept.entered q g).1) (λ q on. absurd (cc)) (order_fits w ms kept.order (λ q g. (kept.entered q g).0)) [] m here in
    let inside : (q : ℕ) → has t.after q ≡ true → has ms q ≡ true = λ q g. elim (t.adds q g) [ inl a ↦ absurd (cc) | inr b ↦ b ] in
    ap (is_free progress) t.is ∙ free_from_apart progress t.after (λ q g. turned progress ms kept.off q (inside q g))

-- a new module that is known to be free is a clean item
pub clean-known : (w : List Node) (marks : List Mark) (progress done : List ℕ) (verdicts : List Verdict) (order : List ℕ) (m : ℕ) → AreMarks (length w) marks progress done → IsKept w progress done → mark_at marks m ≡ New → m < length w → has (done ++ order) m ≡ true → IsLearnt w progress done verdicts order → is_clean w progress done (Slot m) ≡ true
clean-known w marks progress done verdicts order m marked kept mark lt here k =
    let new : (has done m ≡ false) × (has progress m ≡ false) = mark_new (has done m) (has progress m) (sym (marked m lt) ∙ mark) in
    let j : Joined w progress done order = joined w progress done order kept k.over k.apart in
    and_makes (not (has done m)) (is_free progress (hard_walk w true (Slot m))) (not_makes (has done m) new.0) (free_member w progress j.all m j.kept (j.within m here))

no_verdict : (n m : ℕ) → verdict_at (replicate n Unknown) m ≡ Unknown
no_verdict zero m = refl
no_verdict (suc n) zero = refl
no_verdict (suc n) (suc m) = no_verdict n m

pub Learnt-begin : (w : List Node) (done : List ℕ) (verdicts : List Verdict) (order : List ℕ) → verdicts ≡ replicate (length w) Unknown → order ≡ [] → IsLearnt w [] done verdicts order
Learnt-begin w done verdicts order new empty = rw (new, empty) (record {
  over = none;
  apart = λ q h. refl;
  placed = λ i lt. absurd (omega (arith, lt));
  holds = λ m lt. subst (λ v. Holds w m v) (sym (no_verdict (length w) m)) tt;
})
