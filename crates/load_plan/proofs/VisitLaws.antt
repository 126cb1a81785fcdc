-- A visit gives an order, with whatever fuel there is beyond the modules that are left.
use Rattle.std.proofs.Common.{◌≡◌, ℕ, zero, suc, ◌+◌, ◌<◌, ◌≤◌, Bool, true, false, cond, not, nat_eq, List, [], ◌∷◌, ◌++◌, length, Ok, refl, sym, ◌∙◌, ap, subst, inl, inr, arith}
use Rattle.std.specs.List.{IsDistinct, list_any, list_all}
use Rattle.std.proofs.lemmas.Bool.Decides.{eqb_tells}
use Rattle.std.proofs.lemmas.List.{length-append}
use Rattle.std.proofs.lemmas.Map.Keys.{IsDistinct-cons, IsDistinct-head, IsDistinct-tail}
use Rattle.load_plan.specs.declared.graph.Target.{Target}
use Rattle.load_plan.specs.declared.graph.Target.TheVariants.{Slot, Missing}
use Rattle.load_plan.specs.Graph.{Node, node_at, is_bounded, is_within}
use Rattle.load_plan.specs.Walk.{has, hard_walk}
use Rattle.load_plan.specs.Plan.{is_clean, each_soft, is_done, each_hard, visit}
use Rattle.load_plan.specs.Laws.{is_in, IsOrder, start, more}
use Rattle.load_plan.proofs.Lists.{and_true, and_makes, or_true, or_comes, both_false, not_true, has-same, has-other, has-append, has-last_same, has-last_other, has-from_apart, apart_from, below_cons, nothing_apart, room_for}
use Rattle.load_plan.proofs.Bounds.{lt-true, named_within}
use Rattle.load_plan.proofs.Orders.{IsApart, IsWithin, grows_last, distinct_order, AreEntered}
use Rattle.load_plan.proofs.Free.{IsFree, free_hard, free_clean, free_walk}

-- What holds of a list on which visits work: the fuel is at least the number of modules that are neither in
-- progress nor in the list.
pub record IsPlanned (w : List Node) (n : ℕ) (progress done : List ℕ) : Type 0 where
  pub order : IsOrder w done
  pub off : IsApart progress done
  pub distinct : IsDistinct nat_eq progress
  pub known : (q : ℕ) → has progress q ≡ true → q < length w
  pub done_known : (q : ℕ) → has done q ≡ true → q < length w
  pub done_entered : AreEntered w done
  pub fuel : length w ≤ n + (length progress + length done)

pub record Grows (done after : List ℕ) : Type 0 where
  pub stays : IsWithin done after
  pub longer : length done ≤ length after

Grows-same : (done : List ℕ) → Grows done done
Grows-same done = record { stays = λ q h. h; longer = omega arith }

Grows-trans : {a b c : List ℕ} → Grows a b → Grows b c → Grows a c
Grows-trans {a} {b} {c} g h = record { stays = λ q k. h.stays q (g.stays q k); longer = omega (arith, g.longer, h.longer) }

-- one visit at some fuel
abbrev Visiting : List Node → ℕ → Type 0
Visiting w n = (progress done : List ℕ) (m : ℕ) → IsPlanned w n progress done → m < length w → IsFree w progress m → has done m ≡ false
    → IsPlanned w n progress (visit w n progress done (Slot m)) × Grows done (visit w n progress done (Slot m)) × (has (visit w n progress done (Slot m)) m ≡ true)

soft_step : (w : List Node) (n : ℕ) (progress : List ℕ) → is_bounded w ≡ true → Visiting w n → (done : List ℕ) (t : Target) → is_within (length w) t ≡ true → IsPlanned w n progress done → (b : Bool) → is_clean w progress done t ≡ b
    → IsPlanned w n progress (cond b (visit w n progress done t) done) × Grows done (cond b (visit w n progress done t) done)
soft_step w n progress bounded visits done t below k false e = (k, Grows-same done)
soft_step w n progress bounded visits done (Missing name) below k true e = absurd (cc)
soft_step w n progress bounded visits done (Slot m) below k true e =
    let within : m < length w = lt-true m (length w) below in
    let f : IsFree w progress m = free_clean w progress done m bounded within e in
    let new : has done m ≡ false = not_true (has done m) (and_true (not (has done m)) _ e).0 in
    let v : IsPlanned w n progress (visit w n progress done (Slot m)) × Grows done (visit w n progress done (Slot m)) × (has (visit w n progress done (Slot m)) m ≡ true) = visits progress done m k within f new in
    (v.0, v.1)

soft_steps : (w : List Node) (n : ℕ) (progress : List ℕ) → is_bounded w ≡ true → Visiting w n → (ts : List Target) (done : List ℕ) → list_all (is_within (length w)) ts ≡ true → IsPlanned w n progress done
    → IsPlanned w n progress (each_soft w progress (visit w n progress) done ts) × Grows done (each_soft w progress (visit w n progress) done ts)
soft_steps w n progress bounded visits [] done all k = (k, Grows-same done)
soft_steps w n progress bounded visits (t ∷ ts) done all k =
    let named : (is_within (length w) t ≡ true) × (list_all (is_within (length w)) ts ≡ true) = and_true (is_within (length w) t) (list_all (is_within (length w)) ts) all in
    let mid : List ℕ = cond (is_clean w progress done t) (visit w n progress done t) done in
    let one : IsPlanned w n progress mid × Grows done mid = soft_step w n progress bounded visits done t named.0 k (is_clean w progress done t) refl in
    let rest : IsPlanned w n progress (each_soft w progress (visit w n progress) mid ts) × Grows mid (each_soft w progress (visit w n progress) mid ts) = soft_steps w n progress bounded visits ts mid named.1 one.0 in
    (rest.0, Grows-trans one.1 rest.1)

hard_one : (w : List Node) (n : ℕ) (progress : List ℕ) (m : ℕ) → Visiting w n → (free : IsFree w progress m) → (done : List ℕ) (t : Target) → is_within (length w) t ≡ true → is_in free.below t ≡ true → IsPlanned w n (m ∷ progress) done → (b : Bool) → is_done done t ≡ b
    → IsPlanned w n (m ∷ progress) (cond b done (visit w n (m ∷ progress) done t)) × Grows done (cond b done (visit w n (m ∷ progress) done t)) × (is_in (cond b done (visit w n (m ∷ progress) done t)) t ≡ true)
hard_one w n progress m visits free done (Missing name) below here k b e = absurd (cc)
hard_one w n progress m visits free done (Slot d) below here k true e = (k, Grows-same done, e)
hard_one w n progress m visits free done (Slot d) below here k false e = visits (m ∷ progress) done d k (lt-true d (length w) below) (free_hard w progress m d free here) e

is_in-stays : (done after : List ℕ) (t : Target) → Grows done after → is_in done t ≡ true → is_in after t ≡ true
is_in-stays done after (Slot m) g h = g.stays m h
is_in-stays done after (Missing name) g h = h

hard_steps : (w : List Node) (n : ℕ) (progress : List ℕ) (m : ℕ) → Visiting w n → (free : IsFree w progress m) → (ts : List Target) (done : List ℕ) → list_all (is_within (length w)) ts ≡ true → list_all (is_in free.below) ts ≡ true → IsPlanned w n (m ∷ progress) done
    → IsPlanned w n (m ∷ progress) (each_hard (visit w n (m ∷ progress)) done ts) × Grows done (each_hard (visit w n (m ∷ progress)) done ts) × (list_all (is_in (each_hard (visit w n (m ∷ progress)) done ts)) ts ≡ true)
hard_steps w n progress m visits free [] done all here k = (k, Grows-same done, refl)
hard_steps w n progress m visits free (t ∷ ts) done all here k =
    let named : (is_within (length w) t ≡ true) × (list_all (is_within (length w)) ts ≡ true) = and_true (is_within (length w) t) (list_all (is_within (length w)) ts) all in
    let there : (is_in free.below t ≡ true) × (list_all (is_in free.below) ts ≡ true) = and_true (is_in free.below t) (list_all (is_in free.below) ts) here in
    let mid : List ℕ = cond (is_done done t) done (visit w n (m ∷ progress) done t) in
    let last : List ℕ = each_hard (visit w n (m ∷ progress)) mid ts in
    let one : IsPlanned w n (m ∷ progress) mid × Grows done mid × (is_in mid t ≡ true) = hard_one w n progress m visits free done t named.0 there.0 k (is_done done t) refl in
    let rest : IsPlanned w n (m ∷ progress) last × Grows mid last × (list_all (is_in last) ts ≡ true) = hard_steps w n progress m visits free ts mid named.1 there.1 one.0 in
    (rest.0, Grows-trans one.1 rest.1, and_makes (is_in last t) (list_all (is_in last) ts) (is_in-stays mid last t rest.1 one.2) rest.2)

-- the visit of a module begins
begins : (w : List Node) (n : ℕ) (progress done : List ℕ) (m : ℕ) → IsPlanned w (suc n) progress done → m < length w → IsFree w progress m → has done m ≡ false → IsPlanned w n (m ∷ progress) done
begins w n progress done m k below f new = record {
  order = k.order;
  off = λ q g. elim (eqb_tells q m) [ inl t ↦ subst (λ x. has done x ≡ false) (sym t.1) new | inr t ↦ k.off q (sym (has-other progress m q t.0) ∙ g) ];
  distinct = IsDistinct-cons nat_eq m progress (apart_from progress m f.off) k.distinct;
  known = below_cons (length w) progress m k.known below;
  done_known = k.done_known;
  done_entered = k.done_entered;
  fuel = omega (arith, k.fuel);
}

-- the module is appended
appends : (w : List Node) (n : ℕ) (progress done mid : List ℕ) (m : ℕ) → IsPlanned w (suc n) progress done → m < length w → IsFree w progress m → IsPlanned w n (m ∷ progress) mid → Grows done mid → list_all (is_in mid) (node_at w m).hard ≡ true
    → IsPlanned w n progress (mid ++ m ∷ []) × Grows done (mid ++ m ∷ [])
appends w n progress done mid m k below f x g all =
    let lengths : length (mid ++ m ∷ []) ≡ length mid + 1 = length-append mid (m ∷ []) in (
      record {
        order = more mid m x.order (x.off m (has-same progress m m refl)) all;
        off = λ q h. elim (eqb_tells q m) [
          | inl t ↦ (let on : has progress m ≡ true = subst (λ y. has progress y ≡ true) t.1 h in let no : has progress m ≡ false = f.off in absurd (cc))
          | inr t ↦ has-last_other mid m q t.0 ∙ x.off q (has-other progress m q t.0 ∙ h)
        ];
        distinct = k.distinct;
        known = k.known;
        done_known = λ q h. elim (eqb_tells q m) [ inl t ↦ subst (λ y. y < length w) (sym t.1) below | inr t ↦ x.done_known q (sym (has-last_other mid m q t.0) ∙ h) ];
        done_entered = λ q h. elim (eqb_tells q m) [ inl t ↦ subst (λ y. (node_at w y).installs ≡ false) (sym t.1) f.own | inr t ↦ x.done_entered q (sym (has-last_other mid m q t.0) ∙ h) ];
        fuel = omega (arith, k.fuel, g.longer, lengths);
      },
      record { stays = λ q h. grows_last mid m q (g.stays q h); longer = omega (arith, g.longer, lengths) },
    )

distinct_both : (ps ds : List ℕ) → IsDistinct nat_eq ps → IsDistinct nat_eq ds → IsApart ps ds → IsDistinct nat_eq (ps ++ ds)
distinct_both [] ds a b off = b
distinct_both (p ∷ ps) ds a b off =
    let alone : has ps p ≡ false = has-from_apart ps p (IsDistinct-head nat_eq p ps a) in
    let new : has (ps ++ ds) p ≡ false = has-append ps ds p ∙ both_false (has ps p) (has ds p) alone (off p (has-same ps p p refl)) in
    IsDistinct-cons nat_eq p (ps ++ ds) (apart_from (ps ++ ds) p new)
    (distinct_both ps ds (IsDistinct-tail nat_eq p ps a) b (λ q h. off q (or_comes (nat_eq q p) (has ps q) h)))

-- there is fuel while a module is left
no_fuel : (w : List Node) (progress done : List ℕ) (m : ℕ) → IsPlanned w zero progress done → m < length w → has progress m ≡ false → has done m ≡ false → ⊥
no_fuel w progress done m k below off new =
    let all : List ℕ = progress ++ done in
    let room : suc (length all) ≤ length w = room_for (length w) all m (distinct_both progress done k.distinct (distinct_order w done k.order) k.off)
    (λ q h. elim (or_true (has progress q) (has done q) (sym (has-append progress done q) ∙ h)) [ inl t ↦ k.known q t | inr t ↦ k.done_known q t ])
    (has-append progress done m ∙ both_false (has progress m) (has done m) off new) below in
    omega (arith, room, k.fuel, length-append progress done)

pub visits : (w : List Node) → is_bounded w ≡ true → (n : ℕ) → Visiting w n
visits w bounded zero progress done m k below f new = absurd (no_fuel w progress done m k below f.off new)
visits w bounded (suc n) progress done m k below f new =
    let one : Visiting w n = visits w bounded n in
    let named : (list_all (is_within (length w)) (node_at w m).hard ≡ true) × (list_all (is_within (length w)) (node_at w m).pre ≡ true) × (list_all (is_within (length w)) (node_at w m).post ≡ true) = named_within w m bounded in
    let first : List ℕ = each_soft w (m ∷ progress) (visit w n (m ∷ progress)) done (node_at w m).pre in
    let second : List ℕ = each_hard (visit w n (m ∷ progress)) first (node_at w m).hard in
    let third : List ℕ = second ++ m ∷ [] in
    let last : List ℕ = each_soft w progress (visit w n progress) third (node_at w m).post in
    let a : IsPlanned w n (m ∷ progress) first × Grows done first = soft_steps w n (m ∷ progress) bounded one (node_at w m).pre done named.1 (begins w n progress done m k below f new) in
    let b : IsPlanned w n (m ∷ progress) second × Grows first second × (list_all (is_in second) (node_at w m).hard ≡ true) = hard_steps w n progress m one f (node_at w m).hard first named.0 f.hard a.0 in
    let c : IsPlanned w n progress third × Grows done third = appends w n progress done second m k below f b.0 (Grows-trans a.1 b.1) b.2 in
    let d : IsPlanned w n progress last × Grows third last = soft_steps w n progress bounded one (node_at w m).post third named.2 c.0 in (
      record { order = d.0.order; off = d.0.off; distinct = d.0.distinct; known = d.0.known; done_known = d.0.done_known; done_entered = d.0.done_entered; fuel = omega (arith, d.0.fuel) },
      Grows-trans c.1 d.1,
      d.1.stays m (has-last_same second m m refl),
    )

none_in : (ms : List ℕ) → list_any (has []) ms ≡ false
none_in [] = refl
none_in (x ∷ xs) = none_in xs

pub free_start : (w : List Node) (m : ℕ) (reached : List ℕ) → is_bounded w ≡ true → m < length w → hard_walk w true (Slot m) ≡ Ok reached → IsFree w [] m
free_start w m reached bounded below h = free_walk w [] m (Ok reached) bounded below h (ap not (none_in reached))

pub planned_start : (w : List Node) (n : ℕ) → length w ≤ n → IsPlanned w n [] []
planned_start w n enough = record { order = start; off = λ q g. refl; distinct = nothing_apart; known = λ q g. absurd (cc); done_known = λ q g. absurd (cc); done_entered = λ q g. absurd (cc); fuel = omega arith }

-- what a whole visit gives
pub record Visited (w : List Node) (m : ℕ) (ms : List ℕ) : Type 0 where
  pub order : IsOrder w ms
  pub here : has ms m ≡ true
  pub below : (q : ℕ) → has ms q ≡ true → q < length w
  pub entered : AreEntered w ms

pub visited : (w : List Node) (m : ℕ) (reached : List ℕ) → is_bounded w ≡ true → m < length w → hard_walk w true (Slot m) ≡ Ok reached → Visited w m (visit w (length w) [] [] (Slot m))
visited w m reached bounded below h =
    let v : IsPlanned w (length w) [] (visit w (length w) [] [] (Slot m)) × Grows [] (visit w (length w) [] [] (Slot m)) × (has (visit w (length w) [] [] (Slot m)) m ≡ true) = visits w bounded (length w) [] [] m (planned_start w (length w) (omega arith)) below (free_start w m reached bounded below h) refl in
    record { order = v.0.order; here = v.2; below = v.0.done_known; entered = v.0.done_entered }

-- Two fuels that are both enough give the same visit.
soft_same : (w : List Node) (n k : ℕ) (progress : List ℕ) → is_bounded w ≡ true → ((done : List ℕ) (m : ℕ) → IsPlanned w n progress done → IsPlanned w k progress done → m < length w → IsFree w progress m → has done m ≡ false → visit w n progress done (Slot m) ≡ visit w k progress done (Slot m))
    → (ts : List Target) (done : List ℕ) → list_all (is_within (length w)) ts ≡ true → IsPlanned w n progress done → IsPlanned w k progress done → each_soft w progress (visit w n progress) done ts ≡ each_soft w progress (visit w k progress) done ts
soft_same w n k progress bounded same [] done all a b = refl
soft_same w n k progress bounded same (t ∷ ts) done all a b =
    let named : (is_within (length w) t ≡ true) × (list_all (is_within (length w)) ts ≡ true) = and_true (is_within (length w) t) (list_all (is_within (length w)) ts) all in
    let mid : List ℕ = cond (is_clean w progress done t) (visit w n progress done t) done in
    let other : List ℕ = cond (is_clean w progress done t) (visit w k progress done t) done in
    let e : mid ≡ other = one t named.0 (is_clean w progress done t) refl in
    let here : IsPlanned w n progress mid = (soft_step w n progress bounded (visits w bounded n) done t named.0 a (is_clean w progress done t) refl).0 in
    let there : IsPlanned w k progress mid = subst (IsPlanned w k progress) (sym e) (soft_step w k progress bounded (visits w bounded k) done t named.0 b (is_clean w progress done t) refl).0 in
    soft_same w n k progress bounded same ts mid named.1 here there ∙ ap (λ d. each_soft w progress (visit w k progress) d ts) e
  where
    one : (t : Target) → is_within (length w) t ≡ true → (c : Bool) → is_clean w progress done t ≡ c → cond c (visit w n progress done t) done ≡ cond c (visit w k progress done t) done
    one t below false h = refl
    one (Missing name) below true h = absurd (cc)
    one (Slot m) below true h =
        let within : m < length w = lt-true m (length w) below in
        same done m a b within (free_clean w progress done m bounded within h) (not_true (has done m) (and_true (not (has done m)) _ h).0)

hard_same : (w : List Node) (n k : ℕ) (progress : List ℕ) (m : ℕ) → is_bounded w ≡ true → (free : IsFree w progress m) → ((done : List ℕ) (d : ℕ) → IsPlanned w n (m ∷ progress) done → IsPlanned w k (m ∷ progress) done → d < length w → IsFree w (m ∷ progress) d → has done d ≡ false → visit w n (m ∷ progress) done (Slot d) ≡ visit w k (m ∷ progress) done (Slot d))
    → (ts : List Target) (done : List ℕ) → list_all (is_within (length w)) ts ≡ true → list_all (is_in free.below) ts ≡ true → IsPlanned w n (m ∷ progress) done → IsPlanned w k (m ∷ progress) done → each_hard (visit w n (m ∷ progress)) done ts ≡ each_hard (visit w k (m ∷ progress)) done ts
hard_same w n k progress m bounded free same [] done all here a b = refl
hard_same w n k progress m bounded free same (t ∷ ts) done all here a b =
    let named : (is_within (length w) t ≡ true) × (list_all (is_within (length w)) ts ≡ true) = and_true (is_within (length w) t) (list_all (is_within (length w)) ts) all in
    let inside : (is_in free.below t ≡ true) × (list_all (is_in free.below) ts ≡ true) = and_true (is_in free.below t) (list_all (is_in free.below) ts) here in
    let mid : List ℕ = cond (is_done done t) done (visit w n (m ∷ progress) done t) in
    let other : List ℕ = cond (is_done done t) done (visit w k (m ∷ progress) done t) in
    let e : mid ≡ other = one t named.0 inside.0 (is_done done t) refl in
    let left : IsPlanned w n (m ∷ progress) mid = (hard_one w n progress m (visits w bounded n) free done t named.0 inside.0 a (is_done done t) refl).0 in
    let right : IsPlanned w k (m ∷ progress) mid = subst (IsPlanned w k (m ∷ progress)) (sym e) (hard_one w k progress m (visits w bounded k) free done t named.0 inside.0 b (is_done done t) refl).0 in
    hard_same w n k progress m bounded free same ts mid named.1 inside.1 left right ∙ ap (λ d. each_hard (visit w k (m ∷ progress)) d ts) e
  where
    one : (t : Target) → is_within (length w) t ≡ true → is_in free.below t ≡ true → (c : Bool) → is_done done t ≡ c → cond c done (visit w n (m ∷ progress) done t) ≡ cond c done (visit w k (m ∷ progress) done t)
    one t below inside true h = refl
    one (Missing name) below inside false h = absurd (cc)
    one (Slot d) below inside false h = same done d a b (lt-true d (length w) below) (free_hard w progress m d free inside) h

pub visit_same : (w : List Node) → is_bounded w ≡ true → (n k : ℕ) (progress done : List ℕ) (m : ℕ) → IsPlanned w n progress done → IsPlanned w k progress done → m < length w → IsFree w progress m → has done m ≡ false → visit w n progress done (Slot m) ≡ visit w k progress done (Slot m)
visit_same w bounded zero k progress done m a b below f new = absurd (no_fuel w progress done m a below f.off new)
visit_same w bounded (suc n) zero progress done m a b below f new = absurd (no_fuel w progress done m b below f.off new)
visit_same w bounded (suc n) (suc k) progress done m a b below f new =
    let named : (list_all (is_within (length w)) (node_at w m).hard ≡ true) × (list_all (is_within (length w)) (node_at w m).pre ≡ true) × (list_all (is_within (length w)) (node_at w m).post ≡ true) = named_within w m bounded in
    let inner : (d : List ℕ) (q : ℕ) → IsPlanned w n (m ∷ progress) d → IsPlanned w k (m ∷ progress) d → q < length w → IsFree w (m ∷ progress) q → has d q ≡ false → visit w n (m ∷ progress) d (Slot q) ≡ visit w k (m ∷ progress) d (Slot q) = λ d q. visit_same w bounded n k (m ∷ progress) d q in
    let outer : (d : List ℕ) (q : ℕ) → IsPlanned w n progress d → IsPlanned w k progress d → q < length w → IsFree w progress q → has d q ≡ false → visit w n progress d (Slot q) ≡ visit w k progress d (Slot q) = λ d q. visit_same w bounded n k progress d q in
    let pre : List Target = (node_at w m).pre in
    let hard : List Target = (node_at w m).hard in
    let post : List Target = (node_at w m).post in
    let an : IsPlanned w n (m ∷ progress) done = begins w n progress done m a below f new in
    let ak : IsPlanned w k (m ∷ progress) done = begins w k progress done m b below f new in
    let first : List ℕ = each_soft w (m ∷ progress) (visit w n (m ∷ progress)) done pre in
    let first_is : first ≡ each_soft w (m ∷ progress) (visit w k (m ∷ progress)) done pre = soft_same w n k (m ∷ progress) bounded inner pre done named.1 an ak in
    let bn : IsPlanned w n (m ∷ progress) first × Grows done first = soft_steps w n (m ∷ progress) bounded (visits w bounded n) pre done named.1 an in
    let bk0 : IsPlanned w k (m ∷ progress) (each_soft w (m ∷ progress) (visit w k (m ∷ progress)) done pre) × Grows done (each_soft w (m ∷ progress) (visit w k (m ∷ progress)) done pre) = soft_steps w k (m ∷ progress) bounded (visits w bounded k) pre done named.1 ak in
    let bk : IsPlanned w k (m ∷ progress) first = subst (IsPlanned w k (m ∷ progress)) (sym first_is) bk0.0 in
    let second : List ℕ = each_hard (visit w n (m ∷ progress)) first hard in
    let second_is : second ≡ each_hard (visit w k (m ∷ progress)) first hard = hard_same w n k progress m bounded f inner hard first named.0 f.hard bn.0 bk in
    let cn : IsPlanned w n (m ∷ progress) second × Grows first second × (list_all (is_in second) hard ≡ true) = hard_steps w n progress m (visits w bounded n) f hard first named.0 f.hard bn.0 in
    let ck0 : IsPlanned w k (m ∷ progress) (each_hard (visit w k (m ∷ progress)) first hard) × Grows first (each_hard (visit w k (m ∷ progress)) first hard) × (list_all (is_in (each_hard (visit w k (m ∷ progress)) first hard)) hard ≡ true) = hard_steps w k progress m (visits w bounded k) f hard first named.0 f.hard bk in
    let ck : IsPlanned w k (m ∷ progress) second = subst (IsPlanned w k (m ∷ progress)) (sym second_is) ck0.0 in
    let third : List ℕ = second ++ m ∷ [] in
    let grown : Grows done second = Grows-trans bn.1 cn.1 in
    let dn : IsPlanned w n progress third × Grows done third = appends w n progress done second m a below f cn.0 grown cn.2 in
    let dk : IsPlanned w k progress third × Grows done third = appends w k progress done second m b below f ck grown cn.2 in
    soft_same w n k progress bounded outer post third named.2 dn.0 dk.0
    ∙ ap (λ d. each_soft w progress (visit w k progress) (d ++ m ∷ []) post) (second_is ∙ ap (λ d. each_hard (visit w k (m ∷ progress)) d hard) first_is)
