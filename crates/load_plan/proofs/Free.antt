-- What the visit of a module stands on.
use Rattle.std.proofs.Common.{◌≡◌, ℕ, ◌<◌, true, false, not, List, ◌∷◌, length, Result, Ok, Err, refl, sym, ◌∙◌, subst, inl, inr}
use Rattle.std.specs.List.{list_all, list_any}
use Rattle.std.proofs.lemmas.Bool.Decides.{eqb_tells}
use Rattle.load_plan.specs.declared.graph.Target.TheVariants.{Slot}
use Rattle.load_plan.specs.declared.refusal.PlanRefusal.{PlanRefusal}
use Rattle.load_plan.specs.Graph.{Node, node_at, is_bounded}
use Rattle.load_plan.specs.Walk.{has, hard_walk}
use Rattle.load_plan.specs.Plan.{is_free, is_clean}
use Rattle.load_plan.specs.Laws.{is_in, IsOrder}
use Rattle.load_plan.proofs.Lists.{and_true, either_way, not_true, none_passes, has-other}
use Rattle.load_plan.proofs.Orders.{AreEntered, Stands, stands, no_member}
use Rattle.load_plan.proofs.Clean.{Whole, whole_walk}

-- What a module's visit stands on: its hard dependencies, theirs and so on are an order without it, and
-- neither it nor they are in progress or stopped by an install line.
pub record IsFree (w : List Node) (progress : List ℕ) (m : ℕ) : Type 0 where
  pub below : List ℕ
  pub order : IsOrder w below
  pub new : has below m ≡ false
  pub hard : list_all (is_in below) (node_at w m).hard ≡ true
  pub apart : (q : ℕ) → has progress q ≡ true → has below q ≡ false
  pub off : has progress m ≡ false
  pub entered : AreEntered w below
  pub own : (node_at w m).installs ≡ false

-- a module in progress, or the one that begins, is not in the order
apart_cons : (below : List ℕ) (m : ℕ) (progress : List ℕ) (q : ℕ) → has below m ≡ false → ((x : ℕ) → has progress x ≡ true → has below x ≡ false) → has (m ∷ progress) q ≡ true → has below q ≡ false
apart_cons below m progress q new apart h = elim (eqb_tells q m) [
  | inl t ↦ subst (λ x. has below x ≡ false) (sym t.1) new
  | inr t ↦ apart q (sym (has-other progress m q t.0) ∙ h)
]

-- each hard dependency of a free module is free while the module is in progress
pub free_hard : (w : List Node) (progress : List ℕ) (m d : ℕ) (f : IsFree w progress m) → has f.below d ≡ true → IsFree w (m ∷ progress) d
free_hard w progress m d f h =
    let s : Stands w f.below d = stands w f.below d f.order h in
    record {
      below = s.below;
      order = s.order;
      new = s.new;
      hard = s.hard;
      apart = λ q g. no_member s.below f.below q s.within (apart_cons f.below m progress q f.new f.apart g);
      off = elim (either_way (has (m ∷ progress) d)) [ inl t ↦ (let u : has f.below d ≡ false = apart_cons f.below m progress d f.new f.apart t in absurd (cc)) | inr t ↦ t ];
      entered = λ q g. f.entered q (s.within q g);
      own = f.entered d h;
    }

pub free_walk : (w : List Node) (progress : List ℕ) (m : ℕ) (r : Result (List ℕ) PlanRefusal) → is_bounded w ≡ true → m < length w → hard_walk w true (Slot m) ≡ r → is_free progress r ≡ true → IsFree w progress m
free_walk w progress m (Err e) bounded below h k = absurd (cc)
free_walk w progress m (Ok reached) bounded below h k =
    let x : Whole w m reached = whole_walk w m reached bounded below h in
    let s : Stands w reached m = stands w reached m x.order x.here in
    let none : (q : ℕ) → has reached q ≡ true → has progress q ≡ false = λ q g. none_passes (has progress) reached q (not_true (list_any (has progress) reached) k) g in
    record {
      below = s.below;
      order = s.order;
      new = s.new;
      hard = s.hard;
      apart = λ q g. elim (either_way (has s.below q)) [ inl t ↦ (let u : has progress q ≡ false = none q (s.within q t) in absurd (cc)) | inr t ↦ t ];
      off = none m x.here;
      entered = λ q g. x.entered q (s.within q g);
      own = x.entered m x.here;
    }

-- a clean item is free
pub free_clean : (w : List Node) (progress done : List ℕ) (m : ℕ) → is_bounded w ≡ true → m < length w → is_clean w progress done (Slot m) ≡ true → IsFree w progress m
free_clean w progress done m bounded below h =
    free_walk w progress m (hard_walk w true (Slot m)) bounded below refl (and_true (not (has done m)) (is_free progress (hard_walk w true (Slot m))) h).1
