-- A plan reads of a graph only what its module reaches.
use Rattle.std.proofs.Common.{◌≡◌, ℕ, zero, suc, Bool, true, false, cond, not, ◌&&◌, List, [], ◌∷◌, ◌++◌, length, reverse, Result, Ok, Err, refl, ◌∙◌, ap}
use Rattle.std.specs.List.{list_all}
use Rattle.load_plan.specs.declared.graph.Target.{Target}
use Rattle.load_plan.specs.declared.graph.Target.TheVariants.{Slot, Missing}
use Rattle.load_plan.specs.declared.refusal.PlanRefusal.{PlanRefusal}
use Rattle.load_plan.specs.declared.refusal.PlanRefusal.TheVariants.{Cycle, Install}
use Rattle.load_plan.specs.Graph.{Node, node_at}
use Rattle.load_plan.specs.Walk.{◌>>=◌, has, walk_each, walk, hard_walk}
use Rattle.load_plan.specs.Plan.{is_free, is_clean, each_soft, is_done, each_hard, visit, marked, plan, removal_plan}
use Rattle.load_plan.specs.Parts.{is_target_in, names_in, IsPart}
use Rattle.load_plan.proofs.Lists.{and_true}

-- what comes of each target in order, if two ways agree on the targets
walk_each-same : (p : Target → Bool) (f g : List ℕ → Target → Result (List ℕ) PlanRefusal) → ((done : List ℕ) (t : Target) → p t ≡ true → f done t ≡ g done t) → (ts : List Target) (done : List ℕ) → list_all p ts ≡ true → walk_each f done ts ≡ walk_each g done ts
walk_each-same p f g same [] done h = refl
walk_each-same p f g same (t ∷ ts) done h =
    let both : (p t ≡ true) × (list_all p ts ≡ true) = and_true (p t) (list_all p ts) h in
    ap (λ r. r >>= λ d. walk_each f d ts) (same done t both.0) ∙ behind (λ d. walk_each-same p f g same ts d both.1) (g done t)
  where
    behind : ((d : List ℕ) → walk_each f d ts ≡ walk_each g d ts) → (r : Result (List ℕ) PlanRefusal) → (r >>= λ d. walk_each f d ts) ≡ (r >>= λ d. walk_each g d ts)
    behind more (Ok d) = more d
    behind more (Err e) = refl

each_hard-same : (p : Target → Bool) (f g : List ℕ → Target → List ℕ) → ((done : List ℕ) (t : Target) → p t ≡ true → f done t ≡ g done t) → (ts : List Target) (done : List ℕ) → list_all p ts ≡ true → each_hard f done ts ≡ each_hard g done ts
each_hard-same p f g same [] done h = refl
each_hard-same p f g same (t ∷ ts) done h =
    let both : (p t ≡ true) × (list_all p ts ≡ true) = and_true (p t) (list_all p ts) h in
    ap (λ d. each_hard f (cond (is_done done t) done d) ts) (same done t both.0) ∙ each_hard-same p f g same ts (cond (is_done done t) done (g done t)) both.1

-- what a module of a part names is in the part
pub hard_in : (p : ℕ → Bool) (node : Node) → names_in p node ≡ true → list_all (is_target_in p) node.hard ≡ true
hard_in p node h = (and_true (list_all (is_target_in p) node.hard) (list_all (is_target_in p) node.pre) (and_true (list_all (is_target_in p) node.hard && list_all (is_target_in p) node.pre) (list_all (is_target_in p) node.post) h).0).0

pub pre_in : (p : ℕ → Bool) (node : Node) → names_in p node ≡ true → list_all (is_target_in p) node.pre ≡ true
pre_in p node h = (and_true (list_all (is_target_in p) node.hard) (list_all (is_target_in p) node.pre) (and_true (list_all (is_target_in p) node.hard && list_all (is_target_in p) node.pre) (list_all (is_target_in p) node.post) h).0).1

pub post_in : (p : ℕ → Bool) (node : Node) → names_in p node ≡ true → list_all (is_target_in p) node.post ≡ true
post_in p node h = (and_true (list_all (is_target_in p) node.hard && list_all (is_target_in p) node.pre) (list_all (is_target_in p) node.post) h).1

walk-part : (w v : List Node) (p : ℕ → Bool) → IsPart w v p → (tests : Bool) (n : ℕ) (way done : List ℕ) (t : Target) → is_target_in p t ≡ true → walk v tests n way done t ≡ walk w tests n way done t
walk-part w v p part tests zero way done (Missing name) h = refl
walk-part w v p part tests zero way done (Slot m) h = refl
walk-part w v p part tests (suc n) way done (Missing name) h = refl
walk-part w v p part tests (suc n) way done (Slot m) h =
    ap (λ (x : Node). cond (has done m) (Ok done) (cond (has way m) (Err (Cycle m)) (cond (tests && x.installs) (Err (Install m)) (walk_each (walk v tests n (m ∷ way)) done x.hard >>= λ d. Ok (d ++ m ∷ []))))) (part.same m h)
    ∙ ap (λ r. cond (has done m) (Ok done) (cond (has way m) (Err (Cycle m)) (cond (tests && (node_at w m).installs) (Err (Install m)) (r >>= λ d. Ok (d ++ m ∷ [])))))
    (walk_each-same (is_target_in p) (walk v tests n (m ∷ way)) (walk w tests n (m ∷ way)) (λ d t k. walk-part w v p part tests n (m ∷ way) d t k) (node_at w m).hard done (hard_in p (node_at w m) (part.closed m h)))

pub hard_walk-part : (w v : List Node) (p : ℕ → Bool) → IsPart w v p → (tests : Bool) (t : Target) → is_target_in p t ≡ true → hard_walk v tests t ≡ hard_walk w tests t
hard_walk-part w v p part tests t h =
    ap (λ n. walk v tests n [] [] t) part.long ∙ walk-part w v p part tests (length w) [] [] t h

clean-part : (w v : List Node) (p : ℕ → Bool) → IsPart w v p → (progress done : List ℕ) (t : Target) → is_target_in p t ≡ true → is_clean v progress done t ≡ is_clean w progress done t
clean-part w v p part progress done (Missing name) h = refl
clean-part w v p part progress done (Slot m) h =
    ap (λ r. not (has done m) && is_free progress r) (hard_walk-part w v p part true (Slot m) h)

each_soft-part : (w v : List Node) (p : ℕ → Bool) → IsPart w v p → (progress : List ℕ) (f g : List ℕ → Target → List ℕ) → ((done : List ℕ) (t : Target) → is_target_in p t ≡ true → f done t ≡ g done t) → (ts : List Target) (done : List ℕ) → list_all (is_target_in p) ts ≡ true → each_soft v progress f done ts ≡ each_soft w progress g done ts
each_soft-part w v p part progress f g same [] done h = refl
each_soft-part w v p part progress f g same (t ∷ ts) done h =
    let both : (is_target_in p t ≡ true) × (list_all (is_target_in p) ts ≡ true) = and_true (is_target_in p t) (list_all (is_target_in p) ts) h in
    ap (λ b. each_soft v progress f (cond b (f done t) done) ts) (clean-part w v p part progress done t both.0)
    ∙ ap (λ d. each_soft v progress f (cond (is_clean w progress done t) d done) ts) (same done t both.0)
    ∙ each_soft-part w v p part progress f g same ts (cond (is_clean w progress done t) (g done t) done) both.1

visit-part : (w v : List Node) (p : ℕ → Bool) → IsPart w v p → (n : ℕ) (progress done : List ℕ) (t : Target) → is_target_in p t ≡ true → visit v n progress done t ≡ visit w n progress done t
visit-part w v p part zero progress done t h = refl
visit-part w v p part (suc n) progress done (Missing name) h = refl
visit-part w v p part (suc n) progress done (Slot m) h =
    let all : names_in p (node_at w m) ≡ true = part.closed m h in
    let pre_v : List ℕ = each_soft v (m ∷ progress) (visit v n (m ∷ progress)) done (node_at w m).pre in
    let pre_w : List ℕ = each_soft w (m ∷ progress) (visit w n (m ∷ progress)) done (node_at w m).pre in
    let before : pre_v ≡ pre_w = each_soft-part w v p part (m ∷ progress) (visit v n (m ∷ progress)) (visit w n (m ∷ progress)) (λ d t k. visit-part w v p part n (m ∷ progress) d t k) (node_at w m).pre done (pre_in p (node_at w m) all) in
    let under : each_hard (visit v n (m ∷ progress)) pre_w (node_at w m).hard ≡ each_hard (visit w n (m ∷ progress)) pre_w (node_at w m).hard = each_hard-same (is_target_in p) (visit v n (m ∷ progress)) (visit w n (m ∷ progress)) (λ d t k. visit-part w v p part n (m ∷ progress) d t k) (node_at w m).hard pre_w (hard_in p (node_at w m) all) in
    ap (λ (x : Node). each_soft v progress (visit v n progress) (each_hard (visit v n (m ∷ progress)) (each_soft v (m ∷ progress) (visit v n (m ∷ progress)) done x.pre) x.hard ++ m ∷ []) x.post) (part.same m h)
    ∙ ap (λ d. each_soft v progress (visit v n progress) (each_hard (visit v n (m ∷ progress)) d (node_at w m).hard ++ m ∷ []) (node_at w m).post) before
    ∙ ap (λ d. each_soft v progress (visit v n progress) (d ++ m ∷ []) (node_at w m).post) under
    ∙ each_soft-part w v p part progress (visit v n progress) (visit w n progress) (λ d t k. visit-part w v p part n progress d t k) (node_at w m).post (each_hard (visit w n (m ∷ progress)) pre_w (node_at w m).hard ++ m ∷ []) (post_in p (node_at w m) all)

-- the plans of a module of the part are those of the whole
pub plan-part : (w v : List Node) (p : ℕ → Bool) (m : ℕ) → IsPart w v p → p m ≡ true → plan v (Slot m) ≡ plan w (Slot m)
plan-part w v p m part h =
    ap (λ r. r >>= λ reached. Ok (marked reached (visit v (length v) [] [] (Slot m)))) (hard_walk-part w v p part true (Slot m) h)
    ∙ ap (λ l. hard_walk w true (Slot m) >>= λ reached. Ok (marked reached l)) (ap (λ n. visit v n [] [] (Slot m)) part.long ∙ visit-part w v p part (length w) [] [] (Slot m) h)

pub removal-part : (w v : List Node) (p : ℕ → Bool) (m : ℕ) → IsPart w v p → p m ≡ true → removal_plan v (Slot m) ≡ removal_plan w (Slot m)
removal-part w v p m part h =
    ap (λ r. r >>= λ reached. Ok (reverse reached)) (hard_walk-part w v p part false (Slot m) h)
