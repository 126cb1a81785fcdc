-- If no soft item is a module of the graph, a visit gives what the hard walk gives.
use Rattle.std.proofs.Common.{◌≡◌, ℕ, zero, suc, ◌<◌, true, false, List, [], ◌∷◌, ◌++◌, length, if◌then◌else◌, Result, Ok, Err, refl, sym, ◌∙◌, ap, arith, inl, inr, Bool, IfOk}
use Rattle.std.specs.List.{All, list_all}
use Rattle.load_plan.specs.declared.graph.Target.{Target}
use Rattle.load_plan.specs.declared.graph.Target.TheVariants.{Slot, Missing}
use Rattle.load_plan.specs.declared.refusal.PlanRefusal.{PlanRefusal}
use Rattle.load_plan.specs.declared.refusal.PlanRefusal.TheVariants.{Cycle, Install, Unknown}
use Rattle.load_plan.specs.declared.refusal.WalkError.{WalkError}
use Rattle.load_plan.specs.declared.walk.Walked.{Walked}
use Rattle.load_plan.specs.Results.{Gives}
use Rattle.load_plan.specs.Graph.{Node, node_at, is_bounded}
use Rattle.load_plan.specs.Walk.{◌>>=◌, has, walk_each, walk, hard_walk}
use Rattle.load_plan.specs.Plan.{each_soft, each_hard, visit}
use Rattle.load_plan.specs.SoftModules.{is_missing, names_no_soft_module, HasNoSoftModules}
use Rattle.std.proofs.lemmas.List.Folds.{list_all-append}
use Rattle.load_plan.proofs.Lists.{and_true, either_way, all_below}
use Rattle.load_plan.specs.Laws.{start}
use Rattle.load_plan.proofs.Clean.{lt-makes}
use Rattle.load_plan.proofs.Orders.{Extends, walk_extends}
use Rattle.load_plan.proofs.Walking.{walk-passed, walk-cycle, walk-unknown, walk-install, walk-enter}

-- a slot past the end names nothing
none_anywhere : (w : List Node) → HasNoSoftModules w → (m : ℕ) → names_no_soft_module (node_at w m) ≡ true
none_anywhere [] none m = refl
none_anywhere (x ∷ xs) none zero = none zero (omega arith)
none_anywhere (x ∷ xs) none (suc m) = none_anywhere xs (λ k h. none (suc k) (omega (arith, h))) m

passes_soft : (w : List Node) (progress : List ℕ) (go : List ℕ → Target → List ℕ) (done : List ℕ) (ts : List Target) → list_all is_missing ts ≡ true → each_soft w progress go done ts ≡ done
passes_soft w progress go done [] h = refl
passes_soft w progress go done (Slot m ∷ ts) h = absurd (cc)
passes_soft w progress go done (Missing name ∷ ts) h = passes_soft w progress go done ts h

-- what a visit at some fuel gives is what the walk at this fuel gives, if that has no fault
abbrev AreSame : List Node → ℕ → Type 0
AreSame w n = (way progress done : List ℕ) (m : ℕ) (after : List ℕ) → has done m ≡ false → walk w true n way done (Slot m) ≡ Ok after → visit w n progress done (Slot m) ≡ after

ok_same : (r : Result (List ℕ) PlanRefusal) (a b : List ℕ) → r ≡ Ok a → r ≡ Ok b → a ≡ b
ok_same r a b g h = cc

-- a hard dependency that is new is visited as it is walked
each_new : (w : List Node) (n : ℕ) → AreSame w n → (way progress : List ℕ) (ts : List Target) (done after : List ℕ) (m : ℕ)
    → ((d : List ℕ) → walk_each (walk w true n way) d ts ≡ Ok after → each_hard (visit w n progress) d ts ≡ after)
    → (r : Result (List ℕ) PlanRefusal) → walk w true n way done (Slot m) ≡ r → has done m ≡ false
    → (walk w true n way done (Slot m) >>= λ d. walk_each (walk w true n way) d ts) ≡ Ok after
    → each_hard (visit w n progress) (visit w n progress done (Slot m)) ts ≡ after
each_new w n same way progress ts done after m later (Err e) is new h =
    let no : Err e ≡ Ok after = sym (ap (λ r. r >>= λ d. walk_each (walk w true n way) d ts) is) ∙ h in
    absurd (cc)
each_new w n same way progress ts done after m later (Ok d) is new h =
    let on : walk_each (walk w true n way) d ts ≡ Ok after = sym (ap (λ r. r >>= λ d. walk_each (walk w true n way) d ts) is) ∙ h in
    ap (λ l. each_hard (visit w n progress) l ts) (same way progress done m d new is) ∙ later d on

each_same : (w : List Node) (n : ℕ) → AreSame w n → (way progress : List ℕ) (ts : List Target) (done after : List ℕ) → walk_each (walk w true n way) done ts ≡ Ok after → each_hard (visit w n progress) done ts ≡ after
each_same w n same way progress [] done after h = ok_same (Ok done) done after refl h
each_same w n same way progress (Missing name ∷ ts) done after h =
    let no : Err (Unknown name) ≡ Ok after = sym (ap (λ r. r >>= λ d. walk_each (walk w true n way) d ts) (walk-unknown w true n way done name)) ∙ h in
    absurd (cc)
each_same w n same way progress (Slot m ∷ ts) done after h = elim (either_way (has done m)) [
  | inl t ↦ (let on : walk_each (walk w true n way) done ts ≡ Ok after = sym (ap (λ r. r >>= λ d. walk_each (walk w true n way) d ts) (walk-passed w true n way done m t)) ∙ h in
      ap (λ b. each_hard (visit w n progress) (if b then done else visit w n progress done (Slot m)) ts) t ∙ each_same w n same way progress ts done after on)
  | inr t ↦ ap (λ b. each_hard (visit w n progress) (if b then done else visit w n progress done (Slot m)) ts) t
      ∙ each_new w n same way progress ts done after m (λ d on. each_same w n same way progress ts d after on) (walk w true n way done (Slot m)) refl t h
]

-- a module that the walk enters
enters_same : (w : List Node) → ((m : ℕ) → names_no_soft_module (node_at w m) ≡ true) → (n : ℕ) → AreSame w n → (way progress done : List ℕ) (m : ℕ) (after : List ℕ)
    → (r : Result (List ℕ) PlanRefusal) → walk_each (walk w true n (m ∷ way)) done (node_at w m).hard ≡ r
    → (walk_each (walk w true n (m ∷ way)) done (node_at w m).hard >>= λ d. Ok (d ++ m ∷ [])) ≡ Ok after
    → visit w (suc n) progress done (Slot m) ≡ after
enters_same w none n same way progress done m after (Err e) is h =
    let no : Err e ≡ Ok after = sym (ap (λ r. r >>= λ d. Ok (d ++ m ∷ [])) is) ∙ h in
    absurd (cc)
enters_same w none n same way progress done m after (Ok d) is h =
    let soft : (list_all is_missing (node_at w m).pre ≡ true) × (list_all is_missing (node_at w m).post ≡ true) = and_true (list_all is_missing (node_at w m).pre) (list_all is_missing (node_at w m).post) (sym (list_all-append is_missing (node_at w m).pre (node_at w m).post) ∙ none m) in
    let go : List ℕ → Target → List ℕ = visit w n (m ∷ progress) in
    let last : (d ++ m ∷ []) ≡ after = ok_same (Ok (d ++ m ∷ [])) (d ++ m ∷ []) after refl (sym (ap (λ r. r >>= λ d. Ok (d ++ m ∷ [])) is) ∙ h) in
    passes_soft w progress (visit w n progress) (each_hard go (each_soft w (m ∷ progress) go done (node_at w m).pre) (node_at w m).hard ++ m ∷ []) (node_at w m).post soft.1
    ∙ ap (λ l. each_hard go l (node_at w m).hard ++ m ∷ []) (passes_soft w (m ∷ progress) go done (node_at w m).pre soft.0)
    ∙ ap (λ l. l ++ m ∷ []) (each_same w n same (m ∷ way) (m ∷ progress) (node_at w m).hard done d is)
    ∙ last

visits_same : (w : List Node) → ((m : ℕ) → names_no_soft_module (node_at w m) ≡ true) → (n : ℕ) → AreSame w n
visits_same w none zero way progress done m after new h =
    let no : Err (Cycle m) ≡ Ok after = sym (ap (λ b. if b then Ok done else Err (Cycle m)) new) ∙ h in
    absurd (cc)
visits_same w none (suc n) way progress done m after new h = elim (either_way (has way m)) [
  | inl t ↦ (let no : Err (Cycle m) ≡ Ok after = sym (walk-cycle w true (suc n) way done m new t) ∙ h in absurd (cc))
  | inr t ↦ elim (either_way (node_at w m).installs) [
    | inl u ↦ (let no : Err (Install m) ≡ Ok after = sym (walk-install w true n way done m new t u) ∙ h in absurd (cc))
    | inr u ↦ enters_same w none n (visits_same w none n) way progress done m after (walk_each (walk w true n (m ∷ way)) done (node_at w m).hard) refl (sym (walk-enter w true n way done m new t u) ∙ h)
  ]
]

pub visit_is_walk : (w : List Node) (m : ℕ) (reached : List ℕ) → HasNoSoftModules w → hard_walk w true (Slot m) ≡ Ok reached → visit w (length w) [] [] (Slot m) ≡ reached
visit_is_walk w m reached none h = visits_same w (none_anywhere w none) (length w) [] [] [] m reached refl h

-- the modules of a walk are of the graph
pub walked_within : (w : List Node) (tests : Bool) (m : ℕ) (r : Result Walked WalkError) → is_bounded w ≡ true → m < length w → Gives (λ (x : Walked). x.order.items) r (hard_walk w tests (Slot m)) → IfOk r (λ x. All (λ q. q < length w) x.order.items)
walked_within w tests m (Err e) bounded below gives = tt
walked_within w tests m (Ok x) bounded below gives =
    let e : Extends w tests [] [] x.order.items = (walk_extends w tests bounded (length w) [] [] (Slot m) x.order.items (lt-makes m (length w) below) start (λ p g. refl) gives).0 in
    all_below (length w) x.order.items (λ q g. (e.entered (λ p k. absurd (cc)) q g).0)
