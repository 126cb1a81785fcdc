-- A visit with a stack of its own ends.
use Rattle.std.proofs.Common.{◌≡◌, ℕ, suc, ◌+◌, ◌*◌, ◌<◌, ◌≤◌, List, [], ◌∷◌, ◌++◌, length, reverse, set, ◌∙◌, ap, arith}
use Rattle.std.specs.List.{sum_by}
use Rattle.std.proofs.lemmas.List.{reverse-append}
use Rattle.std.proofs.lemmas.List.Sums.{sum_by-set, sum_by-cons, get_or-le-sum_by}
use Rattle.std.proofs.Math.Nat.{mul-le-mul_right, add-mul}
use Rattle.load_plan.specs.declared.graph.Target.{Target}
use Rattle.load_plan.specs.declared.graph.Target.TheVariants.{Slot}
use Rattle.load_plan.specs.declared.walk.Mark.{Mark}
use Rattle.load_plan.specs.declared.walk.Mark.TheVariants.{New, Open, Done}
use Rattle.load_plan.specs.declared.graph.Phase.{Phase}
use Rattle.load_plan.specs.declared.graph.Phase.TheVariants.{Pre, Hard, Post}
use Rattle.load_plan.specs.declared.visit.Stage.{Stage}
use Rattle.load_plan.specs.Graph.{Node, node_at, no_node}
use Rattle.load_plan.specs.ForProofs.{mark_at}
use Rattle.load_plan.specs.VisitSteps.{left_of, next_stage, first_stage, Leads}
use Rattle.load_plan.proofs.Walking.{fresh_of}

-- The measure of a visit: a bound on the targets that are left to visit.
abbrev pub targets : Node → ℕ
targets x = length x.pre + length x.hard + length x.post

abbrev pub links : List Node → ℕ
links w = sum_by targets w

abbrev pub behind_work : List Node → ℕ → Phase → ℕ
behind_work w m Pre = length (node_at w m).hard + length (node_at w m).post + 3
behind_work w m Hard = length (node_at w m).post + 2
behind_work w m Post = 1

abbrev pub stage_work : List Node → Stage → ℕ
stage_work w s = length (left_of w s) + behind_work w s.slot s.phase

abbrev pub work : List Node → List Stage → ℕ
work w ss = sum_by (stage_work w) ss

abbrev pub effort : List Node → List Mark → List Stage → ℕ
effort w marks ss = sum_by fresh_of marks * (links w + 3) + work w ss

work-cons : (w : List Node) (s : Stage) (ss : List Stage) → work w (s ∷ ss) ≡ stage_work w s + work w ss
work-cons w s ss = sum_by-cons (stage_work w) s ss

pub effort-pass : (w : List Node) (marks : List Mark) (s : Stage) (ss : List Stage) (t : Target) → Leads w s t → effort w marks (next_stage s ∷ ss) < effort w marks (s ∷ ss)
effort-pass w marks s ss t leads =
    let shorter : length (left_of w s) ≡ suc (length (left_of w (next_stage s))) = ap length leads in
    omega (arith, shorter, work-cons w s ss, work-cons w (next_stage s) ss)

pub effort-turn : (w : List Node) (marks : List Mark) (s : Stage) (ss : List Stage) → s.phase ≡ Pre → effort w marks (first_stage Hard s.slot ∷ ss) < effort w marks (s ∷ ss)
effort-turn w marks s ss phase =
    let own : behind_work w s.slot s.phase ≡ length (node_at w s.slot).hard + length (node_at w s.slot).post + 3 = ap (behind_work w s.slot) phase in
    omega (arith, own, work-cons w s ss, work-cons w (first_stage Hard s.slot) ss)

pub effort-leave : (w : List Node) (marks : List Mark) (s : Stage) (ss : List Stage) → s.phase ≡ Post → effort w marks ss < effort w marks (s ∷ ss)
effort-leave w marks s ss phase =
    let own : behind_work w s.slot s.phase ≡ 1 = ap (behind_work w s.slot) phase in
    omega (arith, own, work-cons w s ss)

pub effort-append : (w : List Node) (marks : List Mark) (s : Stage) (ss : List Stage) → s.phase ≡ Hard → s.slot < length marks → effort w (set marks s.slot Done) (first_stage Post s.slot ∷ ss) < effort w marks (s ∷ ss)
effort-append w marks s ss phase inside =
    let sums : sum_by fresh_of (set marks s.slot Done) + fresh_of (mark_at marks s.slot) ≡ sum_by fresh_of marks + 0 = sum_by-set fresh_of marks s.slot Done Done inside in
    let fewer : sum_by fresh_of (set marks s.slot Done) ≤ sum_by fresh_of marks = omega arith in
    let times : sum_by fresh_of (set marks s.slot Done) * (links w + 3) ≤ sum_by fresh_of marks * (links w + 3) = mul-le-mul_right (links w + 3) fewer in
    let own : behind_work w s.slot s.phase ≡ length (node_at w s.slot).post + 2 = ap (behind_work w s.slot) phase in
    omega (arith, times, own, work-cons w s ss, work-cons w (first_stage Post s.slot) ss)

pub effort-enter : (w : List Node) (marks : List Mark) (s : Stage) (ss : List Stage) (m : ℕ) → Leads w s (Slot m) → mark_at marks m ≡ New → m < length w → m < length marks → effort w (set marks m Open) (first_stage Pre m ∷ next_stage s ∷ ss) < effort w marks (s ∷ ss)
effort-enter w marks s ss m leads mark within inside =
    let sums : sum_by fresh_of (set marks m Open) + fresh_of (mark_at marks m) ≡ sum_by fresh_of marks + 0 = sum_by-set fresh_of marks m Open Done inside in
    let one : fresh_of (mark_at marks m) ≡ 1 = ap fresh_of mark in
    let fewer : sum_by fresh_of marks ≡ sum_by fresh_of (set marks m Open) + 1 = omega arith in
    let times : sum_by fresh_of marks * (links w + 3) ≡ sum_by fresh_of (set marks m Open) * (links w + 3) + 1 * (links w + 3) = ap (λ x. x * (links w + 3)) fewer ∙ add-mul (sum_by fresh_of (set marks m Open)) 1 (links w + 3) in
    let shorter : length (left_of w s) ≡ suc (length (left_of w (next_stage s))) = ap length leads in
    let most : targets (node_at w m) ≤ links w = get_or-le-sum_by targets w m no_node within in
    omega (arith, times, shorter, most, work-cons w s ss, work-cons w (first_stage Pre m) (next_stage s ∷ ss), work-cons w (next_stage s) ss)

-- a stack in a vector has its top last
abbrev pub stack_of : List Stage → List Stage
stack_of stages = reverse stages

reverse-last : (ss : List Stage) (s : Stage) → reverse (ss ++ s ∷ []) ≡ s ∷ reverse ss
reverse-last ss s = reverse-append ss (s ∷ [])

pub stack-pop : (new : List Stage) {old : List Stage} {s : Stage} → old ≡ new ++ s ∷ [] → stack_of old ≡ s ∷ stack_of new
stack-pop new {old} {s} e = ap reverse e ∙ reverse-last new s

pub stack-push : (old : List Stage) {new : List Stage} {s : Stage} → new ≡ old ++ s ∷ [] → stack_of new ≡ s ∷ stack_of old
stack-push old {new} {s} e = ap reverse e ∙ reverse-last old s
