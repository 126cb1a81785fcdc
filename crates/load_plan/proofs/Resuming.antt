-- What a visit gives that goes on from a stack of its own.
use Rattle.std.proofs.Common.{◌≡◌, ℕ, suc, ◌-◌, ◌≤◌, Bool, true, false, cond, not, List, [], ◌∷◌, ◌++◌, length, refl, ◌∙◌, ap, arith}
use Rattle.load_plan.specs.declared.graph.Target.{Target}
use Rattle.load_plan.specs.declared.graph.Target.TheVariants.{Slot}
use Rattle.load_plan.specs.declared.graph.Phase.{Phase}
use Rattle.load_plan.specs.declared.graph.Phase.TheVariants.{Pre, Hard, Post}
use Rattle.load_plan.specs.declared.visit.Stage.{Stage}
use Rattle.load_plan.specs.Graph.{Node, node_at}
use Rattle.load_plan.specs.Plan.{is_done, each_soft, each_hard, visit}
use Rattle.load_plan.specs.VisitSteps.{left_of, next_stage, first_stage, Leads, is_taken}

abbrev pub slots_of : List Stage → List ℕ
slots_of [] = []
slots_of (s ∷ ss) = s.slot ∷ slots_of ss

-- the modules in progress when the stage is on top
abbrev pub with_phase : Phase → ℕ → List ℕ → List ℕ
with_phase Pre m progress = m ∷ progress
with_phase Hard m progress = m ∷ progress
with_phase Post m progress = progress

abbrev pub progress_of : List Stage → List ℕ
progress_of [] = []
progress_of (s ∷ ss) = with_phase s.phase s.slot (progress_of ss)

-- a step for each target of a phase
abbrev pub each_of : List Node → ℕ → Phase → ℕ → List ℕ → List ℕ → List Target → List ℕ
each_of w n Pre m below done ts = each_soft w (m ∷ below) (visit w n (m ∷ below)) done ts
each_of w n Hard m below done ts = each_hard (visit w n (m ∷ below)) done ts
each_of w n Post m below done ts = each_soft w below (visit w n below) done ts

-- what comes behind the hard dependencies, and what comes behind a phase
abbrev pub behind_hard : List Node → ℕ → ℕ → List ℕ → List ℕ → List ℕ
behind_hard w n m below done = each_of w n Post m below (done ++ m ∷ []) (node_at w m).post

abbrev pub behind_of : List Node → ℕ → Phase → ℕ → List ℕ → List ℕ → List ℕ
behind_of w n Post m below done = done
behind_of w n Hard m below done = behind_hard w n m below done
behind_of w n Pre m below done = behind_hard w n m below (each_of w n Hard m below done (node_at w m).hard)

-- what the visit of a stage makes of the list from here
abbrev pub finish : List Node → ℕ → Stage → List ℕ → List ℕ → List ℕ
finish w n s below done = behind_of w n s.phase s.slot below (each_of w n s.phase s.slot below done (left_of w s))

-- what the visit gives that goes on from a stack
abbrev pub resume : List Node → List Stage → List ℕ → List ℕ
resume w [] done = done
resume w (s ∷ ss) done = resume w ss (finish w (length w - suc (length ss)) s (progress_of ss) done)

cond-not : {A : Type 0} (b : Bool) (x y : A) → cond b x y ≡ cond (not b) y x
cond-not true x y = refl
cond-not false x y = refl

-- the first target of a phase is visited if it is taken, and passed if not
each-first : (w : List Node) (n : ℕ) (phase : Phase) (m : ℕ) (below done : List ℕ) (t : Target) (ts : List Target) → each_of w n phase m below done (t ∷ ts) ≡ each_of w n phase m below (cond (is_taken w (with_phase phase m below) done phase t) (visit w n (with_phase phase m below) done t) done) ts
each-first w n Pre m below done t ts = refl
each-first w n Hard m below done t ts = ap (λ d. each_hard (visit w n (m ∷ below)) d ts) (cond-not (is_done done t) done (visit w n (m ∷ below) done t))
each-first w n Post m below done t ts = refl

finish-first : (w : List Node) (n : ℕ) (s : Stage) (below done : List ℕ) (t : Target) → Leads w s t → finish w n s below done ≡ finish w n (next_stage s) below (cond (is_taken w (with_phase s.phase s.slot below) done s.phase t) (visit w n (with_phase s.phase s.slot below) done t) done)
finish-first w n s below done t leads =
    ap (λ ts. behind_of w n s.phase s.slot below (each_of w n s.phase s.slot below done ts)) leads
    ∙ ap (behind_of w n s.phase s.slot below) (each-first w n s.phase s.slot below done t (left_of w (next_stage s)))

each-none : (w : List Node) (n : ℕ) (phase : Phase) (m : ℕ) (below done : List ℕ) → each_of w n phase m below done [] ≡ done
each-none w n Pre m below done = refl
each-none w n Hard m below done = refl
each-none w n Post m below done = refl

finish-over : (w : List Node) (n : ℕ) (s : Stage) (below done : List ℕ) → left_of w s ≡ [] → finish w n s below done ≡ behind_of w n s.phase s.slot below done
finish-over w n s below done over =
    ap (λ ts. behind_of w n s.phase s.slot below (each_of w n s.phase s.slot below done ts)) over ∙ ap (behind_of w n s.phase s.slot below) (each-none w n s.phase s.slot below done)

pub resume-pass : (w : List Node) (s : Stage) (ss : List Stage) (done : List ℕ) (t : Target) → Leads w s t → is_taken w (progress_of (s ∷ ss)) done s.phase t ≡ false → resume w (s ∷ ss) done ≡ resume w (next_stage s ∷ ss) done
resume-pass w s ss done t leads passed =
    ap (resume w ss) (finish-first w (length w - suc (length ss)) s (progress_of ss) done t leads
    ∙ ap (λ b. finish w (length w - suc (length ss)) (next_stage s) (progress_of ss) (cond b (visit w (length w - suc (length ss)) (progress_of (s ∷ ss)) done t) done)) passed)

pub resume-enter : (w : List Node) (s : Stage) (ss : List Stage) (done : List ℕ) (m : ℕ) → Leads w s (Slot m) → is_taken w (progress_of (s ∷ ss)) done s.phase (Slot m) ≡ true → suc (suc (length ss)) ≤ length w → resume w (s ∷ ss) done ≡ resume w (first_stage Pre m ∷ next_stage s ∷ ss) done
resume-enter w s ss done m leads taken room =
    let fuel : length w - suc (length ss) ≡ suc (length w - suc (suc (length ss))) = omega arith in
    ap (resume w ss) (finish-first w (length w - suc (length ss)) s (progress_of ss) done (Slot m) leads
    ∙ ap (λ b. finish w (length w - suc (length ss)) (next_stage s) (progress_of ss) (cond b (visit w (length w - suc (length ss)) (progress_of (s ∷ ss)) done (Slot m)) done)) taken
    ∙ ap (λ n. finish w (length w - suc (length ss)) (next_stage s) (progress_of ss) (visit w n (progress_of (s ∷ ss)) done (Slot m))) fuel)

pub resume-turn : (w : List Node) (s : Stage) (ss : List Stage) (done : List ℕ) → s.phase ≡ Pre → left_of w s ≡ [] → resume w (s ∷ ss) done ≡ resume w (first_stage Hard s.slot ∷ ss) done
resume-turn w s ss done phase over =
    let n : ℕ = length w - suc (length ss) in
    ap (resume w ss) (finish-over w n s (progress_of ss) done over ∙ ap (λ p. behind_of w n p s.slot (progress_of ss) done) phase)

pub resume-append : (w : List Node) (s : Stage) (ss : List Stage) (done : List ℕ) → s.phase ≡ Hard → left_of w s ≡ [] → resume w (s ∷ ss) done ≡ resume w (first_stage Post s.slot ∷ ss) (done ++ s.slot ∷ [])
resume-append w s ss done phase over =
    let n : ℕ = length w - suc (length ss) in
    ap (resume w ss) (finish-over w n s (progress_of ss) done over ∙ ap (λ p. behind_of w n p s.slot (progress_of ss) done) phase)

pub resume-leave : (w : List Node) (s : Stage) (ss : List Stage) (done : List ℕ) → s.phase ≡ Post → left_of w s ≡ [] → resume w (s ∷ ss) done ≡ resume w ss done
resume-leave w s ss done phase over =
    let n : ℕ = length w - suc (length ss) in
    ap (resume w ss) (finish-over w n s (progress_of ss) done over ∙ ap (λ p. behind_of w n p s.slot (progress_of ss) done) phase)
