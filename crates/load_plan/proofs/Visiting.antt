-- A visit with a stack of its own gives what the recursion gives.
use Rattle.std.proofs.Common.{◌≡◌, ℕ, zero, suc, ◌+◌, ◌-◌, ◌<◌, ◌≤◌, true, false, not, nat_eq, List, [], ◌∷◌, ◌++◌, length, drop, take, set, length-set, Ok, refl, sym, ◌∙◌, ap, subst, arith, inl, inr}
use Rattle.std.specs.List.{list_all, list_any, IsDistinct}
use Rattle.std.proofs.lemmas.Bool.Decides.{eqb_tells}
use Rattle.std.proofs.lemmas.Map.Keys.{IsDistinct-cons, IsDistinct-head, IsDistinct-tail}
use Rattle.load_plan.specs.declared.graph.Target.{Target}
use Rattle.load_plan.specs.declared.graph.Target.TheVariants.{Slot, Missing}
use Rattle.load_plan.specs.declared.walk.Mark.{Mark}
use Rattle.load_plan.specs.declared.walk.Mark.TheVariants.{New, Open, Done}
use Rattle.load_plan.specs.declared.graph.Phase.{Phase}
use Rattle.load_plan.specs.declared.graph.Phase.TheVariants.{Pre, Hard, Post}
use Rattle.load_plan.specs.declared.visit.Stage.{Stage}
use Rattle.load_plan.specs.declared.visit.Move.{Move}
use Rattle.load_plan.specs.declared.visit.Move.TheVariants.{Turn, Pass, Append, Leave, Enter}
use Rattle.load_plan.specs.Graph.{targets_of, Node, node_at, is_bounded}
use Rattle.load_plan.specs.Walk.{has, hard_walk}
use Rattle.load_plan.specs.Plan.{is_free, visit}
use Rattle.load_plan.specs.Laws.{is_in, start, more}
use Rattle.load_plan.specs.ForProofs.{mark_at, AreMarks, IsKept}
use Rattle.load_plan.specs.VisitSteps.{left_of, next_stage, first_stage, Leads, is_taken, IsUnmet, IsUnmetFirst, IsMove, IsTaken}
use Rattle.load_plan.specs.declared.learnt.Learnt.{Learnt}
use Rattle.load_plan.specs.Learnt.{Knows, StaysKnown}
use Rattle.load_plan.proofs.Lessons.{Learnt-append}
use Rattle.load_plan.proofs.Lists.{and_makes, or_false, or_comes, has-same, has-other, has-last_same, has-last_other, apart_from, below_cons, nothing_apart, room_for, has-from_apart, passes_at, not_false, all-append, take-first, take-all}
use Rattle.load_plan.proofs.Orders.{IsWithin, grows_last, all_in-grows}
use Rattle.load_plan.proofs.Walking.{mark_new, marks-open, marks-done}
use Rattle.load_plan.proofs.Free.{IsFree, free_hard, free_walk, free_clean}
use Rattle.load_plan.proofs.Resuming.{slots_of, with_phase, progress_of, resume, resume-pass, resume-enter, resume-turn, resume-append, resume-leave}

-- What holds of a stage, by its phase; `above` has the module whose visit began last, if there is one.
abbrev pub StageHolds : List Node → List ℕ → List ℕ → List ℕ → Phase → ℕ → ℕ → Type 0
StageHolds w done above below Pre m k = IsFree w below m
StageHolds w done above below Hard m k = IsFree w below m × (list_all (is_in (above ++ done)) (take k (node_at w m).hard) ≡ true)
StageHolds w done above below Post m k = has done m ≡ true

abbrev pub AllHold : List Node → List ℕ → List ℕ → List Stage → Type 0
AllHold w done above [] = Unit {0}
AllHold w done above (s ∷ ss) = StageHolds w done above (progress_of ss) s.phase s.slot s.visited × AllHold w done (s.slot ∷ []) ss

within-cons : (few many : List ℕ) (m : ℕ) → IsWithin few many → IsWithin (m ∷ few) (m ∷ many)
within-cons few many m h q g = elim (eqb_tells q m) [ inl t ↦ has-same many m q t.1 | inr t ↦ has-other many m q t.0 ∙ h q (sym (has-other few m q t.0) ∙ g) ]

within-append : (above few many : List ℕ) → IsWithin few many → IsWithin (above ++ few) (above ++ many)
within-append [] few many h = h
within-append (m ∷ above) few many h = within-cons (above ++ few) (above ++ many) m (within-append above few many h)

stage-grows : (w : List Node) (done after above below : List ℕ) (phase : Phase) (m k : ℕ) → IsWithin done after → StageHolds w done above below phase m k → StageHolds w after above below phase m k
stage-grows w done after above below Pre m k g h = h
stage-grows w done after above below Hard m k g h = (h.0, all_in-grows (above ++ done) (above ++ after) (take k (node_at w m).hard) (within-append above done after g) h.1)
stage-grows w done after above below Post m k g h = g m h

all-grows : (w : List Node) (done after above : List ℕ) (ss : List Stage) → IsWithin done after → AllHold w done above ss → AllHold w after above ss
all-grows w done after above [] g h = tt
all-grows w done after above (s ∷ ss) g h = (stage-grows w done after above (progress_of ss) s.phase s.slot s.visited g h.0, all-grows w done after (s.slot ∷ []) ss g h.1)

-- the module above is in the list by now
stage-drops : (w : List Node) (done below : List ℕ) (c : ℕ) (phase : Phase) (m k : ℕ) → has done c ≡ true → StageHolds w done (c ∷ []) below phase m k → StageHolds w done [] below phase m k
stage-drops w done below c Pre m k here h = h
stage-drops w done below c Hard m k here h =
    (h.0, all_in-grows (c ∷ done) done (take k (node_at w m).hard) (λ q g. elim (eqb_tells q c) [ inl t ↦ subst (λ x. has done x ≡ true) (sym t.1) here | inr t ↦ sym (has-other done c q t.0) ∙ g ]) h.1)
stage-drops w done below c Post m k here h = h

all-drops : (w : List Node) (done : List ℕ) (c : ℕ) (ss : List Stage) → has done c ≡ true → AllHold w done (c ∷ []) ss → AllHold w done [] ss
all-drops w done c [] here h = tt
all-drops w done c (s ∷ ss) here h = (stage-drops w done (progress_of ss) c s.phase s.slot s.visited here h.0, h.1)

-- a hard dependency of a stage is a module that its visit stands on
hard_below : (w : List Node) (s : Stage) (below : List ℕ) (t : Target) (f : IsFree w below s.slot) → s.phase ≡ Hard → Leads w s t → is_in f.below t ≡ true
hard_below w s below t f phase leads =
    passes_at (is_in f.below) (node_at w s.slot).hard s.visited t (left_of w (next_stage s)) f.hard (sym (ap (λ p. drop s.visited (targets_of (node_at w s.slot) p)) phase) ∙ leads)

-- the first hard dependency that is left is not in progress
pub unmet_first : (w : List Node) (done above : List ℕ) (s : Stage) (ss : List Stage) → AllHold w done above (s ∷ ss) → IsUnmetFirst w (progress_of (s ∷ ss)) s
unmet_first w done above s ss h t leads = unmet s.phase refl h.0 t leads
  where
    unmet : (p : Phase) → s.phase ≡ p → StageHolds w done above (progress_of ss) p s.slot s.visited → (t : Target) → Leads w s t → IsUnmet (with_phase p s.slot (progress_of ss)) p t
    unmet Pre e holds t leads = tt
    unmet Post e holds t leads = tt
    unmet Hard e holds (Missing name) leads = tt
    unmet Hard e holds (Slot d) leads = (free_hard w (progress_of ss) s.slot d holds.0 (hard_below w s (progress_of ss) (Slot d) holds.0 e leads)).off

-- What the loop of a visit keeps.
pub record Visits (w : List Node) (begun : ℕ) (marks : List Mark) (order : List ℕ) (ss : List Stage) : Type 0 where
  pub same : resume w ss order ≡ visit w (length w) [] [] (Slot begun)
  pub long : length marks ≡ length w
  pub below : (q : ℕ) → has (slots_of ss) q ≡ true → q < length w
  pub apart : IsDistinct nat_eq (slots_of ss)
  pub kept : IsKept w (progress_of ss) order
  pub marked : AreMarks (length w) marks (progress_of ss) order
  pub holds : AllHold w order [] ss

pub Visits-slot : {w : List Node} {begun : ℕ} {marks : List Mark} {order : List ℕ} {s : Stage} {ss : List Stage} → Visits w begun marks order (s ∷ ss) → s.slot < length w
Visits-slot {w} {begun} {marks} {order} {s} {ss} v = v.below s.slot (has-same (slots_of ss) s.slot s.slot refl)

-- the modules of the stages are in progress or in the list
progress_or_done : (w : List Node) (done above : List ℕ) (ss : List Stage) (q : ℕ) → AllHold w done above ss → has (progress_of ss) q ≡ false → has done q ≡ false → has (slots_of ss) q ≡ false
progress_or_done w done above [] q h off new = refl
progress_or_done w done above (s ∷ ss) q h off new =
    let here : (nat_eq q s.slot ≡ false) × (has (progress_of ss) q ≡ false) = split s.phase h.0 off in
    has-other (slots_of ss) s.slot q here.0 ∙ progress_or_done w done (s.slot ∷ []) ss q h.1 here.1 new
  where
    split : (p : Phase) → StageHolds w done above (progress_of ss) p s.slot s.visited → has (with_phase p s.slot (progress_of ss)) q ≡ false → (nat_eq q s.slot ≡ false) × (has (progress_of ss) q ≡ false)
    split Pre holds off = or_false (nat_eq q s.slot) (has (progress_of ss) q) off
    split Hard holds off = or_false (nat_eq q s.slot) (has (progress_of ss) q) off
    split Post holds off = (elim (eqb_tells q s.slot) [ inl t ↦ (let here : has done q ≡ true = subst (λ x. has done x ≡ true) (sym t.1) holds in absurd (cc)) | inr t ↦ t.0 ], off)

-- who is in progress is on the stack
on_stack : (ss : List Stage) (q : ℕ) → has (slots_of ss) q ≡ false → has (progress_of ss) q ≡ false
on_stack [] q h = refl
on_stack (s ∷ ss) q h =
    let p : (nat_eq q s.slot ≡ false) × (has (slots_of ss) q ≡ false) = or_false (nat_eq q s.slot) (has (slots_of ss) q) h in
    of_phase s.phase p.0 (on_stack ss q p.1)
  where
    of_phase : (ph : Phase) → nat_eq q s.slot ≡ false → has (progress_of ss) q ≡ false → has (with_phase ph s.slot (progress_of ss)) q ≡ false
    of_phase Pre a b = has-other (progress_of ss) s.slot q a ∙ b
    of_phase Hard a b = has-other (progress_of ss) s.slot q a ∙ b
    of_phase Post a b = b

slots-length : (ss : List Stage) → length (slots_of ss) ≡ length ss
slots-length [] = refl
slots-length (s ∷ ss) = ap suc (slots-length ss)

-- one stage in place of the top one, of the same module and with the same modules in progress
stage_moves : {w : List Node} {begun : ℕ} {marks : List Mark} {order : List ℕ} {s : Stage} {ss : List Stage} → Visits w begun marks order (s ∷ ss) → (p : Phase) (k : ℕ) → with_phase p s.slot (progress_of ss) ≡ progress_of (s ∷ ss) → StageHolds w order [] (progress_of ss) p s.slot k → resume w (record { slot = s.slot; phase = p; visited = k } ∷ ss) order ≡ resume w (s ∷ ss) order → Visits w begun marks order (record { slot = s.slot; phase = p; visited = k } ∷ ss)
stage_moves {w} {begun} {marks} {order} {s} {ss} v p k opened holds same = record {
  same = same ∙ v.same;
  long = v.long;
  below = v.below;
  apart = v.apart;
  kept = subst (λ l. IsKept w l order) (sym opened) v.kept;
  marked = subst (λ l. AreMarks (length w) marks l order) (sym opened) v.marked;
  holds = (holds, v.holds.1);
}

-- the first target that is left is passed
holds-pass : (w : List Node) (done below : List ℕ) (s : Stage) (t : Target) (p : Phase) → s.phase ≡ p → Leads w s t → is_taken w (with_phase p s.slot below) done p t ≡ false → StageHolds w done [] below p s.slot s.visited → StageHolds w done [] below p s.slot (s.visited + 1)
holds-pass w done below s t Pre e leads passed holds = holds
holds-pass w done below s t Post e leads passed holds = holds
holds-pass w done below s (Missing name) Hard e leads passed holds = let no : is_in holds.0.below (Missing name) ≡ true = hard_below w s below (Missing name) holds.0 e leads in absurd (cc)
holds-pass w done below s (Slot d) Hard e leads passed holds =
    let here : has done d ≡ true = not_false (has done d) passed in
    let hard_leads : drop s.visited (node_at w s.slot).hard ≡ Slot d ∷ left_of w (next_stage s) = sym (ap (λ ph. drop s.visited (targets_of (node_at w s.slot) ph)) e) ∙ leads in
    (holds.0, ap (list_all (is_in done)) (take-first (node_at w s.slot).hard s.visited (Slot d) (left_of w (next_stage s)) hard_leads) ∙ all-append (is_in done) (take s.visited (node_at w s.slot).hard) (Slot d ∷ []) holds.1 (and_makes (has done d) true here refl))

pub Visits-pass : {w : List Node} {begun : ℕ} {marks : List Mark} {order : List ℕ} {s : Stage} {ss : List Stage} → Visits w begun marks order (s ∷ ss) → (t : Target) → Leads w s t → is_taken w (progress_of (s ∷ ss)) order s.phase t ≡ false → Visits w begun marks order (next_stage s ∷ ss)
Visits-pass {w} {begun} {marks} {order} {s} {ss} v t leads passed =
    stage_moves v s.phase (s.visited + 1) refl (holds-pass w order (progress_of ss) s t s.phase refl leads passed v.holds.0) (sym (resume-pass w s ss order t leads passed))

pub Visits-turn : {w : List Node} {begun : ℕ} {marks : List Mark} {order : List ℕ} {s : Stage} {ss : List Stage} → Visits w begun marks order (s ∷ ss) → s.phase ≡ Pre → left_of w s ≡ [] → Visits w begun marks order (first_stage Hard s.slot ∷ ss)
Visits-turn {w} {begun} {marks} {order} {s} {ss} v phase over =
    let free : IsFree w (progress_of ss) s.slot = subst (λ p. StageHolds w order [] (progress_of ss) p s.slot s.visited) phase v.holds.0 in
    stage_moves v Hard 0 (sym (ap (λ p. with_phase p s.slot (progress_of ss)) phase)) (free, refl) (sym (resume-turn w s ss order phase over))

-- a stage with nothing left goes, and its module is in the list
pub Visits-leave : {w : List Node} {begun : ℕ} {marks : List Mark} {order : List ℕ} {s : Stage} {ss : List Stage} → Visits w begun marks order (s ∷ ss) → s.phase ≡ Post → left_of w s ≡ [] → Visits w begun marks order ss
Visits-leave {w} {begun} {marks} {order} {s} {ss} v phase over =
    let here : has order s.slot ≡ true = subst (λ p. StageHolds w order [] (progress_of ss) p s.slot s.visited) phase v.holds.0 in
    let opened : progress_of (s ∷ ss) ≡ progress_of ss = ap (λ p. with_phase p s.slot (progress_of ss)) phase in
    record {
      same = sym (resume-leave w s ss order phase over) ∙ v.same;
      long = v.long;
      below = λ q h. v.below q (or_comes (nat_eq q s.slot) (has (slots_of ss) q) h);
      apart = IsDistinct-tail nat_eq s.slot (slots_of ss) v.apart;
      kept = subst (λ l. IsKept w l order) opened v.kept;
      marked = subst (λ l. AreMarks (length w) marks l order) opened v.marked;
      holds = all-drops w order s.slot ss here v.holds.1;
    }

-- the module is appended
pub Visits-append : {w : List Node} {begun : ℕ} {marks : List Mark} {order : List ℕ} {s : Stage} {ss : List Stage} → Visits w begun marks order (s ∷ ss) → s.phase ≡ Hard → left_of w s ≡ [] → Visits w begun (set marks s.slot Done) (order ++ s.slot ∷ []) (first_stage Post s.slot ∷ ss)
Visits-append {w} {begun} {marks} {order} {s} {ss} v phase over =
    let m : ℕ = s.slot in
    let holds : IsFree w (progress_of ss) m × (list_all (is_in order) (take s.visited (node_at w m).hard) ≡ true) = subst (λ p. StageHolds w order [] (progress_of ss) p m s.visited) phase v.holds.0 in
    let opened : progress_of (s ∷ ss) ≡ m ∷ progress_of ss = ap (λ p. with_phase p m (progress_of ss)) phase in
    let kept : IsKept w (m ∷ progress_of ss) order = subst (λ l. IsKept w l order) opened v.kept in
    let marked : AreMarks (length w) marks (m ∷ progress_of ss) order = subst (λ l. AreMarks (length w) marks l order) opened v.marked in
    let hard_over : drop s.visited (node_at w m).hard ≡ [] = sym (ap (λ p. drop s.visited (targets_of (node_at w m) p)) phase) ∙ over in
    let all : list_all (is_in order) (node_at w m).hard ≡ true = sym (ap (list_all (is_in order)) (take-all (node_at w m).hard s.visited hard_over)) ∙ holds.1 in
    let new : has order m ≡ false = kept.off m (has-same (progress_of ss) m m refl) in
    let alone : has (progress_of ss) m ≡ false = on_stack ss m (has-from_apart (slots_of ss) m (IsDistinct-head nat_eq m (slots_of ss) v.apart)) in
    let within : m < length w = Visits-slot v in
    record {
      same = sym (resume-append w s ss order phase over) ∙ v.same;
      long = length-set marks m Done ∙ v.long;
      below = v.below;
      apart = v.apart;
      kept = record {
        bounded = kept.bounded;
        order = more order m kept.order new all;
        off = λ q g. elim (eqb_tells q m) [
          | inl t ↦ (let on : has (progress_of ss) m ≡ true = subst (λ y. has (progress_of ss) y ≡ true) t.1 g in absurd (cc))
          | inr t ↦ has-last_other order m q t.0 ∙ kept.off q (has-other (progress_of ss) m q t.0 ∙ g)
        ];
        entered = λ q g. elim (eqb_tells q m) [
          | inl t ↦ subst (λ y. (y < length w) × ((node_at w y).installs ≡ false)) (sym t.1) (within, holds.0.own)
          | inr t ↦ kept.entered q (sym (has-last_other order m q t.0) ∙ g)
        ];
      };
      marked = marks-done (length w) marks (progress_of ss) order m v.long within marked;
      holds = (has-last_same order m m refl, all-grows w order (order ++ m ∷ []) (m ∷ []) ss (λ q g. grows_last order m q g) v.holds.1);
    }

-- a taken target is free
taken_free : (w : List Node) (done below : List ℕ) (s : Stage) (m : ℕ) (p : Phase) → s.phase ≡ p → is_bounded w ≡ true → m < length w → Leads w s (Slot m) → is_taken w (with_phase p s.slot below) done p (Slot m) ≡ true → StageHolds w done [] below p s.slot s.visited → IsFree w (with_phase p s.slot below) m
taken_free w done below s m Pre e bounded within leads taken holds = free_clean w (s.slot ∷ below) done m bounded within taken
taken_free w done below s m Post e bounded within leads taken holds = free_clean w below done m bounded within taken
taken_free w done below s m Hard e bounded within leads taken holds = free_hard w below s.slot m holds.0 (hard_below w s below (Slot m) holds.0 e leads)

holds-enter : (w : List Node) (done below : List ℕ) (s : Stage) (m : ℕ) (p : Phase) → s.phase ≡ p → Leads w s (Slot m) → StageHolds w done [] below p s.slot s.visited → StageHolds w done (m ∷ []) below p s.slot (s.visited + 1)
holds-enter w done below s m Pre e leads holds = holds
holds-enter w done below s m Post e leads holds = holds
holds-enter w done below s m Hard e leads holds =
    let ts : List Target = (node_at w s.slot).hard in
    let hard_leads : drop s.visited ts ≡ Slot m ∷ left_of w (next_stage s) = sym (ap (λ ph. drop s.visited (targets_of (node_at w s.slot) ph)) e) ∙ leads in
    let before : list_all (is_in (m ∷ done)) (take s.visited ts) ≡ true = all_in-grows done (m ∷ done) (take s.visited ts) (λ q g. or_comes (nat_eq q m) (has done q) g) holds.1 in
    (holds.0, ap (list_all (is_in (m ∷ done))) (take-first ts s.visited (Slot m) (left_of w (next_stage s)) hard_leads) ∙ all-append (is_in (m ∷ done)) (take s.visited ts) (Slot m ∷ []) before (and_makes (has (m ∷ done) m) true (has-same done m m refl) refl))

-- a module is entered
pub Visits-enter : {w : List Node} {begun : ℕ} {marks : List Mark} {order : List ℕ} {s : Stage} {ss : List Stage} → Visits w begun marks order (s ∷ ss) → (m : ℕ) → Leads w s (Slot m) → m < length w → mark_at marks m ≡ New → is_taken w (progress_of (s ∷ ss)) order s.phase (Slot m) ≡ true → Visits w begun (set marks m Open) order (first_stage Pre m ∷ next_stage s ∷ ss)
Visits-enter {w} {begun} {marks} {order} {s} {ss} v m leads within mark taken =
    let facts : (has order m ≡ false) × (has (progress_of (s ∷ ss)) m ≡ false) = mark_new (has order m) (has (progress_of (s ∷ ss)) m) (sym (v.marked m within) ∙ mark) in
    let off : has (slots_of (s ∷ ss)) m ≡ false = progress_or_done w order [] (s ∷ ss) m v.holds facts.1 facts.0 in
    let room : suc (length (slots_of (s ∷ ss))) ≤ length w = room_for (length w) (slots_of (s ∷ ss)) m v.apart v.below off within in
    let lengths : length (slots_of (s ∷ ss)) ≡ suc (length ss) = slots-length (s ∷ ss) in
    let deep : suc (suc (length ss)) ≤ length w = omega (arith, room, lengths) in
    let free : IsFree w (progress_of (s ∷ ss)) m = taken_free w order (progress_of ss) s m s.phase refl v.kept.bounded within leads taken v.holds.0 in
    record {
      same = sym (resume-enter w s ss order m leads taken deep) ∙ v.same;
      long = length-set marks m Open ∙ v.long;
      below = below_cons (length w) (slots_of (s ∷ ss)) m v.below within;
      apart = IsDistinct-cons nat_eq m (slots_of (s ∷ ss)) (apart_from (slots_of (s ∷ ss)) m off) v.apart;
      kept = record {
        bounded = v.kept.bounded;
        order = v.kept.order;
        off = λ q g. elim (eqb_tells q m) [ inl t ↦ subst (λ y. has order y ≡ false) (sym t.1) facts.0 | inr t ↦ v.kept.off q (sym (has-other (progress_of (s ∷ ss)) m q t.0) ∙ g) ];
        entered = v.kept.entered;
      };
      marked = marks-open (length w) marks (progress_of (s ∷ ss)) order m v.long within facts.0 v.marked;
      holds = (free, (holds-enter w order (progress_of ss) s m s.phase refl leads v.holds.0, v.holds.1));
    }

-- the visit begins
pub Visits-begin : (w : List Node) (begun : ℕ) (marks : List Mark) (order : List ℕ) (ss : List Stage) (reached : List ℕ) → is_bounded w ≡ true → hard_walk w true (Slot begun) ≡ Ok reached → begun < length w → length marks ≡ length w → AreMarks (length w) marks [] [] → order ≡ [] → ss ≡ first_stage Pre begun ∷ [] → Visits w begun (set marks begun Open) order ss
Visits-begin w begun marks order ss reached bounded walked within long new none one =
    let fuel : length w ≡ suc (length w - suc zero) = omega arith in
    let free : IsFree w [] begun = free_walk w [] begun (Ok reached) bounded within walked (none_free reached) in
    let v : Visits w begun (set marks begun Open) [] (first_stage Pre begun ∷ []) = record {
      same = sym (ap (λ n. visit w n [] [] (Slot begun)) fuel);
      long = length-set marks begun Open ∙ long;
      below = below_cons (length w) [] begun (λ q h. absurd (cc)) within;
      apart = IsDistinct-cons nat_eq begun [] tt nothing_apart;
      kept = record { bounded = bounded; order = start; off = λ q g. refl; entered = λ q g. absurd (cc) };
      marked = marks-open (length w) marks [] [] begun long within refl new;
      holds = (free, tt);
    } in
    rw (none, one) v
  where
    none_in : (ms : List ℕ) → list_any (has []) ms ≡ false
    none_in [] = refl
    none_in (x ∷ xs) = none_in xs

    none_free : (ms : List ℕ) → is_free [] (Ok ms) ≡ true
    none_free ms = ap not (none_in ms)

pub Visits-over : {w : List Node} {begun : ℕ} {marks : List Mark} {order : List ℕ} → Visits w begun marks order [] → order ≡ visit w (length w) [] [] (Slot begun)
Visits-over v = v.same

-- what the code knows of what is taken
abbrev pub TakenAt : List Node → List Mark → Learnt → Stage → Move → Type 0
TakenAt w marks learnt s move = (progress done : List ℕ) → AreMarks (length w) marks progress done → IsKept w progress done → Knows w progress done learnt → IsUnmetFirst w progress s → IsTaken w progress done s move

taken_here : {w : List Node} {begun : ℕ} {marks : List Mark} {order : List ℕ} {s : Stage} {ss : List Stage} (learnt : Learnt) → Visits w begun marks order (s ∷ ss) → Knows w (progress_of (s ∷ ss)) order learnt → (move : Move) → TakenAt w marks learnt s move → IsTaken w (progress_of (s ∷ ss)) order s move
taken_here {w} {begun} {marks} {order} {s} {ss} learnt v known move taken = taken (progress_of (s ∷ ss)) order v.marked v.kept known (unmet_first w order [] s ss v.holds)

-- What the loop keeps, with what was learnt.
pub record Learns (w : List Node) (begun : ℕ) (marks : List Mark) (learnt : Learnt) (order : List ℕ) (ss : List Stage) : Type 0 where
  pub visits : Visits w begun marks order ss
  pub long : length learnt.verdicts.items ≡ length w
  pub known : Knows w (progress_of ss) order learnt

-- what is known behind a step of the loop
pub Learns-step : {w : List Node} {begun : ℕ} {marks : List Mark} {order : List ℕ} {ss : List Stage} (learnt after : Learnt) → Learns w begun marks learnt order ss → StaysKnown w marks learnt after → Knows w (progress_of ss) order after
Learns-step {w} {begun} {marks} {order} {ss} learnt after k stays = stays (progress_of ss) order k.visits.marked k.visits.kept k.known

pub Learns-pass : {w : List Node} {begun : ℕ} {marks : List Mark} {order : List ℕ} {s next : Stage} {ss : List Stage} (learnt after : Learnt) → Learns w begun marks learnt order (s ∷ ss) → length after.verdicts.items ≡ length w → StaysKnown w marks learnt after → IsMove w marks s (Pass next) → TakenAt w marks learnt s (Pass next) → Learns w begun marks after order (next ∷ ss)
Learns-pass {w} {begun} {marks} {order} {s} {next} {ss} learnt after k long stays move taken =
    subst (λ x. Learns w begun marks after order (x ∷ ss)) (sym move.2)
    (record { visits = Visits-pass k.visits move.0 move.1 (taken_here learnt k.visits k.known (Pass next) taken move.0 move.1); long = long; known = Learns-step learnt after k stays })

pub Learns-turn : {w : List Node} {begun : ℕ} {marks : List Mark} {order : List ℕ} {s next : Stage} {ss : List Stage} (learnt after : Learnt) → Learns w begun marks learnt order (s ∷ ss) → length after.verdicts.items ≡ length w → StaysKnown w marks learnt after → IsMove w marks s (Turn next) → Learns w begun marks after order (next ∷ ss)
Learns-turn {w} {begun} {marks} {order} {s} {next} {ss} learnt after k long stays move =
    let same : progress_of (s ∷ ss) ≡ progress_of (first_stage Hard s.slot ∷ ss) = ap (λ p. with_phase p s.slot (progress_of ss)) move.0 in
    subst (λ x. Learns w begun marks after order (x ∷ ss)) (sym move.2)
    (record { visits = Visits-turn k.visits move.0 move.1; long = long; known = subst (λ l. Knows w l order after) same (Learns-step learnt after k stays) })

pub Learns-leave : {w : List Node} {begun : ℕ} {marks : List Mark} {order : List ℕ} {s : Stage} {ss : List Stage} (learnt after : Learnt) → Learns w begun marks learnt order (s ∷ ss) → length after.verdicts.items ≡ length w → StaysKnown w marks learnt after → IsMove w marks s Leave → Learns w begun marks after order ss
Learns-leave {w} {begun} {marks} {order} {s} {ss} learnt after k long stays move = record {
  visits = Visits-leave k.visits move.0 move.1;
  long = long;
  known = subst (λ l. Knows w l order after) (ap (λ p. with_phase p s.slot (progress_of ss)) move.0) (Learns-step learnt after k stays);
}

pub Learns-append : {w : List Node} {begun : ℕ} {marks : List Mark} {order : List ℕ} {s next : Stage} {ss : List Stage} (learnt after : Learnt) → Learns w begun marks learnt order (s ∷ ss) → length after.verdicts.items ≡ length w → StaysKnown w marks learnt after → IsMove w marks s (Append next) → Learns w begun (set marks s.slot Done) after (order ++ s.slot ∷ []) (next ∷ ss)
Learns-append {w} {begun} {marks} {order} {s} {next} {ss} learnt after k long stays move =
    let opened : progress_of (s ∷ ss) ≡ s.slot ∷ progress_of ss = ap (λ p. with_phase p s.slot (progress_of ss)) move.0 in
    subst (λ x. Learns w begun (set marks s.slot Done) after (order ++ s.slot ∷ []) (x ∷ ss)) (sym move.2)
    (record {
      visits = Visits-append k.visits move.0 move.1;
      long = long;
      known = Learnt-append w (progress_of ss) order after.verdicts.items after.order.items s.slot (subst (λ l. Knows w l order after) opened (Learns-step learnt after k stays));
    })

-- what `enter` keeps
abbrev pub EntersWith : List Node → ℕ → Learnt → Learnt → Type 0
EntersWith w m before after = (progress done : List ℕ) → Knows w progress done before → Knows w (m ∷ progress) done after

pub Learns-enter : {w : List Node} {begun : ℕ} {marks : List Mark} {order : List ℕ} {s next : Stage} {ss : List Stage} (learnt after entered : Learnt) (m : ℕ) → Learns w begun marks learnt order (s ∷ ss) → length entered.verdicts.items ≡ length w → StaysKnown w marks learnt after → EntersWith w m after entered → IsMove w marks s (Enter m next) → TakenAt w marks learnt s (Enter m next) → Learns w begun (set marks m Open) entered order (first_stage Pre m ∷ next ∷ ss)
Learns-enter {w} {begun} {marks} {order} {s} {next} {ss} learnt after entered m k long stays enters move taken =
    subst (λ x. Learns w begun (set marks m Open) entered order (first_stage Pre m ∷ x ∷ ss)) (sym move.3)
    (record {
      visits = Visits-enter k.visits m move.0 move.1 move.2 (taken_here learnt k.visits k.known (Enter m next) taken);
      long = long;
      known = enters (progress_of (s ∷ ss)) order (Learns-step learnt after k stays);
    })

-- nothing is learnt when the visit begins
pub Learns-begin : {w : List Node} {begun : ℕ} {marks : List Mark} {order : List ℕ} {ss : List Stage} (learnt entered : Learnt) → Visits w begun marks order ss → ss ≡ first_stage Pre begun ∷ [] → Knows w [] order learnt → length entered.verdicts.items ≡ length w → EntersWith w begun learnt entered → Learns w begun marks entered order ss
Learns-begin {w} {begun} {marks} {order} {ss} learnt entered v one known long enters = record {
  visits = v;
  long = long;
  known = subst (λ l. Knows w (progress_of l) order entered) (sym one) (enters [] order known);
}
