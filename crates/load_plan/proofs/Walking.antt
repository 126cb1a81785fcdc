-- A walk with a stack of its own gives what the recursion gives.
use Rattle.std.proofs.Common.{◌≡◌, ℕ, zero, suc, ◌+◌, ◌-◌, ◌*◌, ◌<◌, ◌≤◌, Bool, true, false, ◌&&◌, nat_eq, List, [], ◌∷◌, ◌++◌, length, reverse, set, replicate, length-set, Result, Ok, Err, refl, sym, ◌∙◌, ap, subst, arith, ltb-true, append_assoc, append-nil, ◌⊎◌, inl, inr}
use Rattle.std.proofs.lemmas.Bool.Decides.{eqb_tells}
use Rattle.std.proofs.lemmas.List.{get_or-set_same, get_or-set_other, get_or-replicate, reverse-append}
use Rattle.std.proofs.lemmas.List.Sums.{sum_by-set, sum_by-cons, get_or-le-sum_by}
use Rattle.std.proofs.Math.Nat.{mul-le-mul_right, add-mul}
use Rattle.std.proofs.lemmas.Map.Keys.{IsDistinct-cons, IsDistinct-tail}
use Rattle.std.specs.List.{IsDistinct, list_all, sum_by}
use Rattle.load_plan.specs.declared.graph.Target.{Target}
use Rattle.load_plan.specs.declared.graph.Target.TheVariants.{Slot, Missing}
use Rattle.load_plan.specs.declared.refusal.PlanRefusal.{PlanRefusal}
use Rattle.load_plan.specs.declared.refusal.PlanRefusal.TheVariants.{Cycle, Install, Unknown}
use Rattle.load_plan.specs.declared.walk.Mark.{Mark}
use Rattle.load_plan.specs.declared.walk.Mark.TheVariants.{New, Open, Done}
use Rattle.load_plan.specs.declared.walk.Frame.{Frame}
use Rattle.load_plan.specs.Graph.{Node, node_at, no_node, is_bounded, is_within}
use Rattle.load_plan.specs.Walk.{◌>>=◌, has, walk_each, walk}
use Rattle.load_plan.specs.ForProofs.{mark_of, mark_at, AreMarks, left_of, next_frame, Leads, Passes, here, past}
use Rattle.load_plan.proofs.Bounds.{named_within}
use Rattle.load_plan.proofs.Lists.{and_true, either_way, or_false, or_comes, has-same, has-other, has-last_same, has-last_other, apart_from, below_cons, nothing_apart, room_for}

abbrev Walk : Type 0
Walk = Result (List ℕ) PlanRefusal

-- the slots of a stack whose top stands first
abbrev pub slots_of : List Frame → List ℕ
slots_of [] = []
slots_of (f ∷ fs) = f.slot ∷ slots_of fs

-- the way of a stack, on top of the way on which it began
abbrev pub way_of : List ℕ → List Frame → List ℕ
way_of way [] = way
way_of way (f ∷ fs) = f.slot ∷ way_of way fs

-- what the walk gives that goes on from a stack
abbrev pub resume : List Node → Bool → List ℕ → List Frame → List ℕ → Walk
resume w tests way [] done = Ok done
resume w tests way (f ∷ fs) done =
    walk_each (walk w tests (length w - suc (length fs)) (f.slot ∷ way_of way fs)) done (left_of w f) >>= λ d. resume w tests way fs (d ++ f.slot ∷ [])

-- a target that is finished is passed, and one on the way is a cycle, whatever the fuel
pub walk-passed : (w : List Node) (tests : Bool) (n : ℕ) (way done : List ℕ) (m : ℕ) → has done m ≡ true → walk w tests n way done (Slot m) ≡ Ok done
walk-passed w tests zero way done m h = rw h
walk-passed w tests (suc n) way done m h = rw h

pub walk-cycle : (w : List Node) (tests : Bool) (n : ℕ) (way done : List ℕ) (m : ℕ) → has done m ≡ false → has way m ≡ true → walk w tests n way done (Slot m) ≡ Err (Cycle m)
walk-cycle w tests zero way done m h k = rw h
walk-cycle w tests (suc n) way done m h k = rw (h, k)

pub walk-unknown : (w : List Node) (tests : Bool) (n : ℕ) (way done : List ℕ) (name : List ℕ) → walk w tests n way done (Missing name) ≡ Err (Unknown name)
walk-unknown w tests zero way done name = refl
walk-unknown w tests (suc n) way done name = refl

pub walk-install : (w : List Node) (tests : Bool) (n : ℕ) (way done : List ℕ) (m : ℕ) → has done m ≡ false → has way m ≡ false → (tests && (node_at w m).installs) ≡ true → walk w tests (suc n) way done (Slot m) ≡ Err (Install m)
walk-install w tests n way done m h k i = rw (h, k, i)

pub walk-enter : (w : List Node) (tests : Bool) (n : ℕ) (way done : List ℕ) (m : ℕ) → has done m ≡ false → has way m ≡ false → (tests && (node_at w m).installs) ≡ false → walk w tests (suc n) way done (Slot m) ≡ (walk_each (walk w tests n (m ∷ way)) done (node_at w m).hard >>= λ d. Ok (d ++ m ∷ []))
walk-enter w tests n way done m h k i = rw (h, k, i)

bind_assoc : {A B C : Type 0} (r : Result A PlanRefusal) (f : A → Result B PlanRefusal) (k : B → Result C PlanRefusal) → ((r >>= f) >>= k) ≡ (r >>= λ x. (f x >>= k))
bind_assoc (Ok x) f k = refl
bind_assoc (Err e) f k = refl

-- the first target that is left decides what the stack gives
resume-first : (w : List Node) (tests : Bool) (way : List ℕ) (f : Frame) (fs : List Frame) (done : List ℕ) (t : Target) → Leads w f t → resume w tests way (f ∷ fs) done ≡ ((walk w tests (length w - suc (length fs)) (f.slot ∷ way_of way fs) done t >>= λ d. resume w tests way (next_frame f ∷ fs) d))
resume-first w tests way f fs done t leads =
    let go : List ℕ → Target → Walk = walk w tests (length w - suc (length fs)) (f.slot ∷ way_of way fs) in
    let k : List ℕ → Walk = λ d. resume w tests way fs (d ++ f.slot ∷ []) in
    ap (λ ts. walk_each go done ts >>= k) leads ∙ bind_assoc (go done t) (λ d. walk_each go d (left_of w (next_frame f))) k

resume-finish : (w : List Node) (tests : Bool) (way : List ℕ) (f : Frame) (fs : List Frame) (done : List ℕ) → left_of w f ≡ [] → resume w tests way (f ∷ fs) done ≡ resume w tests way fs (done ++ f.slot ∷ [])
resume-finish w tests way f fs done over =
    ap (λ ts. walk_each (walk w tests (length w - suc (length fs)) (f.slot ∷ way_of way fs)) done ts >>= λ d. resume w tests way fs (d ++ f.slot ∷ [])) over

abbrev pub first_frame : ℕ → Frame
first_frame m = record { slot = m; walked = 0 }

resume-enter : (w : List Node) (tests : Bool) (way : List ℕ) (f : Frame) (fs : List Frame) (done : List ℕ) (m : ℕ) → Leads w f (Slot m) → has done m ≡ false → has (f.slot ∷ way_of way fs) m ≡ false → (tests && (node_at w m).installs) ≡ false → suc (suc (length fs)) ≤ length w
    → resume w tests way (f ∷ fs) done ≡ resume w tests way (first_frame m ∷ next_frame f ∷ fs) done
resume-enter w tests way f fs done m leads new off free room =
    let fuel : length w - suc (length fs) ≡ suc (length w - suc (suc (length fs))) = omega arith in
    let k : List ℕ → Walk = λ d. resume w tests way (next_frame f ∷ fs) d in
    let on : List ℕ = f.slot ∷ way_of way fs in
    resume-first w tests way f fs done (Slot m) leads
    ∙ ap (λ n. walk w tests n on done (Slot m) >>= k) fuel
    ∙ ap (λ r. r >>= k) (walk-enter w tests (length w - suc (suc (length fs))) on done m new off free)
    ∙ bind_assoc (walk_each (walk w tests (length w - suc (suc (length fs))) (m ∷ on)) done (node_at w m).hard) (λ d. Ok (d ++ m ∷ [])) k

-- what a walk keeps of the marks and the stack
pub record IsInGraph (n : ℕ) (marks : List Mark) (fs : List Frame) : Type 0 where
  pub long : length marks ≡ n
  pub below : (q : ℕ) → has (slots_of fs) q ≡ true → q < n

-- what it keeps of the definition, from a way and a list on
pub record Walks (w : List Node) (tests : Bool) (start : ℕ) (way done : List ℕ) (marks : List Mark) (now : List ℕ) (fs : List Frame) : Type 0 where
  pub same : resume w tests way fs now ≡ walk w tests (length w) way done (Slot start)
  pub marked : AreMarks (length w) marks (way_of way fs) now
  pub apart : IsDistinct nat_eq (slots_of fs)

pub mark_new : (a b : Bool) → mark_of a b ≡ New → (a ≡ false) × (b ≡ false)
mark_new true b h = absurd (cc)
mark_new false true h = absurd (cc)
mark_new false false h = (refl, refl)

pub mark_open : (a b : Bool) → mark_of a b ≡ Open → (a ≡ false) × (b ≡ true)
mark_open true b h = absurd (cc)
mark_open false true h = (refl, refl)
mark_open false false h = absurd (cc)

pub mark_done : (a b : Bool) → mark_of a b ≡ Done → a ≡ true
mark_done true b h = refl
mark_done false true h = absurd (cc)
mark_done false false h = absurd (cc)

slots-length : (fs : List Frame) → length (slots_of fs) ≡ length fs
slots-length [] = refl
slots-length (f ∷ fs) = ap suc (slots-length fs)

-- who is off the way is not on the stack
off_stack : (way : List ℕ) (fs : List Frame) (m : ℕ) → has (way_of way fs) m ≡ false → has (slots_of fs) m ≡ false
off_stack way [] m h = refl
off_stack way (f ∷ fs) m h =
    let p : (nat_eq m f.slot ≡ false) × (has (way_of way fs) m ≡ false) = or_false (nat_eq m f.slot) (has (way_of way fs) m) h in
    has-other (slots_of fs) f.slot m p.0 ∙ off_stack way fs m p.1

module_room : {n : ℕ} {marks : List Mark} {f : Frame} {fs : List Frame} (way : List ℕ) → IsInGraph n marks (f ∷ fs) → IsDistinct nat_eq (slots_of (f ∷ fs)) → (m : ℕ) → has (way_of way (f ∷ fs)) m ≡ false → m < n → suc (suc (length fs)) ≤ n
module_room {n} {marks} {f} {fs} way i apart m off within =
    let room : suc (length (slots_of (f ∷ fs))) ≤ n = room_for n (slots_of (f ∷ fs)) m apart i.below (off_stack way (f ∷ fs) m off) within in
    let lengths : length (slots_of (f ∷ fs)) ≡ suc (length fs) = slots-length (f ∷ fs) in omega (arith, room, lengths)

pub Walks-pass : {w : List Node} {tests : Bool} {start : ℕ} {way done : List ℕ} {marks : List Mark} {now : List ℕ} {f : Frame} {fs : List Frame} → Walks w tests start way done marks now (f ∷ fs) → (m : ℕ) → Leads w f (Slot m) → mark_at marks m ≡ Done → m < length w → Walks w tests start way done marks now (next_frame f ∷ fs)
Walks-pass {w} {tests} {start} {way} {done} {marks} {now} {f} {fs} k m leads mark within =
    let finished : has now m ≡ true = mark_done (has now m) (has (way_of way (f ∷ fs)) m) (sym (k.marked m within) ∙ mark) in
    record {
      same = sym (resume-first w tests way f fs now (Slot m) leads ∙ ap (λ r. r >>= λ d. resume w tests way (next_frame f ∷ fs) d) (walk-passed w tests (length w - suc (length fs)) (f.slot ∷ way_of way fs) now m finished)) ∙ k.same;
      marked = k.marked;
      apart = k.apart;
    }

pub Walks-again : {w : List Node} {tests : Bool} {start : ℕ} {way done : List ℕ} {marks : List Mark} {now : List ℕ} {f : Frame} {fs : List Frame} → Walks w tests start way done marks now (f ∷ fs) → (m : ℕ) → Leads w f (Slot m) → mark_at marks m ≡ Open → m < length w → walk w tests (length w) way done (Slot start) ≡ Err (Cycle m)
Walks-again {w} {tests} {start} {way} {done} {marks} {now} {f} {fs} k m leads mark within =
    let facts : (has now m ≡ false) × (has (way_of way (f ∷ fs)) m ≡ true) = mark_open (has now m) (has (way_of way (f ∷ fs)) m) (sym (k.marked m within) ∙ mark) in
    sym k.same ∙ resume-first w tests way f fs now (Slot m) leads ∙ ap (λ r. r >>= λ d. resume w tests way (next_frame f ∷ fs) d) (walk-cycle w tests (length w - suc (length fs)) (f.slot ∷ way_of way fs) now m facts.0 facts.1)

pub Walks-nowhere : {w : List Node} {tests : Bool} {start : ℕ} {way done : List ℕ} {marks : List Mark} {now : List ℕ} {f : Frame} {fs : List Frame} → Walks w tests start way done marks now (f ∷ fs) → (name : List ℕ) → Leads w f (Missing name) → walk w tests (length w) way done (Slot start) ≡ Err (Unknown name)
Walks-nowhere {w} {tests} {start} {way} {done} {marks} {now} {f} {fs} k name leads =
    sym k.same ∙ resume-first w tests way f fs now (Missing name) leads ∙ ap (λ r. r >>= λ d. resume w tests way (next_frame f ∷ fs) d) (walk-unknown w tests (length w - suc (length fs)) (f.slot ∷ way_of way fs) now name)

pub Walks-blocked : {w : List Node} {tests : Bool} {start : ℕ} {way done : List ℕ} {marks : List Mark} {now : List ℕ} {f : Frame} {fs : List Frame} → IsInGraph (length w) marks (f ∷ fs) → Walks w tests start way done marks now (f ∷ fs) → (m : ℕ) → Leads w f (Slot m) → mark_at marks m ≡ New → (tests && (node_at w m).installs) ≡ true → m < length w → walk w tests (length w) way done (Slot start) ≡ Err (Install m)
Walks-blocked {w} {tests} {start} {way} {done} {marks} {now} {f} {fs} i k m leads mark blocked within =
    let facts : (has now m ≡ false) × (has (way_of way (f ∷ fs)) m ≡ false) = mark_new (has now m) (has (way_of way (f ∷ fs)) m) (sym (k.marked m within) ∙ mark) in
    let room : suc (suc (length fs)) ≤ length w = module_room way i k.apart m facts.1 within in
    let fuel : length w - suc (length fs) ≡ suc (length w - suc (suc (length fs))) = omega arith in
    let next : List ℕ → Walk = λ d. resume w tests way (next_frame f ∷ fs) d in
    sym k.same ∙ resume-first w tests way f fs now (Slot m) leads
    ∙ ap (λ n. walk w tests n (f.slot ∷ way_of way fs) now (Slot m) >>= next) fuel
    ∙ ap (λ r. r >>= next) (walk-install w tests (length w - suc (suc (length fs))) (f.slot ∷ way_of way fs) now m facts.0 facts.1 blocked)

-- a write of one mark
pub mark-same : (marks : List Mark) (m : ℕ) (x : Mark) → m < length marks → mark_at (set marks m x) m ≡ x
mark-same marks m x within = get_or-set_same marks m x Done within

pub mark-other : (marks : List Mark) (m q : ℕ) (x : Mark) → (q ≡ m → ⊥) → mark_at (set marks m x) q ≡ mark_at marks q
mark-other marks m q x other = get_or-set_other marks m q x Done other

-- a module that comes onto the way is Open
pub marks-open : (n : ℕ) (marks : List Mark) (way now : List ℕ) (m : ℕ) → length marks ≡ n → m < n → has now m ≡ false → AreMarks n marks way now → AreMarks n (set marks m Open) (m ∷ way) now
marks-open n marks way now m long within new marked q lt =
    let inside : m < length marks = omega arith in
    elim (eqb_tells q m) [
      | inl t ↦ ap (λ x. mark_at (set marks m Open) x) t.1 ∙ mark-same marks m Open inside ∙ sym (ap (λ b. mark_of b (has (m ∷ way) q)) (ap (has now) t.1 ∙ new) ∙ ap (λ b. mark_of false b) (has-same way m q t.1))
      | inr t ↦ mark-other marks m q Open t.1 ∙ marked q lt ∙ ap (λ b. mark_of (has now q) b) (sym (has-other way m q t.0))
    ]

-- a module that is appended is Done
pub marks-done : (n : ℕ) (marks : List Mark) (way now : List ℕ) (m : ℕ) → length marks ≡ n → m < n → AreMarks n marks (m ∷ way) now → AreMarks n (set marks m Done) way (now ++ m ∷ [])
marks-done n marks way now m long within marked q lt =
    let inside : m < length marks = omega arith in
    elim (eqb_tells q m) [
      | inl t ↦ ap (λ x. mark_at (set marks m Done) x) t.1 ∙ mark-same marks m Done inside ∙ sym (ap (λ b. mark_of b (has way q)) (has-last_same now m q t.1))
      | inr t ↦ mark-other marks m q Done t.1 ∙ marked q lt ∙ ap (λ b. mark_of (has now q) b) (has-other way m q t.0) ∙ ap (λ b. mark_of b (has way q)) (sym (has-last_other now m q t.0))
    ]

pub IsInGraph-enter : {n : ℕ} {marks : List Mark} {f : Frame} {fs : List Frame} → IsInGraph n marks (f ∷ fs) → (m : ℕ) → m < n → (x : Mark) → IsInGraph n (set marks m x) (first_frame m ∷ next_frame f ∷ fs)
IsInGraph-enter {n} {marks} {f} {fs} i m within x = record {
  long = length-set marks m x ∙ i.long;
  below = below_cons n (slots_of (f ∷ fs)) m i.below within;
}

pub IsInGraph-finish : {n : ℕ} {marks : List Mark} {f : Frame} {fs : List Frame} → IsInGraph n marks (f ∷ fs) → (x : Mark) → IsInGraph n (set marks f.slot x) fs
IsInGraph-finish {n} {marks} {f} {fs} i x = record {
  long = length-set marks f.slot x ∙ i.long;
  below = λ q h. i.below q (or_comes (nat_eq q f.slot) (has (slots_of fs) q) h);
}

pub IsInGraph-slot : {n : ℕ} {marks : List Mark} {f : Frame} {fs : List Frame} → IsInGraph n marks (f ∷ fs) → f.slot < n
IsInGraph-slot {n} {marks} {f} {fs} i = i.below f.slot (has-same (slots_of fs) f.slot f.slot refl)

pub Walks-enter : {w : List Node} {tests : Bool} {start : ℕ} {way done : List ℕ} {marks : List Mark} {now : List ℕ} {f : Frame} {fs : List Frame} → IsInGraph (length w) marks (f ∷ fs) → Walks w tests start way done marks now (f ∷ fs) → (m : ℕ) → Leads w f (Slot m) → mark_at marks m ≡ New → (tests && (node_at w m).installs) ≡ false → m < length w → Walks w tests start way done (set marks m Open) now (first_frame m ∷ next_frame f ∷ fs)
Walks-enter {w} {tests} {start} {way} {done} {marks} {now} {f} {fs} i k m leads mark free within =
    let facts : (has now m ≡ false) × (has (way_of way (f ∷ fs)) m ≡ false) = mark_new (has now m) (has (way_of way (f ∷ fs)) m) (sym (k.marked m within) ∙ mark) in
    let room : suc (suc (length fs)) ≤ length w = module_room way i k.apart m facts.1 within in
    record {
      same = sym (resume-enter w tests way f fs now m leads facts.0 facts.1 free room) ∙ k.same;
      marked = marks-open (length w) marks (way_of way (f ∷ fs)) now m i.long within facts.0 k.marked;
      apart = IsDistinct-cons nat_eq m (slots_of (f ∷ fs)) (apart_from (slots_of (f ∷ fs)) m (off_stack way (f ∷ fs) m facts.1)) k.apart;
    }

pub Walks-finish : {w : List Node} {tests : Bool} {start : ℕ} {way done : List ℕ} {marks : List Mark} {now : List ℕ} {f : Frame} {fs : List Frame} → IsInGraph (length w) marks (f ∷ fs) → Walks w tests start way done marks now (f ∷ fs) → left_of w f ≡ [] → Walks w tests start way done (set marks f.slot Done) (now ++ f.slot ∷ []) fs
Walks-finish {w} {tests} {start} {way} {done} {marks} {now} {f} {fs} i k over =
    record {
      same = sym (resume-finish w tests way f fs now over) ∙ k.same;
      marked = marks-done (length w) marks (way_of way fs) now f.slot i.long (IsInGraph-slot i) k.marked;
      apart = IsDistinct-tail nat_eq f.slot (slots_of fs) k.apart;
    }

-- the walk begins
pub IsInGraph-start : (n : ℕ) (marks : List Mark) (start : ℕ) → length marks ≡ n → start < n → IsInGraph n (set marks start Open) (first_frame start ∷ [])
IsInGraph-start n marks start long within = record {
  long = length-set marks start Open ∙ long;
  below = below_cons n [] start (λ q h. absurd (cc)) within;
}

pub Walks-start : (w : List Node) (tests : Bool) (start : ℕ) (way done : List ℕ) (marks : List Mark) → length marks ≡ length w → start < length w → mark_at marks start ≡ New → (tests && (node_at w start).installs) ≡ false → AreMarks (length w) marks way done → Walks w tests start way done (set marks start Open) done (first_frame start ∷ [])
Walks-start w tests start way done marks long within new free marked =
    let facts : (has done start ≡ false) × (has way start ≡ false) = mark_new (has done start) (has way start) (sym (marked start within) ∙ new) in
    let fuel : length w ≡ suc (length w - suc zero) = omega arith in
    record {
      same = sym (ap (λ n. walk w tests n way done (Slot start)) fuel ∙ walk-enter w tests (length w - suc zero) way done start facts.0 facts.1 free);
      marked = marks-open (length w) marks way done start long within facts.0 marked;
      apart = IsDistinct-cons nat_eq start [] tt nothing_apart;
    }

pub walk-blocked : (w : List Node) (tests : Bool) (start : ℕ) (way done : List ℕ) (marks : List Mark) → start < length w → mark_at marks start ≡ New → (tests && (node_at w start).installs) ≡ true → AreMarks (length w) marks way done → walk w tests (length w) way done (Slot start) ≡ Err (Install start)
walk-blocked w tests start way done marks within new blocked marked =
    let facts : (has done start ≡ false) × (has way start ≡ false) = mark_new (has done start) (has way start) (sym (marked start within) ∙ new) in
    let fuel : length w ≡ suc (length w - suc zero) = omega arith in
    ap (λ n. walk w tests n way done (Slot start)) fuel ∙ walk-install w tests (length w - suc zero) way done start facts.0 facts.1 blocked

-- a new mark is New
pub mark-replicate : (n m : ℕ) → m < n → mark_at (replicate n New) m ≡ New
mark-replicate n m within = get_or-replicate n m New Done within

pub marks-new : (n : ℕ) → AreMarks n (replicate n New) [] []
marks-new n m within = mark-replicate n m within

-- The measure of a walk: a bound on the dependencies that are left to walk.
abbrev pub fresh_of : Mark → ℕ
fresh_of New = 1
fresh_of Open = 0
fresh_of Done = 0

abbrev pub links : List Node → ℕ
links w = sum_by (λ (x : Node). length x.hard) w

abbrev pub work : List Node → List Frame → ℕ
work w fs = sum_by (λ f. length (left_of w f) + 1) fs

abbrev pub effort : List Node → List Mark → List Frame → ℕ
effort w marks fs = sum_by fresh_of marks * (links w + 1) + work w fs

reverse-last : (fs : List Frame) (f : Frame) → reverse (fs ++ f ∷ []) ≡ f ∷ reverse fs
reverse-last fs f = reverse-append fs (f ∷ [])

-- a stack in a vector has its top last
abbrev pub stack_of : List Frame → List Frame
stack_of frames = reverse frames

pub stack-pop : (new : List Frame) {old : List Frame} {f : Frame} → old ≡ new ++ f ∷ [] → stack_of old ≡ f ∷ stack_of new
stack-pop new {old} {f} e = ap reverse e ∙ reverse-last new f

pub stack-push : (old : List Frame) {new : List Frame} {f : Frame} → new ≡ old ++ f ∷ [] → stack_of new ≡ f ∷ stack_of old
stack-push old {new} {f} e = ap reverse e ∙ reverse-last old f

-- a finished module takes its frame away
pub effort-finish : (w : List Node) (marks : List Mark) (f : Frame) (fs : List Frame) → f.slot < length marks → effort w (set marks f.slot Done) fs < effort w marks (f ∷ fs)
effort-finish w marks f fs inside =
    let sums : sum_by fresh_of (set marks f.slot Done) + fresh_of (mark_at marks f.slot) ≡ sum_by fresh_of marks + 0 = sum_by-set fresh_of marks f.slot Done Done inside in
    let fewer : sum_by fresh_of (set marks f.slot Done) ≤ sum_by fresh_of marks = omega arith in
    let times : sum_by fresh_of (set marks f.slot Done) * (links w + 1) ≤ sum_by fresh_of marks * (links w + 1) = mul-le-mul_right (links w + 1) fewer in
    let frames : work w (f ∷ fs) ≡ (length (left_of w f) + 1) + work w fs = sum_by-cons (λ x. length (left_of w x) + 1) f fs in
    omega (arith, times, frames)

hard-le-links : (w : List Node) (m : ℕ) → m < length w → length (node_at w m).hard ≤ links w
hard-le-links w m within = get_or-le-sum_by (λ (x : Node). length x.hard) w m no_node within

-- a module that is entered is fresh no more
pub effort-enter : (w : List Node) (marks : List Mark) (f : Frame) (fs : List Frame) (m : ℕ) → Leads w f (Slot m) → mark_at marks m ≡ New → m < length w → m < length marks → effort w (set marks m Open) (first_frame m ∷ next_frame f ∷ fs) < effort w marks (f ∷ fs)
effort-enter w marks f fs m leads mark within inside =
    let sums : sum_by fresh_of (set marks m Open) + fresh_of (mark_at marks m) ≡ sum_by fresh_of marks + 0 = sum_by-set fresh_of marks m Open Done inside in
    let one : fresh_of (mark_at marks m) ≡ 1 = ap fresh_of mark in
    let fewer : sum_by fresh_of marks ≡ sum_by fresh_of (set marks m Open) + 1 = omega arith in
    let times : sum_by fresh_of marks * (links w + 1) ≡ sum_by fresh_of (set marks m Open) * (links w + 1) + 1 * (links w + 1) = ap (λ x. x * (links w + 1)) fewer ∙ add-mul (sum_by fresh_of (set marks m Open)) 1 (links w + 1) in
    let old : work w (f ∷ fs) ≡ (length (left_of w f) + 1) + work w fs = sum_by-cons (λ x. length (left_of w x) + 1) f fs in
    let new : work w (first_frame m ∷ next_frame f ∷ fs) ≡ (length (left_of w (first_frame m)) + 1) + work w (next_frame f ∷ fs) = sum_by-cons (λ x. length (left_of w x) + 1) (first_frame m) (next_frame f ∷ fs) in
    let next : work w (next_frame f ∷ fs) ≡ (length (left_of w (next_frame f)) + 1) + work w fs = sum_by-cons (λ x. length (left_of w x) + 1) (next_frame f) fs in
    let shorter : length (left_of w f) ≡ suc (length (left_of w (next_frame f))) = ap length leads in
    let most : length (node_at w m).hard ≤ links w = hard-le-links w m within in
    omega (arith, times, old, new, next, shorter, most)

-- the targets that are passed are of one module
pub passes-slot : (w : List Node) (marks : List Mark) (f g : Frame) → Passes w marks f g → g.slot ≡ f.slot
passes-slot w marks f _ here = refl
passes-slot w marks f _ (past g m passes leads mark within) = passes-slot w marks f g passes

-- they are left no more
pub effort-passes : (w : List Node) (marks : List Mark) (f g : Frame) (fs : List Frame) → Passes w marks f g → effort w marks (g ∷ fs) ≤ effort w marks (f ∷ fs)
effort-passes w marks f _ fs here = omega arith
effort-passes w marks f _ fs (past g m passes leads mark within) =
    let before : effort w marks (g ∷ fs) ≤ effort w marks (f ∷ fs) = effort-passes w marks f g fs passes in
    let old : work w (g ∷ fs) ≡ (length (left_of w g) + 1) + work w fs = sum_by-cons (λ x. length (left_of w x) + 1) g fs in
    let next : work w (next_frame g ∷ fs) ≡ (length (left_of w (next_frame g)) + 1) + work w fs = sum_by-cons (λ x. length (left_of w x) + 1) (next_frame g) fs in
    let shorter : length (left_of w g) ≡ suc (length (left_of w (next_frame g))) = ap length leads in
    omega (arith, before, old, next, shorter)

-- what the loop of a walk keeps, for each way and list from which it may have begun
pub record KeepsWalk (w : List Node) (tests : Bool) (start : ℕ) (first marks : List Mark) (order : List ℕ) (fs : List Frame) : Type 0 where
  pub inside : IsInGraph (length w) marks fs
  pub walks : (way done : List ℕ) → AreMarks (length w) first way done → Walks w tests start way done marks (done ++ order) fs

pub KeepsWalk-begin : (w : List Node) (tests : Bool) (start : ℕ) (first : List Mark) (order : List ℕ) (fs : List Frame) → length first ≡ length w → start < length w → mark_at first start ≡ New → (tests && (node_at w start).installs) ≡ false → order ≡ [] → fs ≡ first_frame start ∷ [] → KeepsWalk w tests start first (set first start Open) order fs
KeepsWalk-begin w tests start first order fs long within new free none one = record {
  inside = subst (λ l. IsInGraph (length w) (set first start Open) l) (sym one) (IsInGraph-start (length w) first start long within);
  walks = λ way done marked.
      let k : Walks w tests start way done (set first start Open) done (first_frame start ∷ []) = Walks-start w tests start way done first long within new free marked in
      let e : done ++ order ≡ done = ap (λ l. done ++ l) none ∙ append-nil done in
      rw (e, one) k;
}

pub KeepsWalk-finish : {w : List Node} {tests : Bool} {start : ℕ} {first marks : List Mark} {order after : List ℕ} {f : Frame} {fs : List Frame} → KeepsWalk w tests start first marks order (f ∷ fs) → left_of w f ≡ [] → after ≡ order ++ f.slot ∷ [] → KeepsWalk w tests start first (set marks f.slot Done) after fs
KeepsWalk-finish {w} {tests} {start} {first} {marks} {order} {after} {f} {fs} k over grown = record {
  inside = IsInGraph-finish k.inside Done;
  walks = λ way done marked.
      let e : (done ++ order) ++ f.slot ∷ [] ≡ done ++ after = append_assoc done order (f.slot ∷ []) ∙ ap (λ l. done ++ l) (sym grown) in
      subst (λ l. Walks w tests start way done (set marks f.slot Done) l fs) e (Walks-finish k.inside (k.walks way done marked) over);
}

pub KeepsWalk-pass : {w : List Node} {tests : Bool} {start : ℕ} {first marks : List Mark} {order : List ℕ} {f : Frame} {fs : List Frame} → KeepsWalk w tests start first marks order (f ∷ fs) → (m : ℕ) → Leads w f (Slot m) → mark_at marks m ≡ Done → m < length w → KeepsWalk w tests start first marks order (next_frame f ∷ fs)
KeepsWalk-pass k m leads mark within = record {
  inside = record { long = k.inside.long; below = k.inside.below };
  walks = λ way done marked. Walks-pass (k.walks way done marked) m leads mark within;
}

pub KeepsWalk-passes : {w : List Node} {tests : Bool} {start : ℕ} {first marks : List Mark} {order : List ℕ} {f : Frame} {fs : List Frame} (g : Frame) → KeepsWalk w tests start first marks order (f ∷ fs) → Passes w marks f g → KeepsWalk w tests start first marks order (g ∷ fs)
KeepsWalk-passes _ k here = k
KeepsWalk-passes _ k (past g m passes leads mark within) = KeepsWalk-pass (KeepsWalk-passes g k passes) m leads mark within

-- a module is finished past its last target
pub KeepsWalk-finished : {w : List Node} {tests : Bool} {start : ℕ} {first marks : List Mark} {order after : List ℕ} {f : Frame} {fs : List Frame} (g : Frame) → KeepsWalk w tests start first marks order (f ∷ fs) → Passes w marks f g → left_of w g ≡ [] → after ≡ order ++ f.slot ∷ [] → KeepsWalk w tests start first (set marks f.slot Done) after fs
KeepsWalk-finished {w} {tests} {start} {first} {marks} {order} {after} {f} {fs} g k passes over grown =
    let same : g.slot ≡ f.slot = passes-slot w marks f g passes in
    subst (λ m. KeepsWalk w tests start first (set marks m Done) after fs) same
    (KeepsWalk-finish (KeepsWalk-passes g k passes) over (grown ∙ ap (λ m. order ++ m ∷ []) (sym same)))

pub KeepsWalk-enter : {w : List Node} {tests : Bool} {start : ℕ} {first marks : List Mark} {order : List ℕ} {f : Frame} {fs : List Frame} → KeepsWalk w tests start first marks order (f ∷ fs) → (m : ℕ) → Leads w f (Slot m) → mark_at marks m ≡ New → (tests && (node_at w m).installs) ≡ false → m < length w → KeepsWalk w tests start first (set marks m Open) order (first_frame m ∷ next_frame f ∷ fs)
KeepsWalk-enter k m leads mark free within = record {
  inside = IsInGraph-enter k.inside m within Open;
  walks = λ way done marked. Walks-enter k.inside (k.walks way done marked) m leads mark free within;
}

-- a step that is the same for each target of a list is the same for the list
then_same : (r : Walk) (f h : List ℕ → Walk) → ((d : List ℕ) → f d ≡ h d) → (r >>= f) ≡ (r >>= h)
then_same (Ok d) f h same = same d
then_same (Err e) f h same = refl

each_same : (n : ℕ) (go by : List ℕ → Target → Walk) → ((done : List ℕ) (t : Target) → is_within n t ≡ true → go done t ≡ by done t) → (ts : List Target) (done : List ℕ) → list_all (is_within n) ts ≡ true → walk_each go done ts ≡ walk_each by done ts
each_same n go by same [] done all = refl
each_same n go by same (t ∷ ts) done all =
    let parts : (is_within n t ≡ true) × (list_all (is_within n) ts ≡ true) = and_true (is_within n t) (list_all (is_within n) ts) all in
    ap (λ r. r >>= λ d. walk_each go d ts) (same done t parts.0) ∙ then_same (by done t) (λ d. walk_each go d ts) (λ d. walk_each by d ts) (λ d. each_same n go by same ts d parts.1)

-- a module that is finished or on the way gives the same, whatever the fuel
settled : (w : List Node) (tests : Bool) (n k : ℕ) (way done : List ℕ) (m : ℕ) → (has done m ≡ true) ⊎ ((has done m ≡ false) × (has way m ≡ true)) → walk w tests n way done (Slot m) ≡ walk w tests k way done (Slot m)
settled w tests n k way done m h = elim h [
  | inl t ↦ walk-passed w tests n way done m t ∙ sym (walk-passed w tests k way done m t)
  | inr u ↦ walk-cycle w tests n way done m u.0 u.1 ∙ sym (walk-cycle w tests k way done m u.0 u.1)
]

-- no fuel is left only if the module is one of these
no_fuel : (n : ℕ) (way done : List ℕ) (m : ℕ) → IsDistinct nat_eq way → ((q : ℕ) → has way q ≡ true → q < n) → n ≤ zero + length way → m < n → (has done m ≡ true) ⊎ ((has done m ≡ false) × (has way m ≡ true))
no_fuel n way done m apart below enough within =
    elim (either_way (has done m)) [
      | inl t ↦ inl t
      | inr t ↦ elim (either_way (has way m)) [ inl u ↦ inr (t, u) | inr u ↦ (let room : suc (length way) ≤ n = room_for n way m apart below u within in absurd (omega arith)) ]
    ]

-- Two fuels that are both enough give the same walk.
pub walk_same : (w : List Node) (tests : Bool) → is_bounded w ≡ true → (n k : ℕ) (way done : List ℕ) (t : Target) → IsDistinct nat_eq way → ((q : ℕ) → has way q ≡ true → q < length w) → length w ≤ n + length way → length w ≤ k + length way → is_within (length w) t ≡ true → walk w tests n way done t ≡ walk w tests k way done t
walk_same w tests bounded n k way done (Missing name) apart below enough other within = walk-unknown w tests n way done name ∙ sym (walk-unknown w tests k way done name)
walk_same w tests bounded zero k way done (Slot m) apart below enough other within = settled w tests zero k way done m (no_fuel (length w) way done m apart below enough (ltb-true m (length w) within))
walk_same w tests bounded (suc n) zero way done (Slot m) apart below enough other within = settled w tests (suc n) zero way done m (no_fuel (length w) way done m apart below other (ltb-true m (length w) within))
walk_same w tests bounded (suc n) (suc k) way done (Slot m) apart below enough other within =
    let inside : m < length w = ltb-true m (length w) within in
    elim (either_way (has done m)) [
      | inl t ↦ settled w tests (suc n) (suc k) way done m (inl t)
      | inr t ↦ elim (either_way (has way m)) [
        | inl u ↦ settled w tests (suc n) (suc k) way done m (inr (t, u))
        | inr u ↦ elim (either_way (tests && (node_at w m).installs)) [
          | inl v ↦ walk-install w tests n way done m t u v ∙ sym (walk-install w tests k way done m t u v)
          | inr v ↦ walk-enter w tests n way done m t u v
              ∙ ap (λ r. r >>= λ d. Ok (d ++ m ∷ []))
              (each_same (length w) (walk w tests n (m ∷ way)) (walk w tests k (m ∷ way))
              (λ d t2 in2. walk_same w tests bounded n k (m ∷ way) d t2 (IsDistinct-cons nat_eq m way (apart_from way m u) apart) (below_cons (length w) way m below inside) (omega arith) (omega arith) in2)
              (node_at w m).hard done (named_within w m bounded).0)
              ∙ sym (walk-enter w tests k way done m t u v)
        ]
      ]
    ]
