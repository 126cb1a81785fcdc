-- Serves proofs alone: what a visit has learnt of hard walks.
use Rattle.std.specs.Prelude.{◌≡◌, ℕ, ◌+◌, ◌<◌, ◌⊎◌, true, false, List, [], ◌∷◌, ◌++◌, drop, length, slice_index_or, Option, None, Some, Contains}
use Rattle.std.specs.List.{list_all}
use Rattle.load_plan.specs.declared.graph.Target.{Target}
use Rattle.load_plan.specs.declared.graph.Target.TheVariants.{Slot, Missing}
use Rattle.load_plan.specs.declared.walk.Mark.{Mark}
use Rattle.load_plan.specs.declared.walk.Frame.{Frame}
use Rattle.load_plan.specs.declared.trial.Lesson.{Lesson}
use Rattle.load_plan.specs.declared.trial.Lesson.TheVariants as lesson
use Rattle.load_plan.specs.declared.learnt.Learnt.{Learnt}
use Rattle.load_plan.specs.declared.learnt.Meeting.{Meeting}
use Rattle.load_plan.specs.declared.learnt.Verdict.{Verdict}
use Rattle.load_plan.specs.declared.learnt.Verdict.TheVariants.{Unknown, Faulty, Meets, Free}
use Rattle.load_plan.specs.declared.learnt.Told.{Told}
use Rattle.load_plan.specs.declared.learnt.Told.TheVariants as told
use Rattle.load_plan.specs.Graph.{Node, node_at}
use Rattle.load_plan.specs.Laws.{is_in, IsOrder}
use Rattle.load_plan.specs.Walk.{has}
use Rattle.load_plan.specs.ForProofs.{InVisit}

abbrev pub verdict_at : List Verdict → ℕ → Verdict
verdict_at verdicts m = slice_index_or verdicts m Unknown

-- an order of modules that a walk may enter
pub record IsPassable (graph : List Node) (ms : List ℕ) : Type 0 where
  pub order : IsOrder graph ms
  pub entered : (q : ℕ) → has ms q ≡ true → (node_at graph q).installs ≡ false

-- no such order has the module: its hard walk has a fault
abbrev pub IsBarred : List Node → ℕ → Type 0
IsBarred graph m = (ms : List ℕ) → IsPassable graph ms → has ms m ≡ true → ⊥

-- each such order with the module has the other one too
abbrev pub Needs : List Node → ℕ → ℕ → Type 0
Needs graph m r = (ms : List ℕ) → IsPassable graph ms → has ms m ≡ true → has ms r ≡ true

-- each such order with the module has the other one before it
abbrev pub StandsOn : List Node → ℕ → ℕ → Type 0
StandsOn graph m r = (ms : List ℕ) → IsPassable graph ms → has ms m ≡ true → (below : List ℕ) × IsPassable graph below × (has below r ≡ true) × (length below < length ms)

-- what a verdict says, whatever is in progress
abbrev pub Holds : List Node → ℕ → Verdict → Type 0
Holds graph m Faulty = IsBarred graph m
Holds graph m (Meets r) = Needs graph m r
Holds graph m _ = Unit {0}

-- each module of the list stands after those of its hard dependencies that are not in the other list
pub data IsOver (graph : List Node) (done : List ℕ) : List ℕ → Type 0 where
  none : IsOver graph done []
  more : (ms : List ℕ) (m : ℕ) → IsOver graph done ms → m < length graph → (node_at graph m).installs ≡ false → list_all (is_in (done ++ ms)) (node_at graph m).hard ≡ true → IsOver graph done (ms ++ m ∷ [])

-- the verdict of each module of the list has its place
abbrev pub ArePlaced : List Verdict → List ℕ → Type 0
ArePlaced verdicts order = (i : ℕ) → i < length order → verdict_at verdicts (slice_index_or order i 0) ≡ Free i

-- if the list has the module, by its verdict
abbrev pub IsPlaceOf : List Verdict → List ℕ → ℕ → Option ℕ → Type 0
IsPlaceOf verdicts order m (Some place) = (place < length order) × (slice_index_or order place 0 ≡ m) × (verdict_at verdicts m ≡ Free place)
IsPlaceOf verdicts order m None = ArePlaced verdicts order → has order m ≡ false

-- What was learnt while these modules are in progress and those are in the visit's list.
pub record IsLearnt (graph : List Node) (progress done : List ℕ) (verdicts : List Verdict) (order : List ℕ) : Type 0 where
  pub over : IsOver graph done order
  pub apart : (q : ℕ) → has progress q ≡ true → has order q ≡ false
  pub placed : ArePlaced verdicts order
  pub holds : (m : ℕ) → m < length graph → Holds graph m (verdict_at verdicts m)

abbrev pub Knows : List Node → List ℕ → List ℕ → Learnt → Type 0
Knows graph progress done learnt = IsLearnt graph progress done learnt.verdicts.items learnt.order.items

-- what was known stays known, wherever the visit with these marks has come to
abbrev pub StaysKnown : List Node → List Mark → Learnt → Learnt → Type 0
StaysKnown graph marks before after = InVisit graph marks (λ progress done. Knows graph progress done before → Knows graph progress done after)

-- what is told of a module
abbrev pub IsTold : List Node → List ℕ → List ℕ → List ℕ → ℕ → Told → Type 0
IsTold graph progress done order m told.Free = has (done ++ order) m ≡ true
IsTold graph progress done order m (told.Meets r) = (has progress r ≡ true) × Needs graph m r
IsTold graph progress done order m told.Faulty = IsBarred graph m
IsTold graph progress done order m told.Nothing = (has order m ≡ false) × (has progress m ≡ false)

-- nothing is told of the module
abbrev pub IsNew : List Node → List Mark → Learnt → ℕ → Type 0
IsNew graph marks learnt m = InVisit graph marks (λ progress done. Knows graph progress done learnt → IsTold graph progress done learnt.order.items m told.Nothing)

abbrev pub TargetNeeds : List Node → Target → ℕ → Type 0
TargetNeeds graph (Slot m) r = Needs graph m r
TargetNeeds graph (Missing name) r = ⊥

-- a module in progress, and one that one of the targets meets
pub record IsMet (graph : List Node) (progress : List ℕ) (targets : List Target) (meeting : Meeting) : Type 0 where
  pub on : has progress meeting.met ≡ true
  pub target : Target
  pub among : Contains targets target
  pub needs : TargetNeeds graph target meeting.named

-- who is on the way: the last module, or one before it
abbrev pub IsOnWay : List Frame → ℕ → ℕ → Type 0
IsOnWay way last m = (m ≡ last) ⊎ ((frame : Frame) × Contains way frame × (frame.slot ≡ m))

-- each module of a way whose top stands first stands on the one above it, and the top on this module
abbrev pub IsWay : List Node → List Frame → ℕ → Type 0
IsWay graph [] m = Unit {0}
IsWay graph (frame ∷ frames) m = StandsOn graph frame.slot m × IsWay graph frames frame.slot

-- the target is one of the hard dependencies of the module
abbrev pub IsHard : List Node → ℕ → Target → Type 0
IsHard graph m target = (k : ℕ) × (drop k (node_at graph m).hard ≡ target ∷ drop (k + 1) (node_at graph m).hard)

-- what comes next is of the graph, and who is entered is a hard dependency
abbrev pub IsLesson : List Node → Frame → Lesson → Type 0
IsLesson graph frame (lesson.Stay next) = next.slot ≡ frame.slot
IsLesson graph frame (lesson.Enter m) = (m < length graph) × StandsOn graph frame.slot m
IsLesson graph frame lesson.Back = Unit {0}
