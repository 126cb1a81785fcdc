-- What the questions of the checker come to.
use Rattle.std.proofs.Common.{◌≡◌, ◌↔◌, ℕ, ◌<◌, Bool, List, length, map, replicate, sym, ◌∙◌, ap, subst}
use Rattle.std.proofs.lemmas.List.{length-replicate}
use Rattle.std.specs.Prelude.{IsTrue, All}
use Rattle.std.specs.List.Sorted.{IsStrictlyIncreasing}
use Rattle.dep_index.specs.declared.table.calls.Call.{Call}
use Rattle.dep_index.specs.Table.{Module, Table}
use Rattle.dep_index.specs.Calls.{opening, replies}
use Rattle.dep_index.specs.Laws.{AllInRange}
use Rattle.dep_index.specs.Words.{closed}
use Rattle.step_core.specs.declared.steps.Step.{Step}
use Rattle.step_core.specs.declared.steps.Event.{Event}
use Rattle.step_core.proofs.WholeSteps.{starts_sound}
use Rattle.linear_points.specs.declared.point.Point.{Point}
use Rattle.linear_points.specs.Run.{IsRun, run_start, run_events, run_calls}
use Rattle.linear_points.specs.Linearization.{IsLinearization, IsWithin, IsAsReturned, HasItsPoint, answers}
use Rattle.linear_points.proofs.Range.{calls_in_range}
use Rattle.linear_points.proofs.Headline.{calls_of_answers, replies_of_answers, invoked_in_range, points_in_range, legal_points}
use Rattle.linear_points.proofs.Replaying.{Replays}

pub run_calls_in_range : (catalogue : List Module) (workers threads : ℕ) (steps : List Step) → workers < closed → IsRun catalogue workers threads steps
    → AllInRange catalogue workers (run_calls catalogue workers threads steps)
run_calls_in_range catalogue workers threads steps few run =
    calls_in_range catalogue workers steps (run_start catalogue workers threads steps) (starts_sound catalogue workers threads (length steps) few).0 run

pub table_calls_in_range : (catalogue : List Module) (workers threads : ℕ) (steps : List Step) (over : List Module) (table : Table) (calls : List Call) → workers < closed → IsRun catalogue workers threads steps
    → over ≡ catalogue → table ≡ opening catalogue workers → calls ≡ run_calls catalogue workers threads steps
    → AllInRange over (length table.rows) calls
table_calls_in_range catalogue workers threads steps over table calls few run same opens told =
    subst (λ (m : List Module). AllInRange m (length table.rows) calls) (sym same)
    (subst (λ (n : ℕ). AllInRange catalogue n calls) (sym (ap (λ (t : Table). length t.rows) opens ∙ length-replicate workers (replicate (length catalogue) 0)))
    (subst (AllInRange catalogue workers) (sym told) (run_calls_in_range catalogue workers threads steps few run)))

-- if all else holds, the replay decides
pub replay_decides : (catalogue : List Module) (workers threads : ℕ) (steps : List Step) (points : List Point) (es : List Event) (over : List Module) (table : Table) (calls : List Call) (answer : Bool)
    → workers < closed → IsRun catalogue workers threads steps → es ≡ run_events catalogue workers threads steps → calls ≡ run_calls catalogue workers threads steps
    → over ≡ catalogue → table ≡ opening catalogue workers
    → IsStrictlyIncreasing (map (λ (p : Point). p.index) points) → All (IsWithin es) points → All (IsAsReturned es) points → ((n : ℕ) → HasItsPoint es points n)
    → IsTrue answer ↔ Replays over table calls points
    → IsTrue answer ↔ IsLinearization catalogue workers threads steps points
replay_decides catalogue workers threads steps points es over table calls answer few run told made same opens rising within answers once decides = (forth, back) where
  inside : All (IsWithin (run_events catalogue workers threads steps)) points
  inside = subst (λ (ys : List Event). All (IsWithin ys) points) told within

  replayed : Replays over table calls points → Replays catalogue (opening catalogue workers) (run_calls catalogue workers threads steps) points
  replayed e =
      subst (λ (cs : List Call). Replays catalogue (opening catalogue workers) cs points) made
      (subst (λ (t : Table). Replays catalogue t calls points) opens (subst (λ (m : List Module). Replays m table calls points) same e))

  replay : Replays catalogue (opening catalogue workers) (run_calls catalogue workers threads steps) points → Replays over table calls points
  replay e =
      subst (λ (m : List Module). Replays m table calls points) (sym same)
      (subst (λ (t : Table). Replays catalogue t calls points) (sym opens)
      (subst (λ (cs : List Call). Replays catalogue (opening catalogue workers) cs points) (sym made) e))

  forth : IsTrue answer → IsLinearization catalogue workers threads steps points
  forth h = record {
    rising = rising;
    within = inside;
    once = λ n. subst (λ (ys : List Event). HasItsPoint ys points n) told (once n);
    legal = legal_points catalogue workers (run_calls catalogue workers threads steps) points
        (points_in_range catalogue workers (run_calls catalogue workers threads steps) (run_events catalogue workers threads steps) points
        (run_calls_in_range catalogue workers threads steps few run) (invoked_in_range catalogue workers threads steps few run) inside)
        (replayed (decides.0 h));
    answers = subst (λ (ys : List Event). All (IsAsReturned ys) points) told answers;
  }

  back : IsLinearization catalogue workers threads steps points → IsTrue answer
  back linear =
      decides.1 (replay (ap (replies catalogue (opening catalogue workers)) (sym (calls_of_answers (run_calls catalogue workers threads steps) points))
      ∙ linear.legal.replay ∙ replies_of_answers (run_calls catalogue workers threads steps) points))

-- a linearization has each call's point
pub linear_once : (catalogue : List Module) (workers threads : ℕ) (steps : List Step) (points : List Point) (es : List Event) → es ≡ run_events catalogue workers threads steps
    → IsLinearization catalogue workers threads steps points → (n : ℕ) → HasItsPoint es points n
linear_once catalogue workers threads steps points es told linear n = subst (λ (ys : List Event). HasItsPoint ys points n) (sym told) (linear.once n)
