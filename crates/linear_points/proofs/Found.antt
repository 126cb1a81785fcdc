-- The points that a machine's run is found to have.
use Rattle.std.proofs.Common.{◌≡◌, ℕ, ◌<◌, List, sym, ◌∙◌, ap, subst}
use Rattle.dep_index.specs.Table.{Module}
use Rattle.dep_index.specs.History.{RemovalsAreSafe, LegalIsSafe}
use Rattle.dep_index.specs.Words.{closed}
use Rattle.step_core.specs.declared.steps.Step.{Step}
use Rattle.step_core.specs.declared.steps.Event.{Event}
use Rattle.linear_points.specs.declared.point.Point.{Point}
use Rattle.linear_points.specs.Run.{IsRun, run_events, run_calls, points_from}
use Rattle.linear_points.specs.Linearization.{IsLinearization, answers}
use Rattle.linear_points.proofs.Headline.{runs_are_linear}

pub found_linear : (catalogue : List Module) (workers threads : ℕ) (steps : List Step) (es : List Event) (found : List Point) → workers < closed
    → IsRun catalogue workers threads steps → es ≡ run_events catalogue workers threads steps
    → found ≡ points_from 0 es → IsLinearization catalogue workers threads steps found
found_linear catalogue workers threads steps es found few run told points =
    subst (IsLinearization catalogue workers threads steps) (sym (points ∙ ap (points_from 0) told)) (runs_are_linear catalogue workers threads steps few run)

pub found_safe : LegalIsSafe → (catalogue : List Module) (workers threads : ℕ) (steps : List Step) (found : List Point) → IsLinearization catalogue workers threads steps found
    → RemovalsAreSafe catalogue workers (answers (run_calls catalogue workers threads steps) found)
found_safe legal_is_safe catalogue workers threads steps found linear = legal_is_safe catalogue workers (answers (run_calls catalogue workers threads steps) found) linear.legal
