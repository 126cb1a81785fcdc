use Rattle.std.proofs.Common.{sym, ◌∙◌, ap, subst, length, List, ℕ, refl}
use Rattle.dep_index.specs.Table.{Module, Table}
use Rattle.dep_index.specs.Laws.{AllInRange}
use Rattle.linear_points.proofs.Replaying.{interval_calls, decides_on, differs, workers_kept}
use Rattle.linear_points.proofs.course.Course.replays.Goals as goal

pub answers_as-requires-clause-range : goal.answers_as-requires-clause-range
answers_as-requires-clause-range c =
    subst (λ (n : ℕ). AllInRange c.loop-point.table.catalogue n (interval_calls c.args.self.now.intervals.items)) (sym c.loop-point.invariant.workers)
    (subst (λ (m : List Module). AllInRange m (length c.args.table.table.rows) (interval_calls c.args.self.now.intervals.items)) (sym c.loop-point.invariant.over) c.requires.range)

pub returns-then-not-answers_as : goal.returns-then-not-answers_as
returns-then-not-answers_as c = (
  λ h. cc,
  λ e. absurd (differs c.loop-point.table.catalogue c.loop-point.table.table (interval_calls c.args.self.now.intervals.items) c.args.points.now c.loop-point.point-index _ _ c.loop-point-test.true refl
      (λ same. let answered = c.answers_as.ensures.answer.1 same in cc) (c.loop-point.invariant.decides.0 e)),
)

pub loop-point-preserved : goal.loop-point-preserved
loop-point-preserved c = record {
  over = c.answers_as.ensures.over ∙ c.loop-point.invariant.over;
  workers = ap (λ (t : Table). length t.rows) c.answers_as.ensures.becomes ∙ workers_kept c.loop-point.table.catalogue c.loop-point.table.table _ ∙ c.loop-point.invariant.workers;
  decides = decides_on _ c.loop-point.table.catalogue c.answers_as.new.table.catalogue c.loop-point.table.table c.answers_as.new.table.table (interval_calls c.args.self.now.intervals.items) c.args.points.now
      c.loop-point.point-index _ _ _ c.loop-point.invariant.decides c.loop-point-test.true refl refl (c.answers_as.ensures.answer.0 c.if-not-answers_as.false) c.answers_as.ensures.over c.answers_as.ensures.becomes;
}
