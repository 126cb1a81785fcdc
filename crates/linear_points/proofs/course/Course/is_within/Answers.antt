use Rattle.std.proofs.Common.{rules, sym, ◌∙◌, ap, ◌≡◌, Some, None, length, List, ◌<◌}
use Rattle.std.specs.List.{slice_get}
use Rattle.linear_points.specs.declared.intervals.Interval.{Interval}
use Rattle.linear_points.proofs.Kept.{none_within, contained, within_contained, slice_get-past, slice_get_found}
use Rattle.linear_points.proofs.course.Course.is_within.Goals as goal

pub returns-in-None : goal.returns-in-None
returns-in-None c =
    let none : slice_get c.args.self.now.intervals.items c.args.point.now.call ≡ None = ap (λ (xs : List Interval). slice_get xs c.args.point.now.call) (sym c.deref.ensures.value) ∙ slice_get-past c.deref.result.now c.args.point.now.call c.in-None.ensures.lookup.3 in
    (λ h. cc, λ within. absurd (none_within c.args.self.now.events.items c.args.self.now.intervals.items c.args.point.now c.requires none within))

pub returns-then-point-len : goal.returns-then-point-len
returns-then-point-len c =
    let found : slice_get c.args.self.now.intervals.items c.args.point.now.call ≡ Some c.in-Some.interval.now =
    ap (λ (xs : List Interval). slice_get xs c.args.point.now.call) (sym c.deref.ensures.value) ∙ slice_get_found c.deref.result.now c.args.point.now.call c.in-Some.interval.now c.in-Some.ensures.lookup.3.0 c.in-Some.ensures.lookup.1 in
    let made : c.args.point.now.index < length c.args.self.now.events.items = search rules in (
      λ h. within_contained c.args.self.now.events.items c.args.self.now.intervals.items c.args.point.now c.in-Some.interval.now c.requires found made (c.contains.ensures.0 h),
      λ within. c.contains.ensures.1 (contained c.args.self.now.events.items c.args.self.now.intervals.items c.args.point.now c.in-Some.interval.now c.requires found within),
    )
