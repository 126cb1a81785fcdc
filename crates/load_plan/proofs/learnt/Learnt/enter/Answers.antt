use Rattle.std.proofs.Common.{◌≡◌, ◌<◌, ◌≤◌, arith, false, get_or, length, take}
use Rattle.load_plan.specs.declared.learnt.Verdict.TheVariants.{Free}
use Rattle.load_plan.specs.Walk.{has}
use Rattle.load_plan.specs.Learnt.{verdict_at, IsLearnt}
use Rattle.load_plan.proofs.Lessons.{Learnt-cut, Learnt-enter_new}
use Rattle.load_plan.proofs.learnt.Learnt.enter.Goals as goal
use Rattle.load_plan.proofs.learnt.Learnt.enter.Goals.{in-Some, in_default}

pub returns-clause-known : goal.returns-clause-known
returns-clause-known c graph progress done known = elim c.match-place_of.branch [
  | in-Some w ↦
      (let found : (w.in-Some.place < length c.args.self.now.order.items) × (get_or c.args.self.now.order.items w.in-Some.place 0 ≡ c.args.slot) × (verdict_at c.args.self.now.verdicts.items c.args.slot ≡ Free w.in-Some.place) = w.in-Some.ensures in
      let within : w.in-Some.place ≤ length c.args.self.now.order.items = omega (arith, found.0) in
      let cut : IsLearnt graph progress done c.args.self.now.verdicts.items (take w.in-Some.place c.args.self.now.order.items) × (has (take w.in-Some.place c.args.self.now.order.items) c.args.slot ≡ false) =
      Learnt-cut graph progress done c.args.self.now.verdicts.items c.args.self.now.order.items c.args.slot w.in-Some.place found.2 within known in
      rw (w.self-is, w.truncate.ensures.items) (Learnt-enter_new graph progress done c.args.self.now.verdicts.items (take w.in-Some.place c.args.self.now.order.items) c.args.slot c.args.depth c.requires cut.1 cut.0))
  | in_default w ↦ rw w.self-is (Learnt-enter_new graph progress done c.args.self.now.verdicts.items c.args.self.now.order.items c.args.slot c.args.depth c.requires (w.in_default.ensures known.placed) known)
]
