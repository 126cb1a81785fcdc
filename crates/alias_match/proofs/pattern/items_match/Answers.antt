use Rattle.std.proofs.Common.{◌≤◌, ◌+◌, rules, ap, arith, length, subst}
use Rattle.std.proofs.Math.Nat.{add-mul, le_trans, mul-le-mul_right}
use Rattle.alias_match.proofs.Matching.{pieces_again, left_again, Keeps-again, Keeps-behind, Keeps-over, Keeps-taken}
use Rattle.alias_match.proofs.Places.{place_of}
use Rattle.alias_match.proofs.pattern.items_match.Goals as goal

pub walk-preserved-in-Run : goal.walk-preserved-in-Run
walk-preserved-in-Run c = Keeps-behind (rw c.in-Run.ensures at c.walk.invariant) c.next_end-rest.ensures.end c.again-items-in-Run.ensures.same

pub walk-preserved-in-Taken : goal.walk-preserved-in-Taken
walk-preserved-in-Taken c =
    let taken = c.in-Taken.ensures in
    Keeps-taken c.walk.invariant taken.0 taken.1 taken.2 taken.3 taken.4

pub returns-in-Short : goal.returns-in-Short
returns-in-Short c = (λ h. absurd (search rules), λ m. absurd (Keeps-over c.walk.invariant c.in-Short.ensures.0 c.in-Short.ensures.1 m))

pub walk-preserved : goal.walk-preserved
walk-preserved c =
    let next = c.in-Some-later.ensures in
    rw c.again-items-in-Stuck.ensures.same (Keeps-again c.walk.invariant next.first (ap place_of c.in-Some.is) next.split next.same next.end c.in-Stuck.ensures)

pub walk-smaller-in-Run : goal.walk-smaller-in-Run
walk-smaller-in-Run c =
    let times = mul-le-mul_right (length c.args.pattern + 1) (le_trans c.next_end-rest.ensures.shorter c.walk.invariant.left) in
    omega (arith, times, ap (λ l. length l) c.in-Run.ensures, ap (λ l. length l) c.again-items-in-Run.ensures.same)

pub walk-smaller : goal.walk-smaller
walk-smaller c =
    let next = c.in-Some-later.ensures in
    let place = ap place_of c.in-Some.is in
    let few = subst (λ back. length (pieces_again back) ≤ length c.args.pattern) place c.walk.invariant.few_again in
    let fewer : length c.in-Some-later.next.text.now + 1 ≤ left_again (place_of c.walk.retry) c.args.text.now =
    omega (arith, next.shorter, ap (λ back. left_again back c.args.text.now) place) in
    let times = mul-le-mul_right (length c.args.pattern + 1) fewer in
    let behind = add-mul (length c.in-Some-later.next.text.now) 1 (length c.args.pattern + 1) in
    omega (arith, few, times, behind, ap (λ l. length l) next.same, ap (λ l. length l) c.again-items-in-Stuck.ensures.same)
