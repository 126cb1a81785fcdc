use Rattle.std.proofs.Common.{◌≡◌, ◌<◌, ◌+◌, ◌*◌, arith, false}
use Rattle.load_plan.specs.Parameters.{at_most, number_from, radix}
use Rattle.std.proofs.lemmas.Grind.{common_steps}
use Rattle.load_plan.proofs.Words.{too_large}
use Rattle.load_plan.proofs.values.is_within.Goals as goal

pub returns-then-number-limit : goal.returns-then-number-limit
returns-then-number-limit c =
    let above : c.args.limit < c.digits.number * radix c.args.base + c.in-Some-digit.digit = rw (← c.radix.ensures) c.if-number-limit.true in
    let large : at_most c.args.limit (number_from c.args.base (c.digits.number * radix c.args.base + c.in-Some-digit.digit) c.in-Some.later.now) ≡ false = too_large c.args.base c.args.limit (c.digits.number * radix c.args.base + c.in-Some-digit.digit) c.in-Some.later.now above in
    grind (arith, common_steps, large)
