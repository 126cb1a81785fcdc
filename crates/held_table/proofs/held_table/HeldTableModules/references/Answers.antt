use Rattle.std.proofs.Common.{◌≤◌, arith}
use Rattle.seq_table.proofs.Users.{users_fit}
use Rattle.held_table.proofs.held_table.HeldTableModules.references.Goals as goal

few_users : (c : goal.After-user_count) → c.user_count.result ≤ 65535
few_users c =
    let kept = c.self.invariant.0 in
    omega (arith, users_fit c.self.inside.slots c.self.inside.book c.args.slot kept.lawful.order, kept.shape.states, kept.slots, c.user_count.ensures)

pub overflow_cast-result : goal.overflow_cast-result
overflow_cast-result c = omega (arith, few_users c)

pub overflow_add-result : goal.overflow_add-result
overflow_add-result c = omega (arith, few_users c, c.total.ensures.bound)
