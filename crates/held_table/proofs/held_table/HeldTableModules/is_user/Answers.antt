use Rattle.std.proofs.Common.{◌≡◌, ◌↔◌, IsTrue, Contains, subst, arith, not, ◌&&◌}
use Rattle.std.proofs.lemmas.Grind.{common_steps}
use Rattle.dep_index.specs.Table.{state_of, is_absent, needs_slot, users}
use Rattle.held_table.specs.Held.{HeldOver}
use Rattle.seq_table.proofs.Users.{user_tells}
use Rattle.held_table.proofs.held_table.HeldTableModules.is_user.Goals as goal

pub returns-then-not-is_absent-clause-user : goal.returns-then-not-is_absent-clause-user
returns-then-not-is_absent-clause-user c =
    let told : c.needs_slot.result ≡ (not (is_absent (state_of c.self.inside.book c.args.user)) && needs_slot c.self.inside.slots c.args.slot c.args.user) = grind (arith, common_steps) in
    subst (λ (t : HeldOver). IsTrue c.needs_slot.result ↔ Contains (users t.catalogue t.held.table.book c.args.slot) c.args.user) c.self.view_is
    (user_tells c.self.inside.slots c.self.inside.book c.args.user c.args.slot _ c.self.invariant.0.lawful.order told)

pub returns-else-not-is_absent-clause-user : goal.returns-else-not-is_absent-clause-user
returns-else-not-is_absent-clause-user c =
    let told : not c.is_absent.result ≡ (not (is_absent (state_of c.self.inside.book c.args.user)) && needs_slot c.self.inside.slots c.args.slot c.args.user) = grind (arith, common_steps) in
    subst (λ (t : HeldOver). IsTrue (not c.is_absent.result) ↔ Contains (users t.catalogue t.held.table.book c.args.slot) c.args.user) c.self.view_is
    (user_tells c.self.inside.slots c.self.inside.book c.args.user c.args.slot _ c.self.invariant.0.lawful.order told)
