use Rattle.std.proofs.Common.{ap, subst}
use Rattle.dep_index.specs.declared.table.calls.Call.TheVariants.{Get}
use Rattle.dep_index.specs.Refusals.{reply_of, get_refusal}
use Rattle.root_row.specs.declared.view.SeatName.TheVariants as name_is
use Rattle.managed_table.specs.Turns.{pass_of, MadeOneCall}
use Rattle.managed_table.specs.Callers.{CallerIs}
use Rattle.managed_table.proofs.Missing.{made_later}
use Rattle.managed_table.proofs.InHand.{has_leaf, still_own}
use Rattle.managed_table.proofs.table.ManagedTable.get.Goals as goal

pub returns-then-not-try_take-clause-call : goal.returns-then-not-try_take-clause-call
returns-then-not-try_take-clause-call g c =
    let row = c.args.self.now.row in
    let call = Get c.args.worker c.args.slot in
    let reply = reply_of get_refusal c.wait_and_get.result in
    let after = pass_of c.wait_and_get.new.seat.me.0 in
    subst (λ (k : CallerIs). MadeOneCall row c.args.worker (name_is.Leaf c.args.worker) call reply k.leaves.pass after) c.caller.view_is
    (made_later row c.args.worker 1 (name_is.Leaf c.args.worker) call reply (pass_of c.caller.inside.leaves.me.0) (pass_of c.try_take.new.seat.me.0) after (ap pass_of c.if-not-try_take.ensures.told.0) c.wait_and_get.ensures.turn.made)

pub invariant_of-caller-in-Some : goal.invariant_of-caller-in-Some
invariant_of-caller-in-Some g c =
    let took = has_leaf c.args.self.now c.caller.inside.leaves _ c.args.caller.now c.caller.view_is c.requires.own c.try_take.new.seat c.args.worker c.if-not-try_take.ensures.id c.if-not-try_take.ensures.told in
    let made = c.in-Some.ensures.ends (pass_of c.caller.inside.leaves.me.0) took in
    (made.free.2, c.caller.invariant.1)

pub returns-in-Some-clause-own : goal.returns-in-Some-clause-own
returns-in-Some-clause-own g c =
    let took = has_leaf c.args.self.now c.caller.inside.leaves _ c.args.caller.now c.caller.view_is c.requires.own c.try_take.new.seat c.args.worker c.if-not-try_take.ensures.id c.if-not-try_take.ensures.told in
    let made = c.in-Some.ensures.ends (pass_of c.caller.inside.leaves.me.0) took in
    still_own c.args.self.now c.caller.inside.leaves _ c.args.caller.now c.caller.view_is c.requires.own c.end_by_get.new.seat made.free

pub end_by_long_get-requires-clause-has : goal.end_by_long_get-requires-clause-has
end_by_long_get-requires-clause-has g c =
    let took = has_leaf c.args.self.now c.caller.inside.leaves _ c.args.caller.now c.caller.view_is c.requires.own c.try_take.new.seat c.args.worker c.if-not-try_take.ensures.id c.if-not-try_take.ensures.told in
    (pass_of c.caller.inside.leaves.me.0, c.in_default.ensures.ends (pass_of c.caller.inside.leaves.me.0) took)

pub invariant_of-caller-2 : goal.invariant_of-caller-2
invariant_of-caller-2 g c =
    let took = has_leaf c.args.self.now c.caller.inside.leaves _ c.args.caller.now c.caller.view_is c.requires.own c.try_take.new.seat c.args.worker c.if-not-try_take.ensures.id c.if-not-try_take.ensures.told in
    let made = c.end_by_long_get.ensures.ends (pass_of c.caller.inside.leaves.me.0) (c.in_default.ensures.ends (pass_of c.caller.inside.leaves.me.0) took) in
    (made.free.2, c.caller.invariant.1)

pub returns-clause-own : goal.returns-clause-own
returns-clause-own g c =
    let took = has_leaf c.args.self.now c.caller.inside.leaves _ c.args.caller.now c.caller.view_is c.requires.own c.try_take.new.seat c.args.worker c.if-not-try_take.ensures.id c.if-not-try_take.ensures.told in
    let made = c.end_by_long_get.ensures.ends (pass_of c.caller.inside.leaves.me.0) (c.in_default.ensures.ends (pass_of c.caller.inside.leaves.me.0) took) in
    still_own c.args.self.now c.caller.inside.leaves _ c.args.caller.now c.caller.view_is c.requires.own c.end_by_long_get.new.seat made.free
