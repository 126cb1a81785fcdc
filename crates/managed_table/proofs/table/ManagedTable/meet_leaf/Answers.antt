use Rattle.std.proofs.Common.{rules, ◌≡◌, ap, ◌∙◌, subst}
use Rattle.root_row.specs.declared.view.SeatName.TheVariants as name_is
use Rattle.managed_table.specs.Turns.{pass_of}
use Rattle.managed_table.specs.Callers.{CallerIs}
use Rattle.managed_table.specs.Hearing.{Met}
use Rattle.managed_table.proofs.Telling.{leaf_met}
use Rattle.managed_table.proofs.table.ManagedTable.meet_leaf.Goals as goal

pub returns-clause-met : goal.returns-clause-met
returns-clause-met g c =
    let row : (pass_of c.caller.inside.leaves.me.0).row.value ≡ c.args.self.now.row = ap (λ (k : CallerIs). k.leaves.pass.row.value) c.caller.view_is ∙ c.requires.own.1 in
    subst (λ (k : CallerIs). Met c.args.self.now.row c.args.worker (name_is.Leaf c.args.worker) k.leaves.pass (pass_of c.turn.new.seat.me.0) c.args.reader.view c.turn.result.view) c.caller.view_is
    (leaf_met c.args.self.now.row _ _ row _ _ _ (λ x y h. search rules) c.args.worker c.turn.ensures.turn)
