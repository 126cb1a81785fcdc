use Rattle.std.proofs.Common.{sym, ap, subst, ◌∙◌, List, ◌++◌}
use Rattle.tenures.specs.Tenures.{Tenure}
use Rattle.tenures.specs.Endings.{HaveEnded}
use Rattle.tenures.specs.Kept.{IsKept}
use Rattle.theorems.proofs.Keeping.{nothing_yet, linearized}
use Rattle.theorems.proofs.durability.tenures_are_durably_linearizable.Goals as goal

pub run-requires-clause-kept : goal.run-requires-clause-kept
run-requires-clause-kept g c =
    subst (λ past. IsKept c.args.setup.now past (g.D.Device.history c.args.device)) (sym c.requires.first)
    (λ file leaves. nothing_yet c.args.setup.now file (c.requires.new file leaves))

pub returns-clause-durable : goal.returns-clause-durable
returns-clause-durable g c file leaves =
    linearized c.args.setup.now (g.W.World.past c.run.new.world) file c.removals_find_no_holder.ensures (c.run.ensures.kept file leaves)

pub returns-clause-ended : goal.returns-clause-ended
returns-clause-ended g c =
    let ended = c.run.ensures.ended in
    subst
    (HaveEnded c.args.repair (g.W.World.cut_offs c.args.world.now) (g.W.World.cut_offs c.run.new.world) (g.D.Device.faults c.args.device) (g.D.Device.faults c.run.result))
    (sym (ended.1 ∙ ap (λ (ts : List Tenure). ts ++ ended.0) c.requires.first)) ended.2
