use Rattle.std.proofs.Common.{refl, sym, ap, ◌∙◌, List, [], ◌∷◌, ◌++◌, append_assoc, append-nil}
use Rattle.tenures.specs.Tenures.{Tenure}
use Rattle.tenures.specs.Steps.{groups_of}
use Rattle.tenures.proofs.KeptLemmas.{tenure_of}
use Rattle.tenures.proofs.AskedLemmas.{asked_more}
use Rattle.tenures.proofs.EndingLemmas.{none_ended, one_more_ended}
use Rattle.tenures.proofs.processes.run.Goals as goal

pub loop-steps-init : goal.loop-steps-init
loop-steps-init g c =
    record {
      asked = sym (append-nil _);
      ended = ([], sym (append-nil _), none_ended c.args.repair (g.W.World.cut_offs c.args.world.now) (g.D.Device.faults c.args.device));
      kept = c.requires.kept;
      none = c.requires.none;
      since = c.requires.since;
      file = c.requires.file;
    }

pub loop-steps-preserved : goal.loop-steps-preserved
loop-steps-preserved g c =
    let first = g.W.World.past c.args.world.now in
    let old = g.W.World.past c.loop-steps.world in
    let more = g.W.World.past c.tenure.new.world in
    let asked = groups_of c.deref.result.now in
    let tenure : Tenure = tenure_of (g.D.Device.content c.loop-steps.device) asked c.tenure.ensures.past.0 c.tenure.result.1 in
    let before = c.loop-steps.invariant.ended in
    record {
      asked = asked_more first old more tenure c.args.processes.now c.loop-steps.steps-index c.steps-item.result c.deref.result.now
          c.loop-steps-test.true c.steps-item.is c.deref.ensures.value c.tenure.ensures.past.1 refl c.loop-steps.invariant.asked;
      ended = (
        before.0 ++ tenure ∷ [],
        c.tenure.ensures.past.1 ∙ ap (λ (ts : List Tenure). ts ++ tenure ∷ []) before.1 ∙ append_assoc first before.0 (tenure ∷ []),
        one_more_ended c.args.repair (g.W.World.cut_offs c.args.world.now) (g.W.World.cut_offs c.loop-steps.world) (g.W.World.cut_offs c.tenure.new.world)
            (g.D.Device.faults c.args.device) (g.D.Device.faults c.loop-steps.device) (g.D.Device.faults c.tenure.result.0) before.0 tenure
            before.2 c.tenure.ensures.past.2 c.tenure.ensures.cut_off c.tenure.ensures.failed c.tenure.ensures.found c.tenure.ensures.may_cut,
      );
      kept = c.tenure.ensures.kept;
      none = c.tenure.ensures.none;
      since = c.tenure.ensures.since;
      file = c.tenure.ensures.file;
    }
