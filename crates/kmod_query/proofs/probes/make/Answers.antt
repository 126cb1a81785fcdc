use Rattle.kmod_query.specs.World.{facts_of}
use Rattle.kmod_query.proofs.ProbeLemmas.{OnOk-map}
use Rattle.kmod_query.proofs.probes.make.Goals as goal

pub returns-in-Soft-clause-made : goal.returns-in-Soft-clause-made
returns-in-Soft-clause-made c = rw c.in-Soft.is c.probe_soft.ensures.made

pub returns-in-Fill-clause-made : goal.returns-in-Fill-clause-made
returns-in-Fill-clause-made c = rw c.in-Fill.is (OnOk-map c.fill.result (λ made. made (facts_of c.args.world.now)) c.fill.ensures.made)

pub returns-in-Add-clause-made : goal.returns-in-Add-clause-made
returns-in-Add-clause-made c = rw c.in-Add.is (OnOk-map c.add.result (λ made. made (facts_of c.args.world.now)) c.add.ensures.made)
