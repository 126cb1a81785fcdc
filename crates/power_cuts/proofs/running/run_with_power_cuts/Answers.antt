use Rattle.power_cuts.specs.Disk.{faults_of}
use Rattle.power_cuts.specs.Cuts.{past_of, cut_offs_of}
use Rattle.power_cuts.proofs.RunLemmas.{new_stands, ended_from_none}
use Rattle.power_cuts.proofs.running.run_with_power_cuts.Goals as goal

pub tenures_are_durably_linearizable-disk-requires-clause-new : goal.tenures_are_durably_linearizable-disk-requires-clause-new
tenures_are_durably_linearizable-disk-requires-clause-new c =
    new_stands c.args.setup.now c.create.new.device c.new-world.new.device c.new-world.ensures.state c.in_ok-create.ensures.on_disk (c.in_ok-create.ensures.opens c.args.setup.now)

pub returns-clause-ended : goal.returns-clause-ended
returns-clause-ended c =
    let run = c.tenures_are_durably_linearizable-disk in
    ended_from_none c.args.repair (cut_offs_of c.new-world.result) (cut_offs_of run.new.world) (faults_of c.new-world.new.device) (faults_of run.result) (past_of run.new.world)
    c.new-world.ensures.cut_offs run.ensures.ended
