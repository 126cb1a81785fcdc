use Rattle.power_cuts.proofs.DiskLemmas.{disk_is_left}
use Rattle.power_cuts.proofs.disk.MemoryDisk.cut_power.Goals as goal

pub returns-clause-left : goal.returns-clause-left
returns-clause-left c = disk_is_left c.args.self.now.state
