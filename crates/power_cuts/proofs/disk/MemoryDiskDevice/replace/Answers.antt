use Rattle.std.proofs.Common.{◌≡◌, ◌++◌, ◌∷◌, [], inl, inr, refl, rules}
use Rattle.power_cuts.specs.Log.{noted}
use Rattle.power_cuts.specs.Disk.{read_of}
use Rattle.power_cuts.proofs.DiskLemmas.{settle_goes}
use Rattle.power_cuts.proofs.disk.MemoryDiskDevice.replace.Goals as goal

pub returns-clause-crash : goal.returns-clause-crash
returns-clause-crash c =
    let file = c.args.self.now in
    let past = c.note.new.self in
    let new = c.lose.new.self in
    let more : noted past ≡ noted file.past ++ file.state ∷ [] = search rules in
    let same : read_of new ≡ new.disk.items = search rules in
    let is : new.disk.items ≡ c.args.bytes.now = search rules in
    settle_goes (noted file.past) (noted past) file.state new more c.lose.ensures.unsynced same (read_of file.state) (inl refl) (inr is)
