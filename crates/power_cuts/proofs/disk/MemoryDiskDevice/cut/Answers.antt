use Rattle.std.proofs.Common.{◌≡◌, ◌++◌, ◌∷◌, [], List, ℕ, take, sym, ap, subst, rules}
use Rattle.line_journal.specs.Device.{Shortened}
use Rattle.power_cuts.specs.declared.state.Call.TheVariants.{Cut}
use Rattle.power_cuts.specs.Log.{noted}
use Rattle.power_cuts.specs.Disk.{read_of}
use Rattle.power_cuts.proofs.DiskLemmas.{stays_as, change_goes, shortened_not, shortened_done}
use Rattle.power_cuts.proofs.disk.MemoryDiskDevice.cut.Goals as goal

pub returns-in_err-count-clause-crash : goal.returns-in_err-count-clause-crash
returns-in_err-count-clause-crash c =
    let file = c.args.self.now in
    let new = c.count.new.self in
    stays_as (noted file.past) (noted new.past) file.state new.state (ap noted c.in_err-count.ensures.past) c.in_err-count.ensures.state
    (λ left. shortened_not left c.args.size)

pub returns-in_err-next-clause-crash : goal.returns-in_err-next-clause-crash
returns-in_err-next-clause-crash c =
    let file = c.args.self.now in
    let new = c.count.new.self in
    stays_as (noted file.past) (noted new.past) file.state new.state (ap noted c.in_ok-count.ensures.past) c.in_ok-count.ensures.state
    (λ left. shortened_not left c.args.size)

pub returns-clause-crash : goal.returns-clause-crash
returns-clause-crash c =
    let file = c.args.self.now in
    let new = c.change.new.self in
    let size = c.args.size in
    let more : noted new.past ≡ noted file.past ++ file.state ∷ [] = search rules in
    let same : new.state.disk ≡ file.state.disk = search rules in
    let grows : noted new.state.unsynced ≡ noted file.state.unsynced ++ Cut size ∷ [] = search rules in
    let is : read_of new.state ≡ take size (read_of file.state) = search rules in
    change_goes (noted file.past) (noted new.past) file.state new.state (Cut size) more same grows
    (subst (λ (f : List ℕ). Shortened size (read_of file.state) f) (sym is) (shortened_done (read_of file.state) size))
