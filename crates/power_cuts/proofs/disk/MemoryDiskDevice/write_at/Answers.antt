use Rattle.std.proofs.Common.{◌≡◌, ◌++◌, ◌∷◌, [], List, ℕ, length, sym, ap, subst, rules}
use Rattle.line_journal.specs.Device.{Torn, overwritten}
use Rattle.power_cuts.specs.declared.state.Call.{Call}
use Rattle.power_cuts.specs.declared.state.Call.TheVariants.{Write}
use Rattle.power_cuts.specs.declared.state.State.{State}
use Rattle.power_cuts.specs.Log.{noted}
use Rattle.power_cuts.specs.Disk.{read_of}
use Rattle.power_cuts.proofs.DiskLemmas.{stays_as, change_goes, torn_not, torn_done}
use Rattle.power_cuts.proofs.disk.MemoryDiskDevice.write_at.Goals as goal

pub returns-in_err-count-clause-crash : goal.returns-in_err-count-clause-crash
returns-in_err-count-clause-crash c =
    let file = c.args.self.now in
    let new = c.count.new.self in
    stays_as (noted file.past) (noted new.past) file.state new.state (ap noted c.in_err-count.ensures.past) c.in_err-count.ensures.state
    (λ left. torn_not left c.args.place (length c.args.bytes.now))

pub returns-in_err-next-clause-crash : goal.returns-in_err-next-clause-crash
returns-in_err-next-clause-crash c =
    let file = c.args.self.now in
    let new = c.count.new.self in
    stays_as (noted file.past) (noted new.past) file.state new.state (ap noted c.in_ok-count.ensures.past) c.in_ok-count.ensures.state
    (λ left. torn_not left c.args.place (length c.args.bytes.now))

pub returns-clause-crash : goal.returns-clause-crash
returns-clause-crash c =
    let file = c.args.self.now in
    let new = c.change.new.self in
    let place = c.args.place in
    let bytes = c.args.bytes.now in
    let more : noted new.past ≡ noted file.past ++ file.state ∷ [] = search rules in
    let same : new.state.disk ≡ file.state.disk = search rules in
    let grows : noted new.state.unsynced ≡ noted file.state.unsynced ++ Write place (length bytes) ∷ [] = search rules in
    let is : read_of new.state ≡ overwritten (read_of file.state) place bytes = search rules in
    change_goes (noted file.past) (noted new.past) file.state new.state (Write place (length bytes)) more same grows
    (subst (λ (f : List ℕ). Torn place (length bytes) (read_of file.state) f) (sym is) (torn_done (read_of file.state) bytes place c.requires))
