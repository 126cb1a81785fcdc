use Rattle.std.proofs.Common.{◌≡◌, List, ℕ, subst, rules}
use Rattle.file_journal.specs.Belief.{IsReplaced}
use Rattle.file_journal.proofs.device.FileDeviceDevice.replace.Goals as goal

pub returns-in-Ok-replace-clause-settled : goal.returns-in-Ok-replace-clause-settled
returns-in-Ok-replace-clause-settled g c =
    let next = c.in_ok-next.next.items in
    let is_copy : next ≡ c.args.bytes.now = search rules in
    subst (λ (b : List ℕ). IsReplaced c.args.self.now.disk.syncs b c.args.self.now.belief c.replace.new.belief) is_copy c.in-Ok-replace.ensures.settled
