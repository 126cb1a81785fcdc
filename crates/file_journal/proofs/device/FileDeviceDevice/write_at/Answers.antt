use Rattle.std.proofs.Common.{◌≡◌, List, ℕ, length, subst, sym, rules}
use Rattle.line_journal.specs.Device.{Goes, Torn}
use Rattle.file_journal.specs.declared.belief.Belief.{Belief}
use Rattle.file_journal.specs.Belief.{history_of, IsWritten}
use Rattle.file_journal.proofs.CallLemmas.{stays, torn_not}
use Rattle.file_journal.proofs.device.FileDeviceDevice.write_at.Goals as goal

pub returns-in_err-bytes-clause-crash : goal.returns-in_err-bytes-clause-crash
returns-in_err-bytes-clause-crash g c = stays (history_of c.args.self.now.belief) (torn_not c.args.place (length c.args.bytes.now))

pub returns-in-Err-clause-crash : goal.returns-in-Err-clause-crash
returns-in-Err-clause-crash g c =
    let place = c.args.place in
    let count = length c.args.bytes.now in
    let old = history_of c.args.self.now.belief in
    subst (λ (b : Belief). Goes (Torn place count) old (history_of b)) (sym c.report.ensures.belief) (stays old (torn_not place count))

pub returns-in-Ok-write-clause-noted : goal.returns-in-Ok-write-clause-noted
returns-in-Ok-write-clause-noted g c =
    let bytes = c.in_ok-bytes.bytes.items in
    let is_copy : bytes ≡ c.args.bytes.now = search rules in
    subst (λ (b : List ℕ). IsWritten c.args.place b c.args.self.now.belief c.write.new.self) is_copy c.in-Ok-write.ensures.noted
