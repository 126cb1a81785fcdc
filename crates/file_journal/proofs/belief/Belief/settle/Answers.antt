use Rattle.std.proofs.Common.{◌≡◌, ℕ, List, refl, subst}
use Rattle.std.specs.declared.snapshot.Snapshot.{Snapshot}
use Rattle.file_journal.specs.declared.calls.kinds.Call.TheVariants.{Again}
use Rattle.file_journal.specs.declared.calls.kinds.Noted.{Noted}
use Rattle.file_journal.specs.Calls.{IsNoted}
use Rattle.file_journal.specs.Counts.{is_look, is_write}
use Rattle.file_journal.proofs.CallLemmas.{settle_goes, again_goes, settled, not_counted}
use Rattle.file_journal.proofs.belief.Belief.settle.Goals as goal

pub returns-in-Ok-clause-on_disk : goal.returns-in-Ok-clause-on_disk
returns-in-Ok-clause-on_disk g c = settled c.args.syncs c.in-Ok.ensures.ok

pub returns-in-Ok-clause-crash : goal.returns-in-Ok-clause-crash
returns-in-Ok-clause-crash g c = settle_goes c.args.syncs c.in-Ok.ensures.ok

pub returns-in-Ok-clause-looks : goal.returns-in-Ok-clause-looks
returns-in-Ok-clause-looks g c = not_counted is_look refl c.in-Ok.ensures.ok

pub returns-in-Ok-clause-writes : goal.returns-in-Ok-clause-writes
returns-in-Ok-clause-writes g c = not_counted is_write refl c.in-Ok.ensures.ok

-- (the sync that failed was not noted)
again : {bytes : List ℕ} {old calls later : List (Snapshot Noted)} → calls ≡ old → IsNoted Again bytes bytes calls later → IsNoted Again bytes bytes old later
again {bytes} {old} {calls} {later} same noted = subst (λ (before : List (Snapshot Noted)). IsNoted Again bytes bytes before later) same noted

pub returns-in_ok-write_again-in-Err-clause-crash : goal.returns-in_ok-write_again-in-Err-clause-crash
returns-in_ok-write_again-in-Err-clause-crash g c = again_goes (again c.in-Err.ensures.err c.in_ok-write_again-in-Err.ensures.ok)

pub returns-in_ok-write_again-in-Err-clause-looks : goal.returns-in_ok-write_again-in-Err-clause-looks
returns-in_ok-write_again-in-Err-clause-looks g c = not_counted is_look refl (again c.in-Err.ensures.err c.in_ok-write_again-in-Err.ensures.ok)

pub returns-in_ok-write_again-in-Err-clause-writes : goal.returns-in_ok-write_again-in-Err-clause-writes
returns-in_ok-write_again-in-Err-clause-writes g c = not_counted is_write refl (again c.in-Err.ensures.err c.in_ok-write_again-in-Err.ensures.ok)
