use Rattle.std.proofs.Common.{refl}
use Rattle.file_journal.specs.Counts.{is_look, is_write}
use Rattle.file_journal.proofs.CallLemmas.{read_goes, not_counted}
use Rattle.file_journal.proofs.belief.Belief.read.Goals as goal

pub returns-then-agrees-clause-crash : goal.returns-then-agrees-clause-crash
returns-then-agrees-clause-crash g c = read_goes c.args.place c.in_ok-read.ensures.ok

pub returns-then-agrees-clause-looks : goal.returns-then-agrees-clause-looks
returns-then-agrees-clause-looks g c = not_counted is_look refl c.in_ok-read.ensures.ok

pub returns-then-agrees-clause-writes : goal.returns-then-agrees-clause-writes
returns-then-agrees-clause-writes g c = not_counted is_write refl c.in_ok-read.ensures.ok

pub returns-else-agrees-clause-crash : goal.returns-else-agrees-clause-crash
returns-else-agrees-clause-crash g c = read_goes c.args.place c.in_ok-read.ensures.ok

pub returns-else-agrees-clause-looks : goal.returns-else-agrees-clause-looks
returns-else-agrees-clause-looks g c = not_counted is_look refl c.in_ok-read.ensures.ok

pub returns-else-agrees-clause-writes : goal.returns-else-agrees-clause-writes
returns-else-agrees-clause-writes g c = not_counted is_write refl c.in_ok-read.ensures.ok
