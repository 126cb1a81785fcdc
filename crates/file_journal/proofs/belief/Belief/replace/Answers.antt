use Rattle.std.proofs.Common.{refl}
use Rattle.file_journal.specs.Counts.{is_look}
use Rattle.file_journal.proofs.CallLemmas.{replaced_goes, not_replaced_goes, replaced, not_counted, not_counted_or_not}
use Rattle.file_journal.proofs.belief.Belief.replace.Goals as goal

pub returns-in_err-replace-clause-crash : goal.returns-in_err-replace-clause-crash
returns-in_err-replace-clause-crash g c = not_replaced_goes c.in_err-replace.ensures.err

pub returns-in_err-replace-clause-looks : goal.returns-in_err-replace-clause-looks
returns-in_err-replace-clause-looks g c = not_counted_or_not is_look refl c.in_err-replace.ensures.err

pub returns-clause-on_disk : goal.returns-clause-on_disk
returns-clause-on_disk g c = replaced c.args.names.now.syncs c.in_ok-replace.ensures.ok

pub returns-clause-crash : goal.returns-clause-crash
returns-clause-crash g c = replaced_goes c.args.names.now.syncs c.in_ok-replace.ensures.ok

pub returns-clause-looks : goal.returns-clause-looks
returns-clause-looks g c = not_counted is_look refl c.in_ok-replace.ensures.ok
