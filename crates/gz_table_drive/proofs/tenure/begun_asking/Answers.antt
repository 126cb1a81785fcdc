use Rattle.std.proofs.Common.{sym, subst}
use Rattle.gz_table_drive.specs.Log.{IsJournalOf}
use Rattle.gz_table_drive.proofs.tenure.begun_asking.Goals as goal

pub returns-in-Ok-clause-begun : goal.returns-in-Ok-clause-begun
returns-in-Ok-clause-begun g c = λ f is. (
  c.device.result.now.belief.bytes.items,
  c.in-Ok.ensures.begun,
  subst (λ device. IsJournalOf f c.rested.result.session.holders.held device.belief.bytes.items) (sym c.device.ensures)
      (subst (λ session. IsJournalOf f session.holders.held c.args.table.journal.lines.device.belief.bytes.items) (sym c.rested.ensures.session) is),
)
