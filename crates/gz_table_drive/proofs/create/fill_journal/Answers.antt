use Rattle.std.proofs.Common.{◌≡◌, [], ◌∷◌, sym, ap, subst}
use Rattle.line_journal.specs.Lines.{at_rest}
use Rattle.durable_table.specs.Commands.{head}
use Rattle.gz_table_drive.proofs.LogLemmas.{ended_with}
use Rattle.gz_table_drive.proofs.create.fill_journal.Goals as goal

pub returns-in-Ok-clause-created : goal.returns-in-Ok-clause-created
returns-in-Ok-clause-created g c = (
  c.args.device.now.belief.bytes.items,
  c.believed.result.value,
  ended_with c.args.device.now.belief.bytes.items c.believed.result.value c.args.log.now c.begin_over.new.log c.end.new.self c.in_ok-begin_over.ensures.begun c.end.ensures,
  subst (λ belief. belief.bytes.items ≡ at_rest (head c.args.name.now ∷ [])) (sym c.believed.ensures) c.in-Ok.ensures.created,
)
