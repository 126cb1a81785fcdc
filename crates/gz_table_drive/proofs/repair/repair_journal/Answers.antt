use Rattle.std.proofs.Common.{◌≡◌, sym, subst}
use Rattle.line_journal.specs.Lines.{at_rest, lines_of}
use Rattle.gz_table_drive.proofs.LogLemmas.{ended_with}
use Rattle.gz_table_drive.proofs.repair.repair_journal.Goals as goal

pub returns-clause-repaired : goal.returns-clause-repaired
returns-clause-repaired g c =
    let bytes = c.in_ok-device.device.belief.bytes.items in
    record {
      bytes = bytes;
      belief = c.believed.result.value;
      noted = ended_with bytes c.believed.result.value c.args.log.now c.begin_over.new.log c.end.new.self c.in_ok-begin_over.ensures.begun c.end.ensures;
      of = c.in_ok-repaired.ensures.of;
      left = subst (λ belief. belief.bytes.items ≡ at_rest (lines_of bytes)) (sym c.believed.ensures) c.in_ok-repaired.ensures.left;
    }
