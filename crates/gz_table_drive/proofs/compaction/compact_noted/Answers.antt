use Rattle.std.proofs.Common.{◌≡◌, List, ℕ, Ok, refl, sym, ap, subst, ◌∙◌}
use Rattle.line_journal.specs.Device.{AlwaysLeaves}
use Rattle.line_journal.specs.Lines.{lines_of}
use Rattle.line_journal.proofs.Moments.{leaves_now}
use Rattle.durable_table.specs.Compacting.{compacted}
use Rattle.file_journal.specs.Belief.{history_of}
use Rattle.gz_table_drive.specs.Log.{IsJournalOf}
use Rattle.gz_table_drive.proofs.LogLemmas.{ended_with, grown_none}
use Rattle.gz_table_drive.proofs.compaction.compact_noted.Goals as goal

pub returns-in_err-begin_over-clause-grown : goal.returns-in_err-begin_over-clause-grown
returns-in_err-begin_over-clause-grown g c = grown_none c.args.log.now c.begin_over.new.log c.in_err-begin_over.ensures.none

pub returns-in-Ok-clause-done : goal.returns-in-Ok-clause-done
returns-in-Ok-clause-done g c = λ done.
    let f = c.args.setup.now in
    let held = c.args.table.now.session.holders.held in
    let bytes = c.device.result.now.belief.bytes.items in
    let belief = sym (c.believed.ensures ∙ ap (λ device. device.belief) c.device-2.ensures) in
    record {
      held = held;
      bytes = bytes;
      belief = c.believed.result.value;
      noted = ended_with bytes c.believed.result.value c.args.log.now c.begin_over.new.log c.end.new.self c.in_ok-begin_over.ensures.begun c.end.ensures;
      found = subst (λ device. IsJournalOf f held device.belief.bytes.items) (sym c.device.ensures)
          (record { stands = c.requires.stands.same; of = c.requires.of });
      lines = subst (λ belief. lines_of belief.bytes.items ≡ compacted f.name.items f.setup held) belief (c.in-Ok.ensures.written (ap Ok done));
      left = subst (λ belief. (file : _) → (history_of belief).leaves file → IsJournalOf f held file) belief (leaves_now c.in-Ok.ensures.any_moment);
    }

pub returns-in-Ok-clause-kept : goal.returns-in-Ok-clause-kept
returns-in-Ok-clause-kept g c = λ kept.
    let f = c.args.setup.now in
    let held = c.args.table.now.session.holders.held in
    let bytes = c.device.result.now.belief.bytes.items in
    record {
      held = held;
      bytes = bytes;
      belief = c.believed.result.value;
      noted = ended_with bytes c.believed.result.value c.args.log.now c.begin_over.new.log c.end.new.self c.in_ok-begin_over.ensures.begun c.end.ensures;
      found = subst (λ device. IsJournalOf f held device.belief.bytes.items) (sym c.device.ensures)
          (record { stands = c.requires.stands.same; of = c.requires.of });
      cannot = c.in-Ok.ensures.needed (ap Ok kept);
    }
