use Rattle.std.proofs.Common.{sym, ap, subst, ◌∙◌, OnOk}
use Rattle.gz_table_drive.specs.Adopting.{adopting_lines}
use Rattle.gz_table_drive.specs.Log.{IsJournalOf, LeavesAfter, LeavesOf}
use Rattle.gz_table_drive.proofs.LogLemmas.{ended_with, grown_none, has_made}
use Rattle.gz_table_drive.proofs.adopt.adopt_noted.Goals as goal

pub returns-in_err-begin_over-clause-grown : goal.returns-in_err-begin_over-clause-grown
returns-in_err-begin_over-clause-grown g c = grown_none c.args.log.now c.begin_over.new.log c.in_err-begin_over.ensures.none

pub returns-clause-made : goal.returns-clause-made
returns-clause-made g c =
    let f = c.args.setup.now in
    let held = c.args.table.now.session.holders.held in
    let lines = adopting_lines f.setup held c.args.kernel.now in
    let bytes = c.device.result.now.belief.bytes.items in
    let belief = sym (c.believed.ensures ∙ ap (λ device. device.belief) c.device-2.ensures) in
    has_made f held lines bytes c.believed.result.value c.args.log.now c.end.new.self c.adopt_file-adopted.result
    (ended_with bytes c.believed.result.value c.args.log.now c.begin_over.new.log c.end.new.self c.in_ok-begin_over.ensures.begun c.end.ensures)
    (subst (λ device. IsJournalOf f held device.belief.bytes.items) (sym c.device.ensures) (record { stands = c.requires.stands.same; of = c.requires.of }))
    (subst (λ belief. OnOk c.adopt_file-adopted.result (LeavesAfter f.setup held lines belief)) belief
    (subst (λ s. OnOk c.adopt_file-adopted.result (LeavesAfter s held (adopting_lines s held c.args.kernel.now) c.adopt_file-adopted.new.table.journal.lines.device.belief)) c.requires.of_setup c.adopt_file-adopted.ensures.left))
    (subst (LeavesOf f) belief c.adopt_file-adopted.ensures.left_of)
