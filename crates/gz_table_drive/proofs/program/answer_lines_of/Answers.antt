use Rattle.std.proofs.Common.{inr, subst, ◌∙◌}
use Rattle.std.proofs.lemmas.Result.{IfErr-weaker, IfOk-weaker}
use Rattle.table_folder.specs.declared.folder_setup.FolderSetup.{FolderSetup}
use Rattle.gz_table_drive.specs.Written.{AnswersInput, SendsInput}
use Rattle.gz_table_drive.proofs.program.answer_lines_of.Goals as goal

pub returns-clause-written : goal.returns-clause-written
returns-clause-written g c =
    IfOk-weaker c.answer_input.result _ _
    (λ ending answers. record {
      file = c.in_ok-setup.ensures.found.0;
      found = c.in_ok-setup.setup.value;
      read = c.in_ok-setup.ensures.found.1;
      answers = subst (λ (f : FolderSetup). AnswersInput f (g.I.Read.remaining c.args.input.now) c.args.log.now c.answer_input.new.log (g.O.Write.contents c.args.output.now) (g.O.Write.contents c.answer_input.new.output) ending)
          (c.new-kept.ensures ∙ c.deref.ensures) answers;
    })
    c.answer_input.ensures.written

pub returns-clause-stopped : goal.returns-clause-stopped
returns-clause-stopped g c =
    IfErr-weaker c.answer_input.result _ _
    (λ fault sends. inr record {
      file = c.in_ok-setup.ensures.found.0;
      found = c.in_ok-setup.setup.value;
      read = c.in_ok-setup.ensures.found.1;
      sends = subst (λ (f : FolderSetup). SendsInput f (g.I.Read.remaining c.args.input.now) c.args.log.now c.answer_input.new.log (g.O.Write.contents c.args.output.now) (g.O.Write.contents c.answer_input.new.output) fault)
          (c.new-kept.ensures ∙ c.deref.ensures) sends;
    })
    c.answer_input.ensures.stopped
