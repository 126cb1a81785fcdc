use Rattle.std.proofs.Common.{refl, inr, subst, ◌∙◌}
use Rattle.std.specs.Io.KnownBytes.{Appends}
use Rattle.std.proofs.lemmas.Result.{err_from_is_err_and}
use Rattle.modprobe_words.specs.Begun.{IsBegun}
use Rattle.table_words.specs.declared.ending.Ending.TheVariants.{Done}
use Rattle.gz_table_drive.proofs.program.answer_check.Goals as goal

pub returns-clause-written : goal.returns-clause-written
returns-clause-written g c = (
  c.in_ok-check.field-0,
  subst (Appends (g.O.Write.contents c.args.output.now) (g.O.Write.contents c.write_whole.new.output)) (c.deref.ensures.value ∙ c.in_ok-text.ensures) c.in_ok-write_whole.ensures.written,
  refl,
)

pub returns-in_err-write_whole-clause-failed : goal.returns-in_err-write_whole-clause-failed
returns-in_err-write_whole-clause-failed g c =
    let begun = subst (IsBegun (g.O.Write.contents c.args.output.now) (g.O.Write.contents c.write_whole.new.output)) c.deref.ensures.value c.write_whole.ensures.begun in
    let p = err_from_is_err_and c.from_residual-in_err-write_whole.result c.from_residual-in_err-write_whole.ensures.1 in
    rw (p.1, p.2) (inr (c.in_err-write_whole.ensures.failed, (c.in_ok-text.text.items, Done, (c.in_ok-check.field-0, c.in_ok-text.ensures, refl), begun)))
