use Rattle.std.proofs.Common.{refl, inr, subst}
use Rattle.std.proofs.lemmas.Result.{err_from_is_err_and}
use Rattle.modprobe_words.specs.Begun.{IsBegun}
use Rattle.table_words.specs.Endings.{ending_of_lines}
use Rattle.std.specs.Io.KnownBytes.{Appends}
use Rattle.gz_table_drive.proofs.program.answer_adopt.Goals as goal

pub returns-clause-written : goal.returns-clause-written
returns-clause-written g c =
    record {
      replies = c.in_ok-replies.replies;
      answered = c.in_ok-replies.ensures.adopted;
      text = subst (Appends (g.O.Write.contents c.args.output.now) (g.O.Write.contents c.write_whole.new.output)) c.deref.ensures.value c.in_ok-write_whole.ensures.written;
      ends = c.ending.ensures;
    }

pub returns-in_err-write_whole-clause-failed : goal.returns-in_err-write_whole-clause-failed
returns-in_err-write_whole-clause-failed g c =
    let replies = c.in_ok-replies.replies in
    let begun = subst (IsBegun (g.O.Write.contents c.args.output.now) (g.O.Write.contents c.write_whole.new.output)) c.deref.ensures.value c.write_whole.ensures.begun in
    let p = err_from_is_err_and c.from_residual-in_err-write_whole.result c.from_residual-in_err-write_whole.ensures.1 in
    rw (p.1, p.2) (inr (
      c.in_err-write_whole.ensures.failed,
      (replies.text.items, ending_of_lines replies.endings.items, record { replies = replies; answered = c.in_ok-replies.ensures.adopted; text = refl; ends = refl }, begun),
    ))
