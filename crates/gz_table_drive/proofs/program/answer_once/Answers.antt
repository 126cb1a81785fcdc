use Rattle.std.proofs.Common.{[], arith, ◌≡◌, ◌<◌, ◌∷◌, ap, subst, ◌∙◌, inr, length, take, Vec, ℕ}
use Rattle.std.specs.declared.alloc.Global.{Global}
use Rattle.std.specs.Io.KnownBytes.{Appends}
use Rattle.std.proofs.lemmas.List.{length-map}
use Rattle.std.proofs.lemmas.Result.{err_from_is_err_and}
use Rattle.text_parts.specs.Text.{texts_of}
use Rattle.line_journal.specs.Lines.{bytes_of}
use Rattle.table_words.specs.Lines.{line_of}
use Rattle.table_folder.specs.declared.folder_setup.FolderSetup.{FolderSetup}
use Rattle.gz_table_drive.specs.Written.{AreFirstSent, IsAnswered}
use Rattle.gz_table_drive.proofs.WrittenLemmas.{alone_answered, line_written}
use Rattle.gz_table_drive.proofs.program.answer_once.Goals as goal

pub returns-clause-written : goal.returns-clause-written
returns-clause-written g c =
    let line = line_of (texts_of c.args.words.now) in
    let lines = c.deref-4.result.now in
    let answered = c.in_ok-answered.answered in
    let one : bytes_of lines ≡ line ∷ [] = ap bytes_of c.deref-4.ensures.value ∙ c.in_ok-lines.ensures.one in
    let some : 0 < answered.count = c.in_ok-answered.ensures.some (omega (arith, ap length one, length-map lines (λ (v : Vec ℕ Global). v.items))) in
    line_written c.in_ok-setup.ensures.found.0 c.in_ok-setup.setup.value line (take answered.count (bytes_of lines)) c.args.log.now c.answer_turn.new.log
    (g.O.Write.contents c.args.output.now) (g.O.Write.contents c.answer_turn.new.output) answered.replies c.first_ending.result c.in_ok-setup.ensures.found.1
    (alone_answered line (bytes_of lines) answered.count one some)
    (subst (λ (f : FolderSetup). IsAnswered f (take answered.count (bytes_of lines)) c.args.log.now c.answer_turn.new.log answered.replies)
    (c.new-kept.ensures ∙ c.deref-3.ensures) c.in_ok-answered.ensures.answered)
    c.in_ok-answered.ensures.written c.first_ending.ensures

pub returns-in_err-answered-clause-failed : goal.returns-in_err-answered-clause-failed
returns-in_err-answered-clause-failed g c =
    let line = line_of (texts_of c.args.words.now) in
    let lines = c.deref-4.result.now in
    let one : bytes_of lines ≡ line ∷ [] = ap bytes_of c.deref-4.ensures.value ∙ c.in_ok-lines.ensures.one in
    let fault = c.in_err-answered.field-0.0 in
    let p = err_from_is_err_and c.from_residual-in_err-answered.result c.from_residual-in_err-answered.ensures.1 in
    rw (p.1, p.2) (inr record {
      file = c.in_ok-setup.ensures.found.0;
      found = c.in_ok-setup.setup.value;
      read = c.in_ok-setup.ensures.found.1;
      sends = subst (λ (f : FolderSetup). AreFirstSent f (line ∷ []) c.args.log.now c.answer_turn.new.log (g.O.Write.contents c.args.output.now) (g.O.Write.contents c.answer_turn.new.output) fault)
          (c.new-kept.ensures ∙ c.deref-3.ensures)
          (subst (λ asked. AreFirstSent c.new-kept.result.setup.now asked c.args.log.now c.answer_turn.new.log (g.O.Write.contents c.args.output.now) (g.O.Write.contents c.answer_turn.new.output) fault) one c.in_err-answered.ensures.stopped);
    })
