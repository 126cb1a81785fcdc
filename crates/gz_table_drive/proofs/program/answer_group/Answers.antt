use Rattle.std.proofs.Common.{[], arith, refl, sym, ap, subst, ◌∙◌, take}
use Rattle.std.proofs.lemmas.Result.{err_from_is_err_and}
use Rattle.line_journal.specs.Lines.{bytes_of}
use Rattle.table_words.specs.Endings.{behind}
use Rattle.table_folder.specs.declared.folder_setup.FolderSetup.{FolderSetup}
use Rattle.gz_table_drive.specs.Written.{AreFirstSent, IsAnswered}
use Rattle.gz_table_drive.proofs.SentLemmas.{none_sent, turn_stopped}
use Rattle.gz_table_drive.proofs.WrittenLemmas.{Turns, turn_more, turns_begin}
use Rattle.gz_table_drive.proofs.program.answer_group.Goals as goal

pub loop-rest-init : goal.loop-rest-init
loop-rest-init g c = record {
  lines = c.requires;
  turns = turns_begin c.args.kept.now.setup.now c.args.lines.now c.args.log.now (g.O.Write.contents c.args.output.now);
  setup = refl;
}

pub loop-rest-preserved : goal.loop-rest-preserved
loop-rest-preserved g c =
    let s = c.args.kept.now.setup.now in
    let inv = c.loop-rest.invariant in
    let answered = c.in_ok-answered.answered in
    let old = g.O.Write.contents c.args.output.now in
    let mid = g.O.Write.contents c.loop-rest.output in
    let new = g.O.Write.contents c.answer_turn.new.output in
    let log = c.answer_turn.new.log in
    record {
      lines = c.lines_behind-rest.ensures.lines;
      turns = subst (Turns s c.args.lines.now c.lines_behind-rest.result.now c.args.log.now log old new) (sym (c.behind-ending.ensures ∙ ap (behind c.loop-rest.ending) c.ending.ensures))
          (turn_more s c.args.lines.now c.loop-rest.rest.now c.lines_behind-rest.result.now c.args.log.now c.loop-rest.log log old mid new c.loop-rest.ending answered.replies answered.count
          inv.turns c.in_ok-answered.ensures.within
          (subst (λ (f : FolderSetup). IsAnswered f (take answered.count (bytes_of c.loop-rest.rest.now)) c.loop-rest.log log answered.replies) inv.setup c.in_ok-answered.ensures.answered)
          c.in_ok-answered.ensures.written c.lines_behind-rest.ensures.rest);
      setup = c.answer_turn.ensures.setup ∙ inv.setup;
    }

pub returns-in_err-turn-clause-stopped : goal.returns-in_err-turn-clause-stopped
returns-in_err-turn-clause-stopped g c =
    let s = c.args.kept.now.setup.now in
    let old = g.O.Write.contents c.args.output.now in
    let now = g.O.Write.contents c.loop-rest.output in
    let fault = c.in_err-turn.field-0.0 in
    let p = err_from_is_err_and c.from_residual.result c.from_residual.ensures.1 in
    rw (p.1, p.2) (turn_stopped s c.args.lines.now c.loop-rest.rest.now c.args.log.now c.loop-rest.log c.loop-rest.log old now now c.loop-rest.ending fault
    c.loop-rest.invariant.turns (none_sent s (bytes_of c.loop-rest.rest.now) c.loop-rest.log now fault))

pub returns-in_err-answered-clause-stopped : goal.returns-in_err-answered-clause-stopped
returns-in_err-answered-clause-stopped g c =
    let s = c.args.kept.now.setup.now in
    let inv = c.loop-rest.invariant in
    let old = g.O.Write.contents c.args.output.now in
    let mid = g.O.Write.contents c.loop-rest.output in
    let new = g.O.Write.contents c.answer_turn.new.output in
    let fault = c.in_err-answered.field-0.0 in
    let p = err_from_is_err_and c.from_residual-in_err-answered.result c.from_residual-in_err-answered.ensures.1 in
    rw (p.1, p.2) (turn_stopped s c.args.lines.now c.loop-rest.rest.now c.args.log.now c.loop-rest.log c.answer_turn.new.log old mid new c.loop-rest.ending fault inv.turns
    (subst (λ (f : FolderSetup). AreFirstSent f (bytes_of c.loop-rest.rest.now) c.loop-rest.log c.answer_turn.new.log mid new fault) inv.setup c.in_err-answered.ensures.stopped))
