use Rattle.std.proofs.Common.{[], arith, inl, inr, subst, ℕ, take, length, Vec}
use Rattle.std.specs.declared.alloc.Global.{Global}
use Rattle.std.proofs.lemmas.List.{length-map}
use Rattle.std.specs.Io.KnownBytes.{Appends}
use Rattle.std.proofs.lemmas.Result.{IfOk-weaker, err_from_is_err_and}
use Rattle.line_journal.specs.Lines.{bytes_of}
use Rattle.modprobe_words.specs.Begun.{IsBegun}
use Rattle.gz_table_drive.proofs.SentLemmas.{first_of, first_sent}
use Rattle.gz_table_drive.proofs.WrittenLemmas.{answered_alone}
use Rattle.gz_table_drive.proofs.program.answer_turn.Goals as goal

pub returns-clause-answered : goal.returns-clause-answered
returns-clause-answered g c =
    answered_alone c.args.kept.now.setup.now (take c.in_ok-count.count (bytes_of c.args.lines.now)) c.args.log.now c.answer_in_tenure-answered.new.log
    c.new-replies.result c.answer_in_tenure-answered.new.replies c.new-replies.ensures.text c.new-replies.ensures.endings c.in_ok-count.ensures.answered

pub returns-clause-written : goal.returns-clause-written
returns-clause-written g c =
    subst (Appends (g.O.Write.contents c.args.output.now) (g.O.Write.contents c.write_whole.new.output)) c.deref.ensures.value c.in_ok-write_whole.ensures.written

pub returns-in_err-write_whole-clause-stopped : goal.returns-in_err-write_whole-clause-stopped
returns-in_err-write_whole-clause-stopped g c =
    let s = c.args.kept.now.setup.now in
    let lines = bytes_of c.args.lines.now in
    let old = g.O.Write.contents c.args.output.now in
    let new = g.O.Write.contents c.write_whole.new.output in
    let none = c.new-replies.result in
    let replies = c.answer_in_tenure-answered.new.replies in
    let log = c.answer_in_tenure-answered.new.log in
    let answered = c.answer_in_tenure-answered.result in
    let first = first_of s lines c.args.log.now log none replies answered
    (IfOk-weaker answered _ _ (λ count below. omega (arith, below, length-map c.args.lines.now (λ (v : Vec ℕ Global). v.items))) c.answer_in_tenure-answered.ensures.within)
    c.answer_in_tenure-answered.ensures.answered c.answer_in_tenure-answered.ensures.stopped in
    let begun = subst (IsBegun old new) c.deref.ensures.value c.write_whole.ensures.begun in
    let p = err_from_is_err_and c.from_residual.result c.from_residual.ensures.1 in
    rw (p.1, p.2) (first_sent s lines c.args.log.now log old new none replies c.in_err-write_whole.field-0.0 c.new-replies.ensures.text first
    (inr (c.in_err-write_whole.ensures.failed, begun)))

pub returns-in_err-count-clause-stopped : goal.returns-in_err-count-clause-stopped
returns-in_err-count-clause-stopped g c =
    let s = c.args.kept.now.setup.now in
    let lines = bytes_of c.args.lines.now in
    let old = g.O.Write.contents c.args.output.now in
    let new = g.O.Write.contents c.write_whole.new.output in
    let whole = subst (Appends old new) c.deref.ensures.value c.in_ok-write_whole.ensures.written in
    let p = err_from_is_err_and c.from_residual-in_err-count.result c.from_residual-in_err-count.ensures.1 in
    rw (p.1, p.2) (first_sent s lines c.args.log.now c.answer_in_tenure-answered.new.log old new c.new-replies.result c.answer_in_tenure-answered.new.replies
    c.in_err-count.field-0.0 c.new-replies.ensures.text c.in_err-count.ensures.stopped (inl whole))
