use Rattle.std.proofs.Common.{◌≡◌, ℕ, List, ◌∷◌, [], ◌++◌, ap, sym, subst, rules, ◌∙◌, refl, take, ◌<◌, length, inr}
use Rattle.std.proofs.lemmas.List.Elements.{All-nil}
use Rattle.text_parts.specs.Text.{Line}
use Rattle.std.specs.Io.KnownBytes.{Appends}
use Rattle.std.proofs.KnownBytes.{Appends-trans}
use Rattle.std.proofs.lemmas.Result.{err_from_is_err_and}
use Rattle.modprobe.specs.Lines.{AtHand, IfTold, hand_of, bytes_left, ending_bytes, texts}
use Rattle.modprobe.specs.Outcomes.{text_of}
use Rattle.modprobe.specs.Session.{line_reply, answer}
use Rattle.modprobe.specs.Run.{AllShort, StoppedForMemory, StoppedWriting, StandsAfter, run_fault_of}
use Rattle.std.specs.Str.Lines.{lines}
use Rattle.modprobe.proofs.RunLemmas.{answered_none, none_counted, answered_more, short-more, table-more, stands_in_line, all_answered, all_counted, counted_more, told_map}
use Rattle.modprobe.proofs.CutLemmas.{cuts_more, ended_more}
use Rattle.modprobe.proofs.TurnLemmas.{paid_none, paid_trans}
use Rattle.modprobe.proofs.runs.run_watched.Goals as goal

pub loop-watch-init : goal.loop-watch-init
loop-watch-init g c =
    let s = c.args.setup.now in
    let start = g.M.Modules.table c.args.table.now in
    record {
      reader_works = c.requires.reader_works;
      writer_works = c.requires.writer_works;
      same_reader = refl;
      same_setup = refl;
      same_table = refl;
      paid = paid_none g.R.Source.remaining c.args.lines.now;
      counted = refl;
      end = λ at_start. at_start;
      answered = (
        [],
        answered_none s start (bytes_left g.R.Source.remaining c.args.lines.now) (g.W.Sink.contents c.args.writer.now),
        λ still. All-nil (λ (line : Line). 0 < length line.ending),
        none_counted s start,
      );
    }

pub loop-watch-preserved : goal.loop-watch-preserved
loop-watch-preserved g c =
    let s = c.loop-watch.session.setup.now in
    let start = g.M.Modules.table c.args.table.now in
    let before = c.loop-watch.invariant.answered in
    let line = c.next_line.new.self.line.items in
    let cut : Line = record { text = line; ending = ending_bytes c.next_line.new.self.ending } in
    let given = c.in_ok-next_line.ensures.gave (rw c.if-branch.true refl) in
    let left = bytes_left g.R.Source.remaining in
    let wrote = g.W.Sink.contents in
    record {
      reader_works = c.in_ok-next_line.ensures.failed;
      writer_works = c.in_ok-write_all.ensures.failed;
      same_reader = c.in_ok-next_line.ensures.same_reader ∙ c.loop-watch.invariant.same_reader;
      same_setup = c.in_ok-reply.ensures.reply.same_setup ∙ c.loop-watch.invariant.same_setup;
      same_table = c.in_ok-reply.ensures.reply.same_table ∙ c.loop-watch.invariant.same_table;
      paid = paid_trans g.R.Source.remaining c.args.lines.now c.loop-watch.lines c.next_line.new.self c.loop-watch.invariant.paid given.paid;
      counted = c.in_ok-next_line.ensures.counted ∙ c.loop-watch.invariant.counted;
      end = λ at_start. c.in_ok-next_line.ensures.end (c.loop-watch.invariant.end at_start);
      answered = rw c.in_ok-reply.ensures.reply.same_setup (
        before.0 ++ cut ∷ [],
        answered_more s start (left c.args.lines.now) (wrote c.args.writer.now)
            (left c.loop-watch.lines) (left c.next_line.new.self) (wrote c.loop-watch.writer) (wrote c.write_all.new.writer)
            (g.M.Modules.table c.loop-watch.session.table.now) (g.M.Modules.table c.reply.new.self.table.now) before.0 cut (text_of c.in_ok-reply.reply)
            before.1 given.cut given.short (ap text_of (rw c.line-in-loop-watch.ensures at c.in_ok-reply.ensures.reply.answers)) (rw c.line-in-loop-watch.ensures at c.in_ok-reply.ensures.reply.becomes)
            (rw c.text.ensures at c.in_ok-write_all.ensures.ok),
        λ still. ended_more before.0 cut (before.2 given.going) (given.ended still),
        counted_more s start (g.M.Modules.table c.loop-watch.session.table.now) before.0 cut c.in_ok-reply.reply c.loop-watch.errors c.count_reply-errors.result
            before.3 before.1.after (rw c.line-in-loop-watch.ensures at c.in_ok-reply.ensures.reply.answers) c.count_reply-errors.ensures,
      );
    }

pub returns-in_err-write_all-clause-stands : goal.returns-in_err-write_all-clause-stands
returns-in_err-write_all-clause-stands g c =
    let p = err_from_is_err_and c.from_residual-in_err-write_all.result c.from_residual-in_err-write_all.ensures.1 in
    let s = c.args.setup.now in
    let start = g.M.Modules.table c.args.table.now in
    let same = c.loop-watch.invariant.same_setup in
    let before = rw same at c.loop-watch.invariant.answered in
    let line = c.next_line.new.self.line.items in
    let cut : Line = record { text = line; ending = ending_bytes c.next_line.new.self.ending } in
    let given = c.in_ok-next_line.ensures.gave (rw c.if-branch.true refl) in
    let left = bytes_left g.R.Source.remaining in
    let wrote = g.W.Sink.contents in
    let part = c.in_err-write_all.ensures.err in
    let reply : c.text.result.now ≡ (line_reply s (answer s start (texts before.0)).1 line).0 =
    c.text.ensures ∙ ap text_of (rw (c.line-in-loop-watch.ensures, same) at c.in_ok-reply.ensures.reply.answers) ∙ ap (λ t. (line_reply s t line).0) before.1.after in
    let less : part.0 < length (line_reply s (answer s start (texts before.0)).1 line).0 = rw reply at part.1 in
    let appends : Appends (wrote c.loop-watch.writer) (wrote c.write_all.new.writer) (take part.0 (line_reply s (answer s start (texts before.0)).1 line).0) = rw reply at part.2 in
    let after : g.M.Modules.table c.reply.new.self.table.now ≡ (answer s start (texts (before.0 ++ cut ∷ []))).1 =
    (rw (c.line-in-loop-watch.ensures, same) at c.in_ok-reply.ensures.reply.becomes) ∙ ap (λ t. (line_reply s t line).1) before.1.after ∙ sym (table-more s start before.0 cut) in
    let hand : AtHand = hand_of g.R.Source.remaining c.next_line.new.self in
    let stopped : StoppedWriting s start (left c.args.lines.now) hand (wrote c.args.writer.now) (wrote c.write_all.new.writer) (g.M.Modules.table c.reply.new.self.table.now) = (
      before.0,
      part.0,
      cuts_more (left c.args.lines.now) (left c.loop-watch.lines) (left c.next_line.new.self) before.0 cut before.1.gives given.cut,
      short-more before.0 cut before.1.short given.short,
      before.2 given.going,
      less,
      Appends-trans (wrote c.args.writer.now) (wrote c.loop-watch.writer) (wrote c.write_all.new.writer) (answer s start (texts before.0)).0 _ before.1.wrote appends,
      after,
    ) in
    let P : g.row.M.Denot → Type 0 = λ t. StoppedWriting s start (left c.args.lines.now) hand (wrote c.args.writer.now) (wrote c.write_all.new.writer) (g.M.Modules.table t) in
    rw (p.1, p.2) (subst P (search rules) stopped)

pub returns-in_err-reply-clause-stands : goal.returns-in_err-reply-clause-stands
returns-in_err-reply-clause-stands g c =
    let p = err_from_is_err_and c.from_residual-in_err-reply.result c.from_residual-in_err-reply.ensures.1 in
    let s = c.args.setup.now in
    let start = g.M.Modules.table c.args.table.now in
    let before = rw c.loop-watch.invariant.same_setup at c.loop-watch.invariant.answered in
    let given = c.in_ok-next_line.ensures.gave (rw c.if-branch.true refl) in
    let left = bytes_left g.R.Source.remaining in
    let held = g.W.Sink.contents c.args.writer.now in
    let wrote = g.W.Sink.contents c.loop-watch.writer in
    let hand : AtHand = hand_of g.R.Source.remaining c.next_line.new.self in
    let stopped : StoppedForMemory s start (left c.args.lines.now) hand held wrote (g.M.Modules.table c.reply.new.self.table.now) = (
      before.0,
      left c.loop-watch.lines,
      record {
        gives = before.1.gives;
        short = before.1.short;
        wrote = before.1.wrote;
        after = c.in_err-reply.ensures.unchanged.becomes ∙ before.1.after;
      },
      before.2 given.going,
      inr given.cut,
    ) in
    let P : g.row.M.Denot → Type 0 = λ t. StoppedForMemory s start (left c.args.lines.now) hand held wrote (g.M.Modules.table t) in
    rw (p.1, p.2) (subst P (search rules) stopped)

pub returns-in_err-next_line-clause-stands : goal.returns-in_err-next_line-clause-stands
returns-in_err-next_line-clause-stands g c =
    let p = err_from_is_err_and c.from_residual.result c.from_residual.ensures.1 in
    let s = c.args.setup.now in
    let start = g.M.Modules.table c.args.table.now in
    let before = rw c.loop-watch.invariant.same_setup at c.loop-watch.invariant.answered in
    let left = bytes_left g.R.Source.remaining in
    let wrote = g.W.Sink.contents in
    let fault = c.in_err-next_line.field-0.0 in
    let hand : AtHand = hand_of g.R.Source.remaining c.next_line.new.self in
    let stopped = c.in_err-next_line.ensures.stopped in
    let stands = stands_in_line s start (left c.args.lines.now) (wrote c.args.writer.now) (left c.loop-watch.lines) hand (wrote c.loop-watch.writer) (g.M.Modules.table c.loop-watch.session.table.now) before.0 fault
    before.1 (before.2 stopped.going) stopped.in_hand stopped.read stopped.turns stopped.long in
    let P : g.row.M.Denot → Type 0 = λ t. StandsAfter (run_fault_of fault) s start (left c.args.lines.now) hand (wrote c.args.writer.now) (wrote c.loop-watch.writer) (g.M.Modules.table t) in
    rw (p.1, p.2) (subst P (search rules) stands)

pub returns-clause-answered : goal.returns-clause-answered
returns-clause-answered g c =
    let s = c.args.setup.now in
    let start = g.M.Modules.table c.args.table.now in
    let before = rw c.loop-watch.invariant.same_setup at c.loop-watch.invariant.answered in
    let text = bytes_left g.R.Source.remaining c.args.lines.now in
    let left = bytes_left g.R.Source.remaining c.loop-watch.lines in
    let held = g.W.Sink.contents c.args.writer.now in
    let wrote = g.W.Sink.contents c.loop-watch.writer in
    let none = c.in_ok-next_line.ensures.ended (rw c.if-branch.false refl) in
    let all = all_answered s start text held left wrote (g.M.Modules.table c.loop-watch.session.table.now) before.0 before.1 none.before in
    told_map text _ (λ (t : List ℕ). Appends held wrote (answer s start (lines t)).0) (λ t x. x.0) all

pub returns-clause-table : goal.returns-clause-table
returns-clause-table g c =
    let s = c.args.setup.now in
    let start = g.M.Modules.table c.args.table.now in
    let before = rw c.loop-watch.invariant.same_setup at c.loop-watch.invariant.answered in
    let text = bytes_left g.R.Source.remaining c.args.lines.now in
    let left = bytes_left g.R.Source.remaining c.loop-watch.lines in
    let held = g.W.Sink.contents c.args.writer.now in
    let wrote = g.W.Sink.contents c.loop-watch.writer in
    let none = c.in_ok-next_line.ensures.ended (rw c.if-branch.false refl) in
    let all = all_answered s start text held left wrote (g.M.Modules.table c.loop-watch.session.table.now) before.0 before.1 none.before in
    let now = told_map text _ (λ (t : List ℕ). g.M.Modules.table c.loop-watch.session.table.now ≡ (answer s start (lines t)).1) (λ t x. x.1) all in
    let P : g.row.M.Denot → Type 0 = λ u. IfTold text (λ (t : List ℕ). g.M.Modules.table u ≡ (answer s start (lines t)).1) in
    subst P (search rules) now

pub returns-clause-short : goal.returns-clause-short
returns-clause-short g c =
    let s = c.args.setup.now in
    let start = g.M.Modules.table c.args.table.now in
    let before = rw c.loop-watch.invariant.same_setup at c.loop-watch.invariant.answered in
    let text = bytes_left g.R.Source.remaining c.args.lines.now in
    let left = bytes_left g.R.Source.remaining c.loop-watch.lines in
    let held = g.W.Sink.contents c.args.writer.now in
    let wrote = g.W.Sink.contents c.loop-watch.writer in
    let none = c.in_ok-next_line.ensures.ended (rw c.if-branch.false refl) in
    let all = all_answered s start text held left wrote (g.M.Modules.table c.loop-watch.session.table.now) before.0 before.1 none.before in
    told_map text _ (λ (t : List ℕ). AllShort (lines t)) (λ t x. x.2) all

pub returns-clause-errors : goal.returns-clause-errors
returns-clause-errors g c =
    let s = c.args.setup.now in
    let start = g.M.Modules.table c.args.table.now in
    let before = rw c.loop-watch.invariant.same_setup at c.loop-watch.invariant.answered in
    let left = bytes_left g.R.Source.remaining in
    let none = c.in_ok-next_line.ensures.ended (rw c.if-branch.false refl) in
    all_counted s start (left c.args.lines.now) (left c.loop-watch.lines) before.0 c.loop-watch.errors before.3 before.1.gives none.before
