use Rattle.std.proofs.Common.{◌≡◌, ◌∷◌, [], ◌++◌, ◌∙◌, refl, sym, ap, Some, None, true, false}
use Rattle.std.proofs.lemmas.Result.{err_from_is_err_and}
use Rattle.text_parts.specs.Text.{Line}
use Rattle.modprobe.specs.Lines.{bytes_left, ending_bytes}
use Rattle.modprobe.specs.Sections.{section_of, no_parts, add_bytes, step_of, text_step, go, stop, early}
use Rattle.modprobe.specs.ForProofs.{parts_of, is_session}
use Rattle.modprobe.proofs.SetupLemmas.{goes_on, begins, early_stops, stops_as, setup_stops, steps_more, at_end, step_of-begin, step_of-go, step_of-text}
use Rattle.modprobe.proofs.CutLemmas.{cuts_more, ended_more}
use Rattle.modprobe.proofs.TurnLemmas.{paid_trans}
use Rattle.modprobe.proofs.section.read_texts.Goals as goal

pub returns-then-is_session-clause-sections : goal.returns-then-is_session-clause-sections
returns-then-is_session-clause-sections g c =
    let left = bytes_left g.R.Source.remaining in
    let s = c.next_line.new.self in
    let line : Line = record { text = s.line.items; ending = ending_bytes s.ending } in
    let current = c.loop-lines.current in
    let parts = parts_of c.loop-lines.texts in
    let short = (c.in_ok-next_line.ensures.gave (rw c.if-branch.true refl)).short in
    let found : section_of s.line.items ≡ Some c.in-Some.section = sym (rw c.line.ensures at c.in-Some.ensures) in
    let is : is_session c.in-Some.section ≡ true = sym c.is_session.ensures ∙ c.if-is_session.true in
    begins (left c.args.lines.now) (left c.loop-lines.lines) (left s) current parts line c.loop-lines.invariant.goes_on (c.in_ok-next_line.ensures.gave (rw c.if-branch.true refl)).cut
    (step_of-begin c.in-Some.section current parts line short found is)

pub loop-lines-preserved-in-Some : goal.loop-lines-preserved-in-Some
loop-lines-preserved-in-Some g c =
    let left = bytes_left g.R.Source.remaining in
    let s = c.next_line.new.self in
    let line : Line = record { text = s.line.items; ending = ending_bytes s.ending } in
    let current = c.loop-lines.current in
    let parts = parts_of c.loop-lines.texts in
    let short = (c.in_ok-next_line.ensures.gave (rw c.if-branch.true refl)).short in
    let found : section_of s.line.items ≡ Some c.in-Some.section = sym (rw c.line.ensures at c.in-Some.ensures) in
    let is : is_session c.in-Some.section ≡ false = sym c.is_session.ensures ∙ c.if-is_session.false in
    let given = c.in_ok-next_line.ensures.gave (rw c.if-branch.true refl) in
    let before = c.loop-lines.invariant.done in
    let on = step_of-go c.in-Some.section current parts line short found is in
    record {
      works = c.in_ok-next_line.ensures.failed;
      same_reader = c.in_ok-next_line.ensures.same_reader ∙ c.loop-lines.invariant.same_reader;
      paid = paid_trans g.R.Source.remaining c.args.lines.now c.loop-lines.lines c.next_line.new.self c.loop-lines.invariant.paid given.paid;
      counted = c.in_ok-next_line.ensures.counted ∙ c.loop-lines.invariant.counted;
      end = λ at_start. c.in_ok-next_line.ensures.end (c.loop-lines.invariant.end at_start);
      goes_on = goes_on (left c.args.lines.now) (left c.loop-lines.lines) (left s) current parts line (Some c.in-Some.section) parts c.loop-lines.invariant.goes_on
          given.cut on;
      done = (
        before.0 ++ line ∷ [],
        cuts_more (left c.args.lines.now) (left c.loop-lines.lines) (left s) before.0 line before.1 given.cut,
        steps_more None no_parts before.0 line current (Some c.in-Some.section) parts parts before.2 on,
        λ still. ended_more before.0 line (before.3 given.going) (given.ended still),
      );
    }

pub returns-in_default-current-clause-refused : goal.returns-in_default-current-clause-refused
returns-in_default-current-clause-refused g c =
    let left = bytes_left g.R.Source.remaining in
    let s = c.next_line.new.self in
    let line : Line = record { text = s.line.items; ending = ending_bytes s.ending } in
    let current = c.loop-lines.current in
    let parts = parts_of c.loop-lines.texts in
    let short = (c.in_ok-next_line.ensures.gave (rw c.if-branch.true refl)).short in
    let found : section_of s.line.items ≡ None = sym (rw c.line.ensures at c.in_default.ensures) in
    let is : step_of current parts line ≡ stop early = step_of-text current parts line short found ∙ ap (λ o. text_step o parts line) c.in_default-current.is in
    early_stops (left c.args.lines.now) (left c.loop-lines.lines) (left s) current parts line c.loop-lines.invariant.goes_on (c.in_ok-next_line.ensures.gave (rw c.if-branch.true refl)).cut is

pub loop-lines-preserved : goal.loop-lines-preserved
loop-lines-preserved g c =
    let left = bytes_left g.R.Source.remaining in
    let s = c.next_line.new.self in
    let line : Line = record { text = s.line.items; ending = ending_bytes s.ending } in
    let current = c.loop-lines.current in
    let parts = parts_of c.loop-lines.texts in
    let section = c.in-Some-current.section in
    let short = (c.in_ok-next_line.ensures.gave (rw c.if-branch.true refl)).short in
    let found : section_of s.line.items ≡ None = sym (rw c.line.ensures at c.in_default.ensures) in
    let pushed : parts_of c.push_line.new.self ≡ add_bytes section (s.line.items ++ ending_bytes s.ending) parts = rw (c.line-in_default-2.ensures, c.ending.ensures) at c.in_ok-push_line.ensures in
    let is : step_of current parts line ≡ go (Some section) (parts_of c.push_line.new.self) =
    step_of-text current parts line short found ∙ ap (λ o. text_step o parts line) c.in-Some-current.is ∙ ap (go (Some section)) (sym pushed) in
    let given = c.in_ok-next_line.ensures.gave (rw c.if-branch.true refl) in
    let before = c.loop-lines.invariant.done in
    record {
      works = c.in_ok-next_line.ensures.failed;
      same_reader = c.in_ok-next_line.ensures.same_reader ∙ c.loop-lines.invariant.same_reader;
      paid = paid_trans g.R.Source.remaining c.args.lines.now c.loop-lines.lines c.next_line.new.self c.loop-lines.invariant.paid given.paid;
      counted = c.in_ok-next_line.ensures.counted ∙ c.loop-lines.invariant.counted;
      end = λ at_start. c.in_ok-next_line.ensures.end (c.loop-lines.invariant.end at_start);
      goes_on = goes_on (left c.args.lines.now) (left c.loop-lines.lines) (left s) current parts line (Some section) (parts_of c.push_line.new.self) c.loop-lines.invariant.goes_on
          given.cut is;
      done = (
        before.0 ++ line ∷ [],
        cuts_more (left c.args.lines.now) (left c.loop-lines.lines) (left s) before.0 line before.1 given.cut,
        steps_more None no_parts before.0 line current (Some section) parts (parts_of c.push_line.new.self) before.2 is,
        λ still. ended_more before.0 line (before.3 given.going) (given.ended still),
      );
    }

pub returns-clause-sections : goal.returns-clause-sections
returns-clause-sections g c =
    let left = bytes_left g.R.Source.remaining in
    let s = c.next_line.new.self in
    let none = c.in_ok-next_line.ensures.ended (rw c.if-branch.false refl) in
    at_end (left c.args.lines.now) (left c.loop-lines.lines) (left s) c.loop-lines.current (parts_of c.loop-lines.texts) c.loop-lines.invariant.goes_on none.before none.after none.kept

pub returns-in_err-next_line-clause-refused : goal.returns-in_err-next_line-clause-refused
returns-in_err-next_line-clause-refused g c =
    let left = bytes_left g.R.Source.remaining in
    let p = err_from_is_err_and c.from_residual.result c.from_residual.ensures.1 in
    let fault = c.in_err-next_line.field-0.0 in
    rw (p.1, p.2) (stops_as (left c.args.lines.now) (left c.loop-lines.lines) c.loop-lines.current (parts_of c.loop-lines.texts) fault c.loop-lines.invariant.goes_on c.in_err-next_line.ensures.stopped.long)

pub returns-in_err-next_line-clause-stops : goal.returns-in_err-next_line-clause-stops
returns-in_err-next_line-clause-stops g c =
    let left = bytes_left g.R.Source.remaining in
    let p = err_from_is_err_and c.from_residual.result c.from_residual.ensures.1 in
    let s = c.next_line.new.self in
    let fault = c.in_err-next_line.field-0.0 in
    let before = c.loop-lines.invariant.done in
    rw (p.1, p.2) (setup_stops (left c.args.lines.now) (left c.loop-lines.lines) (left s) (g.R.Source.remaining s.reader.now) before.0 c.loop-lines.current (parts_of c.loop-lines.texts) fault s.line.items
    before.1 before.2 (before.3 c.in_err-next_line.ensures.stopped.going) c.in_err-next_line.ensures.stopped.in_hand c.in_err-next_line.ensures.stopped.read c.in_err-next_line.ensures.stopped.turns)
