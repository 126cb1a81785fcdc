use Rattle.std.proofs.Common.{◌≡◌, ◌≤◌, ◌++◌, ◌∙◌, length, sym, ap, Some, None, true, false}
use Rattle.modprobe.specs.Sections.{section_of, add_bytes, step_of, text_step, go, stop, early, too_long}
use Rattle.modprobe.specs.Whole.{line_in}
use Rattle.modprobe.specs.ForProofs.{is_session, parts_of}
use Rattle.modprobe.proofs.SetupLemmas.{step_of-begin, step_of-go, step_of-text}
use Rattle.modprobe.proofs.WholeLemmas.{first_begins, first_goes_on, first_stops, long_step, none_left}
use Rattle.modprobe.proofs.whole.read_sections.Goals as goal

pub returns-then-first-gt-LONGEST_LINE-clause-refused : goal.returns-then-first-gt-LONGEST_LINE-clause-refused
returns-then-first-gt-LONGEST_LINE-clause-refused c =
    let current = c.loop-first.current in
    let parts = parts_of c.loop-first.texts in
    first_stops c.args.text.now c.loop-first.rest.now current parts c.in-Some.first too_long c.loop-first.invariant c.in-Some.ensures
    (long_step current parts (line_in c.in-Some.first) c.if-first-gt-LONGEST_LINE.true)

pub returns-then-is_session-clause-sections : goal.returns-then-is_session-clause-sections
returns-then-is_session-clause-sections c =
    let current = c.loop-first.current in
    let parts = parts_of c.loop-first.texts in
    let section = c.in-Some-section_of.section in
    let short : length c.in-Some.first.line.now ≤ 65535 = c.if-first-gt-LONGEST_LINE.false in
    let found : section_of c.in-Some.first.line.now ≡ Some section = sym c.in-Some-section_of.ensures in
    let is : is_session section ≡ true = sym c.is_session.ensures ∙ c.if-is_session.true in
    first_begins c.args.text.now c.loop-first.rest.now current parts c.in-Some.first c.loop-first.invariant c.in-Some.ensures
    (step_of-begin section current parts (line_in c.in-Some.first) short found is)

pub loop-first-preserved-in-Some-section_of : goal.loop-first-preserved-in-Some-section_of
loop-first-preserved-in-Some-section_of c =
    let current = c.loop-first.current in
    let parts = parts_of c.loop-first.texts in
    let section = c.in-Some-section_of.section in
    let short : length c.in-Some.first.line.now ≤ 65535 = c.if-first-gt-LONGEST_LINE.false in
    let found : section_of c.in-Some.first.line.now ≡ Some section = sym c.in-Some-section_of.ensures in
    let is : is_session section ≡ false = sym c.is_session.ensures ∙ c.if-is_session.false in
    first_goes_on c.args.text.now c.loop-first.rest.now current (Some section) parts parts c.in-Some.first c.loop-first.invariant c.in-Some.ensures
    (step_of-go section current parts (line_in c.in-Some.first) short found is)

pub returns-in_default-current-clause-refused : goal.returns-in_default-current-clause-refused
returns-in_default-current-clause-refused c =
    let current = c.loop-first.current in
    let parts = parts_of c.loop-first.texts in
    let line = line_in c.in-Some.first in
    let short : length c.in-Some.first.line.now ≤ 65535 = c.if-first-gt-LONGEST_LINE.false in
    let found : section_of c.in-Some.first.line.now ≡ None = sym c.in_default-section_of.ensures in
    let is : step_of current parts line ≡ stop early = step_of-text current parts line short found ∙ ap (λ o. text_step o parts line) c.in_default-current.is in
    first_stops c.args.text.now c.loop-first.rest.now current parts c.in-Some.first early c.loop-first.invariant c.in-Some.ensures is

pub loop-first-preserved : goal.loop-first-preserved
loop-first-preserved c =
    let current = c.loop-first.current in
    let parts = parts_of c.loop-first.texts in
    let line = line_in c.in-Some.first in
    let section = c.in-Some-current.section in
    let short : length c.in-Some.first.line.now ≤ 65535 = c.if-first-gt-LONGEST_LINE.false in
    let found : section_of c.in-Some.first.line.now ≡ None = sym c.in_default-section_of.ensures in
    let pushed : parts_of c.push_line.new.self ≡ add_bytes section (c.in-Some.first.line.now ++ c.in-Some.first.ending.now) parts = c.in_ok-push_line.ensures in
    let is : step_of current parts line ≡ go (Some section) (parts_of c.push_line.new.self) =
    step_of-text current parts line short found ∙ ap (λ o. text_step o parts line) c.in-Some-current.is ∙ ap (go (Some section)) (sym pushed) in
    first_goes_on c.args.text.now c.loop-first.rest.now current (Some section) parts (parts_of c.push_line.new.self) c.in-Some.first c.loop-first.invariant c.in-Some.ensures is

pub returns-clause-sections : goal.returns-clause-sections
returns-clause-sections c =
    none_left c.args.text.now c.loop-first.rest.now c.loop-first.current (parts_of c.loop-first.texts) c.loop-first.invariant c.in_default.ensures
