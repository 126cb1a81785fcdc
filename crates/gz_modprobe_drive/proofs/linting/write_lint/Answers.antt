use Rattle.std.proofs.Common.{◌≡◌, ◌∙◌, false, sym}
use Rattle.gz_modprobe_drive.proofs.LintLemmas.{found-nothing}
use Rattle.gz_modprobe_drive.proofs.linting.write_lint.Goals as goal

pub returns-clause-nothing : goal.returns-clause-nothing
returns-clause-nothing g c none =
    found-nothing c.args.is_whole c.args.run.now.asked.now.switches.strict c.args.run.now.texts.now c.args.known.now c.args.ignores.now
    c.in_ok-notes.notes.items c.left_files-unread.result.items c.in_ok-facts.facts.items _ _
    c.in_ok-notes.ensures
    (rw (c.deref.ensures.value, c.deref-2.ensures.value) at c.in_ok-facts.ensures)
    (rw c.deref-3.ensures.value at c.in_ok-write_found.ensures.silent)
    (rw (c.deref-4.ensures.value, c.deref-5.ensures.value) at (sym c.is_noted.ensures ∙ none))

pub returns-clause-begun : goal.returns-clause-begun
returns-clause-begun g c = rw (sym c.form_by-form.ensures) c.write_found.ensures.begun
