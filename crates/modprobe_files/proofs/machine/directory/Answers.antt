use Rattle.std.proofs.Common.{rules}
use Rattle.modprobe_words.specs.Asked.{text_of}
use Rattle.modprobe_files.proofs.ChosenLemmas.{directory-is}
use Rattle.modprobe_files.proofs.machine.directory.Goals as goal

pub returns-in-Some-clause-folder : goal.returns-in-Some-clause-folder
returns-in-Some-clause-folder g c =
    directory-is (g.S.System.is_rooted c.args.host.now.system.now) (text_of c.args.asked.now.directory) (text_of c.args.asked.now.release)
    c.unwrap_or.result.now c.in_ok-parent.parent.items c.in-Some.release.now c.in_ok-folder.folder.items c.in_ok-joined.field-0.items
    (search rules) c.in_ok-parent.ensures
    (rw c.deref.ensures.value at c.in_ok-folder.ensures)
    (rw c.deref-in-Some.ensures.value at c.in_ok-joined.ensures)
    (λ asked is. search rules)

pub returns-in-Some-2-clause-folder : goal.returns-in-Some-2-clause-folder
returns-in-Some-2-clause-folder g c =
    directory-is (g.S.System.is_rooted c.args.host.now.system.now) (text_of c.args.asked.now.directory) (text_of c.args.asked.now.release)
    c.unwrap_or.result.now c.in_ok-parent.parent.items c.in-Some-2.release.items c.in_ok-folder.folder.items c.in_ok-joined-in-Some-2.field-0.items
    (search rules) c.in_ok-parent.ensures
    (rw c.deref.ensures.value at c.in_ok-folder.ensures)
    (rw (c.deref-in-Some-2.ensures.value, c.deref-in-Some-2-2.ensures.value) at c.in_ok-joined-in-Some-2.ensures)
    (λ asked is. search rules)
