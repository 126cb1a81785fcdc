use Rattle.std.proofs.Common.{refl}
use Rattle.modprobe_files.specs.Chosen.{none}
use Rattle.modprobe_files.proofs.ChosenLemmas.{read-more, unread-more}
use Rattle.modprobe_files.proofs.beside.read_files.Goals as goal

pub loop-file-init : goal.loop-file-init
loop-file-init g c = rw c.new-texts.ensures.items none

pub loop-file-preserved-in-Some-2 : goal.loop-file-preserved-in-Some-2
loop-file-preserved-in-Some-2 g c =
    rw c.in_ok-push.ensures.items
    (read-more c.loop-file.texts.items c.loop-file.yielded _ c.in-Some.file refl c.loop-file.invariant)

pub loop-file-preserved : goal.loop-file-preserved
loop-file-preserved g c = unread-more c.loop-file.texts.items c.loop-file.yielded c.in-Some.file c.loop-file.invariant
