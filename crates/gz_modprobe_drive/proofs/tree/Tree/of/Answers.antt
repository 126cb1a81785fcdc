use Rattle.gz_modprobe_drive.proofs.TreeLemmas.{uncut}
use Rattle.gz_modprobe_drive.proofs.tree.Tree.of.Goals as goal

pub returns : goal.returns
returns g c =
    uncut c.in_ok-found_of.field-0 c.in_ok-found_of-2.field-0 c.in_ok-found_of-3.field-0 c.in_ok-found_of-4.field-0 c.args.modules.now c.args.later.now _
    c.folder_texts-texts.ensures c.in_ok-found_of.ensures c.in_ok-found_of-2.ensures c.in_ok-found_of-3.ensures c.in_ok-found_of-4.ensures
