use Rattle.std.proofs.Common.{◌∙◌}
use Rattle.gz_modprobe_drive.proofs.TreeLemmas.{four-notices}
use Rattle.gz_modprobe_drive.proofs.notices.text_notices.Goals as goal

pub returns : goal.returns
returns c =
    four-notices c.args.tree.now c.deref.result.now c.deref-2.result.now c.deref-3.result.now c.deref-4.result.now _ _ _ _ _
    (c.deref.ensures.value ∙ c.in_ok-dep.ensures) (c.deref-2.ensures.value ∙ c.in_ok-alias.ensures)
    (c.deref-3.ensures.value ∙ c.in_ok-symbols.ensures) (c.deref-4.ensures.value ∙ c.in_ok-builtin.ensures)
    c.new-lines.ensures.items c.in_ok-push_text.ensures c.in_ok-push_text-2.ensures c.in_ok-push_text-3.ensures c.in_ok-push_text-4.ensures
