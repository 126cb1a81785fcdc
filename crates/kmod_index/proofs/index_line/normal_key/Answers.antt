use Rattle.std.proofs.Common.{Some, ◌∙◌, ap, sym}
use Rattle.kmod_index.proofs.KeyLemmas.{normal-plain}
use Rattle.kmod_index.proofs.index_line.normal_key.Goals as goal

pub returns-in_ok-new-in-None : goal.returns-in_ok-new-in-None
returns-in_ok-new-in-None c = ap Some c.in_ok-new-in-None.ensures ∙ sym (normal-plain c.args.key.now c.in-None.ensures)
