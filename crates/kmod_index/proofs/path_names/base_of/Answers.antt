use Rattle.std.proofs.Common.{◌∙◌, sym}
use Rattle.kmod_index.proofs.PartLemmas.{behind}
use Rattle.kmod_index.proofs.BaseLemmas.{base_at, base_none}
use Rattle.kmod_index.proofs.path_names.base_of.Goals as goal

pub returns-in-Some : goal.returns-in-Some
returns-in-Some c =
    behind c.args.path.now c.in-Some.slash
    ∙ sym (base_at c.args.path.now c.args.path.now c.in-Some.slash c.in-Some.ensures.0.high c.in-Some.ensures.0.after c.in-Some.ensures.1)

pub returns-in-None : goal.returns-in-None
returns-in-None c = sym (base_none c.args.path.now c.args.path.now c.in-None.ensures)
