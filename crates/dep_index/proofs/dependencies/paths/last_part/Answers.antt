use Rattle.std.proofs.Common.{◌∙◌, sym}
use Rattle.dep_index.proofs.PathLemmas.{behind, part_at, part_none}
use Rattle.dep_index.proofs.dependencies.paths.last_part.Goals as goal

pub returns-in-Some : goal.returns-in-Some
returns-in-Some c =
    behind c.args.path.now c.in-Some.end
    ∙ sym (part_at c.args.path.now c.in-Some.end c.in-Some.ensures.0.high c.in-Some.ensures.0.after c.in-Some.ensures.1)

pub returns-in-None : goal.returns-in-None
returns-in-None c = sym (part_none c.args.path.now c.in-None.ensures)
