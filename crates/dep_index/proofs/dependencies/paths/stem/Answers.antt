use Rattle.std.proofs.Common.{sym}
use Rattle.std.specs.Prelude.{◌==◌}
use Rattle.dep_index.proofs.PathLemmas.{stem_at, stem_none}
use Rattle.dep_index.proofs.dependencies.paths.stem.Goals as goal

pub returns-in-Some : goal.returns-in-Some
returns-in-Some c = stem_at (λ byte. byte == 46) c.args.part.now c.in-Some.end (sym c.in-Some.ensures)

pub returns-in-None : goal.returns-in-None
returns-in-None c = stem_none (λ byte. byte == 46) c.args.part.now (sym c.in-None.ensures)
