use Rattle.file_lives.proofs.LifeLemmas.{did_unless_fault}
use Rattle.file_lives.proofs.lives.FileLives.begin_life.Goals as goal

pub returns-clause-opened : goal.returns-clause-opened
returns-clause-opened g c = did_unless_fault c.open_again.result c.open_again.ensures.opened c.open_again.ensures.fails
