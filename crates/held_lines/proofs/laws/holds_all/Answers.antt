use Rattle.held_lines.proofs.AllLemmas.{holds_all}
use Rattle.held_lines.proofs.laws.holds_all.Goals as goal

pub returns : goal.returns
returns c = holds_all
