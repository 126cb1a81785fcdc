use Rattle.gz_table_drive.proofs.AdoptLemmas.{adopting_keeps_held}
use Rattle.gz_table_drive.proofs.laws.adopting_keeps_held.Goals as goal

pub returns : goal.returns
returns c = adopting_keeps_held
