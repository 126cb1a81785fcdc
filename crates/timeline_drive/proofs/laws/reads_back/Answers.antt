use Rattle.timeline_drive.proofs.ReadBack.{read_back}
use Rattle.timeline_drive.proofs.laws.reads_back.Goals as goal

pub returns : goal.returns
returns c = read_back
