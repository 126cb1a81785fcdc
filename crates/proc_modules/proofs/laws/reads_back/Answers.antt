use Rattle.proc_modules.proofs.ReadBack.{read_back}
use Rattle.proc_modules.proofs.laws.reads_back.Goals as goal

pub returns : goal.returns
returns c = read_back
