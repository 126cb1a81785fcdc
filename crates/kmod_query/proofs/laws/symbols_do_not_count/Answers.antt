use Rattle.kmod_query.proofs.SymbolLemmas.{symbols-ignored}
use Rattle.kmod_query.proofs.laws.symbols_do_not_count.Goals as goal

pub returns : goal.returns
returns c = symbols-ignored
