use Rattle.kmod_names.proofs.PatternLemmas.{read_pattern_is}
use Rattle.kmod_names.proofs.pattern_list.read_alias.Goals as goal

pub returns : goal.returns
returns c = read_pattern_is c.read.result c.args.pattern.now c.read.ensures
