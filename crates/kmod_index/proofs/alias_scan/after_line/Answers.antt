use Rattle.kmod_index.proofs.PassLemmas.{lines_behind, no_lines_behind}
use Rattle.kmod_index.proofs.alias_scan.after_line.Goals as goal

pub returns-in-Some-clause-lines : goal.returns-in-Some-clause-lines
returns-in-Some-clause-lines c = lines_behind c.args.text.now c.in-Some.end c.in-Some.ensures.0.high c.in-Some.ensures.0.before c.in-Some.ensures.1

pub returns-in-None-clause-lines : goal.returns-in-None-clause-lines
returns-in-None-clause-lines c = no_lines_behind c.args.text.now c.in-None.ensures
