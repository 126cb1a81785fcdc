use Rattle.line_journal.proofs.NewlineLemmas.{line_if_none}
use Rattle.line_journal.proofs.line.is_line.Goals as goal

pub returns : goal.returns
returns c = line_if_none c.args.bytes.now c.line_end.result c.is_none.result c.is_none.ensures c.line_end.ensures.none c.line_end.ensures.newline
