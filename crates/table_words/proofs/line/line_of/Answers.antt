use Rattle.text_parts.specs.Text.{texts_of}
use Rattle.table_words.proofs.LineLemmas.{words_stay}
use Rattle.table_words.proofs.line.line_of.Goals as goal

pub returns-clause-same : goal.returns-clause-same
returns-clause-same c = λ good. words_stay c.in_ok-line.line.items (texts_of c.args.words.now) c.in_ok-line.ensures good
