use Rattle.text_parts.proofs.LineLemmas.{lines_have_texts}
use Rattle.text_parts.proofs.laws.lines_have_texts.Goals as goal

pub returns : goal.returns
returns c = lines_have_texts
