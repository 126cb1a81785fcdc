use Rattle.std.proofs.Common.{◌∙◌, ap, not}
use Rattle.text_parts.proofs.WordLemmas.{word_found}
use Rattle.text_parts.proofs.text.has_word.Goals as goal

pub returns : goal.returns
returns c = ap not c.is_all_blank.ensures ∙ word_found c.args.line.now
