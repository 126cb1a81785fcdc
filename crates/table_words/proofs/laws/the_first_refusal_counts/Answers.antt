use Rattle.table_words.proofs.EndingLemmas.{first_counts}
use Rattle.table_words.proofs.laws.the_first_refusal_counts.Goals as goal

pub returns : goal.returns
returns c = first_counts
