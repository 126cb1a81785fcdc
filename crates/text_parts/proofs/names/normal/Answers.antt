use Rattle.text_parts.proofs.NameLemmas.{normal-no_dash}
use Rattle.text_parts.proofs.names.normal.Goals as goal

pub returns-in-None : goal.returns-in-None
returns-in-None c = rw (normal-no_dash c.args.word.now c.in-None.ensures) c.from_slice.ensures.items
