use Rattle.std.proofs.Common.{◌≡◌, drop}
use Rattle.text_parts.specs.Text.{texts_of}
use Rattle.kmod_query.specs.Answers.{nothing}
use Rattle.kmod_query.specs.Removal.{remove_names}
use Rattle.kmod_query.specs.World.{facts_of}
use Rattle.kmod_query.proofs.removed_names.remove_names.Given as goal

abbrev pub invariant-words : goal.invariant-words
invariant-words l = remove_names (facts_of l.asked.world) l.asked.query l.answer (texts_of (drop l.word-index l.words)) ≡ remove_names (facts_of l.asked.world) l.asked.query nothing (texts_of l.words)
