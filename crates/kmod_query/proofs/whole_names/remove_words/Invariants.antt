use Rattle.std.proofs.Common.{◌≡◌, drop}
use Rattle.text_parts.specs.Text.{texts_of}
use Rattle.kmod_query.specs.Whole.{whole_words}
use Rattle.kmod_query.specs.Wholes.{course_of}
use Rattle.kmod_query.specs.World.{facts_of}
use Rattle.kmod_query.proofs.whole_names.remove_words.Given as goal

abbrev pub invariant-words : goal.invariant-words
invariant-words l =
    whole_words (facts_of l.asked.world) l.holders l.asked.query (course_of l.course) (texts_of (drop l.word-index l.words))
    ≡ whole_words (facts_of l.asked.world) l.holders l.asked.query (course_of l.fn.course) (texts_of l.words)
