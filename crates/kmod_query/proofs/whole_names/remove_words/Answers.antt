use Rattle.std.proofs.Common.{◌≡◌, ◌<◌, ◌∙◌, arith, length, sym, true}
use Rattle.kmod_query.specs.Whole.{is_over}
use Rattle.kmod_query.specs.Wholes.{course_of}
use Rattle.kmod_query.specs.World.{facts_of}
use Rattle.kmod_query.proofs.WholeLemmas.{words-over}
use Rattle.std.proofs.lemmas.Grind.{common_steps}
use Rattle.kmod_query.proofs.whole_names.remove_words.Goals as goal

pub returns-then-is_over : goal.returns-then-is_over
returns-then-is_over c =
    let below : c.words.word-index < length c.args.words.now = omega arith in
    let over : is_over c.args.asked.now.query (course_of c.words.course).failures ≡ true = sym c.is_over.ensures ∙ c.if-is_over.true in
    sym (words-over (facts_of c.args.asked.now.world) c.args.holders.now c.args.asked.now.query (course_of c.words.course) c.args.words.now c.words.word-index below over) ∙ c.words.invariant

pub words-preserved : goal.words-preserved
words-preserved c = grind (arith, common_steps)
