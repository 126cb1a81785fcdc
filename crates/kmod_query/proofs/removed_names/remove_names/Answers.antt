use Rattle.std.proofs.Common.{◌≡◌, ◌<◌, ◌∙◌, arith, length, sym, true}
use Rattle.kmod_query.specs.Removal.{has_ended}
use Rattle.kmod_query.specs.World.{facts_of}
use Rattle.kmod_query.proofs.RemovalLemmas.{names-ended}
use Rattle.std.proofs.lemmas.Grind.{common_steps}
use Rattle.kmod_query.proofs.removed_names.remove_names.Goals as goal

pub returns-then-has_ended : goal.returns-then-has_ended
returns-then-has_ended c =
    let below : c.words.word-index < length c.args.words.now = omega arith in
    let ended : has_ended c.args.asked.now.query c.words.answer.failures ≡ true = sym c.has_ended.ensures ∙ c.if-has_ended.true in
    sym (names-ended (facts_of c.args.asked.now.world) c.args.asked.now.query c.words.answer c.args.words.now c.words.word-index below ended) ∙ c.words.invariant

pub words-preserved : goal.words-preserved
words-preserved c = grind (arith, common_steps)
