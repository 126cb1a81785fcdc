use Rattle.kmod_query.specs.World.{facts_of}
use Rattle.kmod_query.proofs.loaded_names.answer_names.Goals as goal

pub answer_each-requires : goal.answer_each-requires
answer_each-requires c = c.new-soft.ensures (facts_of c.args.asked.now.world)

pub answer_one-requires : goal.answer_one-requires
answer_one-requires c = c.new-soft.ensures (facts_of c.args.asked.now.world)
