use Rattle.kmod_query.specs.World.{facts_of}
use Rattle.kmod_query.proofs.loaded_names.answer_file.Goals as goal

pub answer_object-requires : goal.answer_object-requires
answer_object-requires c = c.new-soft.ensures (facts_of c.with_own.result)
