use Rattle.std.proofs.Common.{◌∙◌}
use Rattle.kmod_index.proofs.SumLemmas.{stem_summed}
use Rattle.kmod_index.proofs.path_names.sum_of_path.Goals as goal

pub loop-byte-preserved : goal.loop-byte-preserved
loop-byte-preserved c =
    stem_summed c.loop-byte.sum c.in-Some.byte.now c.normal_byte.result c.loop-byte.rest.now c.in-Some.later.now c.in-Some.ensures.cases.0 c.if-byte-eq46.false c.normal_byte.ensures
    ∙ c.loop-byte.invariant
