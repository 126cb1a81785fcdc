use Rattle.std.proofs.Common.{arith}
use Rattle.std.proofs.lemmas.Grind.{common_steps}
use Rattle.kmod_names.proofs.key_places.merged.Goals as goal

pub places-preserved : goal.places-preserved
places-preserved c = grind (arith, common_steps)
