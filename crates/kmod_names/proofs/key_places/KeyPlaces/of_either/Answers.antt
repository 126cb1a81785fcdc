use Rattle.kmod_names.proofs.MergeLemmas.{either_merged}
use Rattle.kmod_names.proofs.key_places.KeyPlaces.of_either.Goals as goal

pub returns : goal.returns
returns c = either_merged c.merged.result c.args.self.now c.args.one.now c.args.other.now c.of.result.now c.of-2.result.now c.of.ensures c.of-2.ensures c.merged.ensures
