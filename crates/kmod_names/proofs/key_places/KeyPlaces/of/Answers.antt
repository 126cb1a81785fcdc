use Rattle.std.proofs.Common.{sym, ◌∙◌}
use Rattle.kmod_names.proofs.KeyLemmas.{found_some, found_none}
use Rattle.kmod_names.proofs.key_places.KeyPlaces.of.Goals as goal

pub returns-in-Some : goal.returns-in-Some
returns-in-Some c = rw (sym c.self.view_is) (c.deref.ensures.value ∙ found_some c.self.inside.places.entries c.args.key.now c.in-Some.places.now c.in-Some.ensures.value)

pub returns-in-None : goal.returns-in-None
returns-in-None c = rw (sym c.self.view_is) (found_none c.self.inside.places.entries c.args.key.now c.in-None.ensures.value)
