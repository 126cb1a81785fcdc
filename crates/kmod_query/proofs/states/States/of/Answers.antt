use Rattle.std.proofs.Common.{◌∙◌, sym}
use Rattle.kmod_query.proofs.KnownLemmas.{status_in-pairs}
use Rattle.kmod_query.proofs.states.States.of.Goals as goal

pub returns : goal.returns
returns c = rw (sym c.self.view_is) (c.copied.ensures ∙ c.get.ensures.value ∙ status_in-pairs c.self.inside.modules.entries c.args.name.now)
