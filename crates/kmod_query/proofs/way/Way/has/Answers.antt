use Rattle.std.proofs.Common.{sym, ◌∙◌}
use Rattle.kmod_query.proofs.WayLemmas.{any-names}
use Rattle.kmod_query.proofs.way.Way.has.Goals as goal

pub returns : goal.returns
returns c = rw (sym c.self.view_is) (c.contains.ensures ∙ any-names c.args.name.now c.self.inside.names.keys)
