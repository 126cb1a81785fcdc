use Rattle.kmod_conf.proofs.FirstLemmas.{name_found}
use Rattle.kmod_conf.proofs.pattern_lines.PatternLines.has_named.Goals as goal

pub returns : goal.returns
returns g c =
    name_found g.L.Named.name c.self.inside.lines.items c.args.self.now c.self.inside.names c.args.name.now c.has.result
    c.has.ensures c.self.invariant c.self.view_is
