use Rattle.std.proofs.Common.{◌∙◌}
use Rattle.kmod_conf.proofs.FirstLemmas.{all_found}
use Rattle.kmod_conf.proofs.pattern_lines.PatternLines.matching.Goals as goal

pub returns : goal.returns
returns g c =
    all_found g.L.Named.name c.lines_at.result c.deref.result.now c.self.inside.lines.items c.args.self.now c.self.inside.names c.deref-2.result.now c.args.name.now
    c.lines_at.ensures c.deref.ensures.value (c.deref-2.ensures.value ∙ c.in_ok-places.ensures) c.self.invariant c.self.view_is
