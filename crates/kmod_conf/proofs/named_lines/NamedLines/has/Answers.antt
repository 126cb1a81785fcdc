use Rattle.std.proofs.Common.{◌∙◌, ap, not}
use Rattle.kmod_conf.proofs.ListLemmas.{has_line}
use Rattle.kmod_conf.proofs.named_lines.NamedLines.has.Goals as goal

pub returns : goal.returns
returns g c =
    ap not c.is_empty.ensures
    ∙ has_line g.L.Named.name c.self.inside.places c.self.inside.lines.items c.args.self.now c.of.result.now c.args.name.now c.self.invariant c.of.ensures c.self.view_is
