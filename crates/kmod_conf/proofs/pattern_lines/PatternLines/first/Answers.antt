use Rattle.std.proofs.Common.{◌∙◌, ap, sym, slice_get, Some, None}
use Rattle.kmod_conf.proofs.FirstLemmas.{first_found}
use Rattle.kmod_conf.proofs.pattern_lines.PatternLines.first.Goals as goal

pub returns-in-Some : goal.returns-in-Some
returns-in-Some g c =
    c.line_at.ensures ∙ ap (λ l. slice_get l c.in-Some.place) c.deref.ensures.value
    ∙ first_found g.L.Named.name c.self.inside.lines.items c.args.self.now c.self.inside.names c.args.name.now (Some c.in-Some.place)
    (sym c.in-Some.is ∙ c.in_ok-place.ensures) c.self.invariant c.self.view_is

pub returns-in-None : goal.returns-in-None
returns-in-None g c =
    first_found g.L.Named.name c.self.inside.lines.items c.args.self.now c.self.inside.names c.args.name.now None
    (sym c.in-None.is ∙ c.in_ok-place.ensures) c.self.invariant c.self.view_is
