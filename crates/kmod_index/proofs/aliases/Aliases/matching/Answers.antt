use Rattle.std.proofs.Common.{◌∙◌, ap}
use Rattle.kmod_names.specs.Patterns.{pattern_places}
use Rattle.kmod_index.proofs.FoundLemmas.{found_by_pattern}
use Rattle.kmod_index.proofs.aliases.Aliases.matching.Goals as goal

pub returns : goal.returns
returns c =
    found_by_pattern c.lines_at.result c.deref.result.now c.args.self.now c.self.inside.lines.items c.deref-2.result.now c.args.name.now
    c.lines_at.ensures c.deref.ensures.value c.self.view_is
    (c.deref-2.ensures.value ∙ c.in_ok-places.ensures ∙ ap (λ l. pattern_places l c.args.name.now) c.self.invariant)
