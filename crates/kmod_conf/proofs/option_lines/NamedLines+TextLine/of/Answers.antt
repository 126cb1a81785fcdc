use Rattle.std.proofs.Common.{◌∙◌, ap}
use Rattle.std.specs.Option.{option_map}
use Rattle.kmod_conf.proofs.ListLemmas.{options_found, or_own}
use Rattle.kmod_conf.proofs.option_lines.NamedLines+TextLine.of.Goals as goal

pub returns : goal.returns
returns c =
    options_found c.filled_lines.result c.deref.result.now c.args.self.now c.self.inside.lines.items c.deref-2.result.now c.args.name.now (option_map (λ own. own.now) c.args.alias)
    c.unwrap_or-other.result.now c.self.inside.places
    c.filled_lines.ensures c.deref.ensures.value c.self.view_is (ap (λ own. own.now) c.unwrap_or-other.ensures ∙ or_own c.args.alias c.args.name)
    (λ keys are. c.deref-2.ensures.value ∙ c.in_ok-places.ensures keys are) c.self.invariant
