use Rattle.std.proofs.Common.{◌∙◌, sym}
use Rattle.kmod_names.proofs.FindLemmas.{literal_place}
use Rattle.kmod_names.proofs.pattern_list.PatternList.place_named.Goals as goal

pub returns-then-is_literal : goal.returns-then-is_literal
returns-then-is_literal c =
    c.copied.ensures ∙ c.first.ensures.value
    ∙ literal_place c.args.self.now c.self.inside.patterns.items c.self.inside.literals c.self.inside.others c.self.inside.other_places.items c.args.pattern.now c.of.result.now
    c.self.invariant (sym c.is_literal.ensures ∙ c.if-is_literal.true) c.of.ensures c.self.view_is
