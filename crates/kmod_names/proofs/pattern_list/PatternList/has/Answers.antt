use Rattle.std.proofs.Common.{◌∙◌, ap, not, sym}
use Rattle.std.specs.List.{list_any}
use Rattle.std.specs.Str.{bytes_eq}
use Rattle.kmod_names.proofs.FindLemmas.{has_literal}
use Rattle.kmod_names.proofs.pattern_list.PatternList.has.Goals as goal

pub returns-then-is_literal : goal.returns-then-is_literal
returns-then-is_literal c =
    ap not c.is_empty.ensures
    ∙ has_literal c.self.inside.patterns.items c.self.inside.literals c.self.inside.others c.self.inside.other_places.items c.args.pattern.now c.of.result.now c.self.invariant
    (sym c.is_literal.ensures ∙ c.if-is_literal.true) c.of.ensures
    ∙ ap (list_any (λ own. bytes_eq own c.args.pattern.now)) c.self.view_is
