use Rattle.std.proofs.Common.{◌∙◌, ◌∷◌, ◌++◌, [], ap, rules, sym}
use Rattle.kmod_names.specs.ForProofs.{is_literal}
use Rattle.kmod_names.proofs.FindLemmas.{literal_pushed}
use Rattle.kmod_names.proofs.pattern_list.PatternList.push_literal.Goals as goal

pub invariant_of-self-2 : goal.invariant_of-self-2
invariant_of-self-2 c =
    literal_pushed c.self.inside.patterns.items c.push.new.self.items c.self.inside.literals c.add.new.self c.self.inside.others c.self.inside.other_places.items c.in_ok-own.own c.args.pattern.now
    c.len.result c.self.invariant (ap is_literal c.in_ok-own.ensures ∙ c.requires) c.in_ok-add.ensures.ok (sym c.in_ok-own.ensures) (search rules)
    (c.in_ok-push.ensures.items ∙ ap (λ l. l ++ c.in_ok-own.own ∷ []) c.in_ok-reserve.ensures.items)
