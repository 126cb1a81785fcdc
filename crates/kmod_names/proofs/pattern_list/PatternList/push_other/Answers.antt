use Rattle.std.proofs.Common.{◌∙◌, ◌∷◌, ◌++◌, [], ap, rules, sym}
use Rattle.kmod_names.specs.ForProofs.{is_literal}
use Rattle.kmod_names.proofs.FindLemmas.{other_pushed}
use Rattle.kmod_names.proofs.pattern_list.PatternList.push_other.Goals as goal

pub invariant_of-self-2 : goal.invariant_of-self-2
invariant_of-self-2 c =
    other_pushed c.self.inside.patterns.items c.push-3.new.self.items c.self.inside.literals c.self.inside.others c.push.new.self c.self.inside.other_places.items c.push-2.new.self.items c.in_ok-own.own
    c.args.pattern.now c.in_ok-alias.alias c.len.result c.self.invariant (ap is_literal c.in_ok-own.ensures ∙ c.requires) (sym c.in_ok-own.ensures) c.in_ok-alias.ensures c.in_ok-push.ensures.ok
    (c.in_ok-push-2.ensures.items ∙ ap (λ l. l ++ c.len.result ∷ []) c.in_ok-reserve-2.ensures.items) (search rules)
    (c.in_ok-push-3.ensures.items ∙ ap (λ l. l ++ c.in_ok-own.own ∷ []) c.in_ok-reserve.ensures.items)
