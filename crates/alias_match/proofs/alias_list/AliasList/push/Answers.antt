use Rattle.std.proofs.Common.{◌∙◌, ◌∷◌, ◌++◌, [], ap, arith}
use Rattle.std.proofs.lemmas.Grind.{common_steps}
use Rattle.alias_match.proofs.Listed.{each_more}
use Rattle.alias_match.proofs.alias_list.AliasList.push.Goals as goal

pub invariant_of-self-2 : goal.invariant_of-self-2
invariant_of-self-2 c =
    each_more c.self.inside.table c.add.new.self c.self.inside.fronts.items c.push.new.self.items c.self.inside.entries.items c.push-2.new.self.items
    c.args.alias c.mark.result c.front.result c.self.invariant c.mark.ensures c.front.ensures c.in_ok-add.ensures.ok
    (c.in_ok-push.ensures.items ∙ ap (λ l. l ++ c.front.result ∷ []) c.in_ok-reserve-2.ensures.items)
    (c.in_ok-push-2.ensures.items ∙ ap (λ l. l ++ c.args.alias ∷ []) c.in_ok-reserve.ensures.items)

pub invariant_of-self : goal.invariant_of-self
invariant_of-self c = grind (arith, common_steps)

pub invariant_of-self-in_err-reserve-2 : goal.invariant_of-self-in_err-reserve-2
invariant_of-self-in_err-reserve-2 c = grind (arith, common_steps)

pub invariant_of-self-in_err-add : goal.invariant_of-self-in_err-add
invariant_of-self-in_err-add c = grind (arith, common_steps)

pub invariant_of-self-in_err-push : goal.invariant_of-self-in_err-push
invariant_of-self-in_err-push c = grind (arith, common_steps)

pub invariant_of-self-in_err-push-2 : goal.invariant_of-self-in_err-push-2
invariant_of-self-in_err-push-2 c = grind (arith, common_steps)
