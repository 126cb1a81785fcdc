use Rattle.std.proofs.Common.{◌≡◌, refl, arith, length}
use Rattle.kmod_query.specs.Objects.{by_name}
use Rattle.kmod_query.specs.Probes.{fill}
use Rattle.kmod_query.proofs.ProbeLemmas.{push_all, push_more}
use Rattle.kmod_query.proofs.probes.push_fills.Goals as goal

pub names-preserved : goal.names-preserved
names-preserved c facts = push_more facts (λ name. name.items) (λ name. fill (by_name name)) c.pop.new.self.items c.in-Some.name _ c.names.stack.items c.names.names.items _ _ c.in-Some.ensures.items c.in_ok-push.ensures.items refl (c.names.invariant facts)

pub returns : goal.returns
returns c facts =
    let none : length c.names.names.items ≡ 0 = omega (arith, c.in_default.ensures.cases.0, c.names.names.ok.0) in
    push_all facts (λ name. name.items) (λ name. fill (by_name name)) c.names.names.items c.names.stack.items _ none (c.names.invariant facts)
