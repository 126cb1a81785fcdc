use Rattle.std.proofs.Common.{◌∙◌, ap, map}
use Rattle.kmod_query.specs.Probes.{after_of, before_of, probe}
use Rattle.kmod_query.proofs.ProbeLemmas.{filled}
use Rattle.kmod_query.proofs.probes.push_fill.Goals as goal

pub returns : goal.returns
returns c facts =
    filled facts c.in_ok-before.before c.in_ok-after.after c.args.stack.now.items c.push.new.self.items c.push-2.new.self.items c.push-3.new.self.items c.args.object
    (c.in_ok-before.ensures facts ∙ ap (λ n. map probe (before_of facts n)) c.deref-2.ensures.value)
    (c.in_ok-after.ensures facts ∙ ap (λ n. map probe (after_of facts n)) c.deref.ensures.value)
    c.in_ok-push.ensures.items c.in_ok-push-2.ensures.items c.in_ok-push-3.ensures.items
