use Rattle.std.proofs.Common.{◌≡◌, ◌∙◌, ◌∷◌, [], ap, cond, sym}
use Rattle.kmod_query.specs.Objects.{names_of, object_of}
use Rattle.kmod_query.specs.Probes.{add, fill}
use Rattle.kmod_query.specs.Stacks.{task_of}
use Rattle.kmod_query.specs.World.{facts_of}
use Rattle.kmod_query.proofs.ProbeLemmas.{OnOk-map, probed}
use Rattle.kmod_query.proofs.probes.push_probe.Goals as goal
use Rattle.kmod_query.proofs.probes.push_probe.Goals.{then-bare, else-bare}

pub returns : goal.returns
returns c =
    let facts = facts_of c.args.world.now in
    let own = object_of c.args.object in
    let chosen : task_of facts c.if-bare.push ≡ cond c.args.bare (add own) (fill own) ∷ [] =
    elim c.if-bare.branch [ then-bare w ↦ ap (task_of facts) w.push-is ∙ sym (ap (λ b. cond b (add own) (fill own) ∷ []) w.if-bare.true) | else-bare w ↦ ap (task_of facts) w.push-is ∙ sym (ap (λ b. cond b (add own) (fill own) ∷ []) w.if-bare.false) ] in
    OnOk-map c.push_fills.result
    (λ pushed. probed facts c.args.bare (names_of c.in_ok-needs.needs.items) c.args.stack.now.items c.push.new.self.items c.push_fills.new.stack.items c.if-bare.push own
    (c.in_ok-needs.ensures ∙ ap facts.needs c.deref.ensures.value) chosen c.in_ok-push.ensures.items (pushed facts))
    c.push_fills.ensures
