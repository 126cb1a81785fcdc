use Rattle.std.proofs.Common.{rules, ◌≡◌, ◌∙◌, ap, sym, subst, Bool, List, ℕ, [], filter, not, Result}
use Rattle.std.proofs.lemmas.Fn.{filter_same}
use Rattle.load_plan.specs.declared.items.PlanError.{PlanError}
use Rattle.load_plan.specs.Items.{Answers}
use Rattle.modprobe.specs.declared.request.Aim.TheVariants.{Absent}
use Rattle.modprobe.specs.Plans.{◌>>=◌}
use Rattle.modprobe.specs.Loads.{is_there, removal_plans_of, removal_plans}
use Rattle.modprobe.proofs.session.Session.removal_plans.Goals as goal

pub returns-clause-plans : goal.returns-clause-plans
returns-clause-plans g c =
    let s = c.args.self.now.setup.now in
    let t = g.M.Modules.table c.args.self.now.table.now in
    let test : List ℕ → Bool = λ name. not (is_there Absent s t name) in
    let kept : c.retain.new.self.items ≡ filter test c.in_ok-targets.targets.items = filter_same _ _ _ (λ x b f' k. search rules) _ _ c.retain.ensures.filtered in
    let given : removal_plans s c.args.name t ≡ removal_plans_of s [] c.deref-2.result.now =
    ap (λ (r : Result (List (List ℕ)) PlanError). r >>= λ names. removal_plans_of s [] (filter test names)) c.in_ok-targets.ensures
    ∙ ap (removal_plans_of s []) (sym (c.deref-2.ensures.value ∙ kept)) in
    subst (λ (r : Result (List (List ℕ)) PlanError). Answers (λ plans. plans.items) c.removal_plans_of.result r) (sym given) c.removal_plans_of.ensures.plans
