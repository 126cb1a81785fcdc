use Rattle.std.proofs.Common.{rules, ◌≡◌, ◌∙◌, ap, sym, subst, Bool, List, ℕ, [], filter, not, Result}
use Rattle.std.proofs.lemmas.Fn.{filter_same}
use Rattle.text_parts.specs.Text.{texts_of}
use Rattle.load_plan.specs.declared.items.Item.{Item}
use Rattle.load_plan.specs.declared.items.PlanError.{PlanError}
use Rattle.modprobe.specs.declared.request.Aim.TheVariants.{Live}
use Rattle.modprobe.specs.Plans.{◌>>=◌, items_of_plans}
use Rattle.modprobe.specs.Loads.{is_there, load_plan}
use Rattle.modprobe.specs.Settling.{LoadsAs}
use Rattle.modprobe.proofs.session.Session.load_plan.Goals as goal

pub returns-clause-items : goal.returns-clause-items
returns-clause-items g c =
    let s = c.args.self.now.setup.now in
    let t = g.M.Modules.table c.args.self.now.table.now in
    let words = texts_of c.args.words.now in
    let test : List ℕ → Bool = λ name. not (is_there Live s t name) in
    let kept : c.retain.new.self.items ≡ filter test c.in_ok-targets.targets.items = filter_same _ _ _ (λ x b f' k. search rules) _ _ c.retain.ensures.filtered in
    let given : load_plan s c.args.name words t ≡ items_of_plans s words [] c.deref-2.result.now =
    ap (λ (r : Result (List (List ℕ)) PlanError). r >>= λ names. items_of_plans s words [] (filter test names)) c.in_ok-targets.ensures
    ∙ ap (items_of_plans s words []) (sym (c.deref-2.ensures.value ∙ kept)) in
    subst (λ (r : Result (List Item) PlanError). LoadsAs s t (λ items. items.items) c.items_to_load.result r) (sym given) c.items_to_load.ensures.items
