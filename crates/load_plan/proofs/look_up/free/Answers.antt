use Rattle.std.proofs.Common.{rules, ◌≡◌, ◌∙◌, ℕ, Bool, List, [], IfOk, ap, filter, map, not, refl, subst}
use Rattle.std.proofs.lemmas.Fn.{filter_same}
use Rattle.std.specs.Borrow.{Bor}
use Rattle.alias_match.specs.declared.alias.Alias.{Alias}
use Rattle.modprobe_conf.specs.Configuration.{is_blacklisted}
use Rattle.load_plan.specs.LookUp.{with_names}
use Rattle.load_plan.proofs.LookUpLemmas.{targets-filter, targets_found}
use Rattle.load_plan.proofs.look_up.free.Goals as goal

pub returns : goal.returns
returns c =
    let test : List ℕ → Bool = λ target. not (is_blacklisted c.args.configuration.now target) in
    let kept : c.retain.new.self.items ≡ filter (λ (alias : Bor Alias). test alias.now.target) c.in_ok-aliases.aliases.items =
    filter_same _ _ _ (λ x b f' k. search rules) _ _ c.retain.ensures.filtered in
    subst (λ targets. IfOk c.names_of.result (λ names. names.items ≡ with_names [] targets))
    (ap (map (λ (alias : Bor Alias). alias.now.target)) (c.deref.ensures.value ∙ kept)
    ∙ targets-filter test c.in_ok-aliases.aliases.items
    ∙ ap (filter test) (targets_found c.in_ok-aliases.aliases.items c.in_ok-aliases.aliases.items c.args.aliases.now.entries c.args.name.now refl c.in_ok-aliases.ensures))
    c.names_of.ensures
