use Rattle.std.proofs.Common.{◌≡◌, ◌∙◌, ap, sym, false, take}
use Rattle.std.specs.List.{list_any}
use Rattle.std.specs.Str.{bytes_eq}
use Rattle.dep_index.specs.declared.catalogue.params.Param.{Param}
use Rattle.dep_index.proofs.ParamLemmas.{any-names, behind}
use Rattle.dep_index.proofs.catalogue.param_list.ParamList.has.Goals as goal

pub returns-else-is_compared : goal.returns-else-is_compared
returns-else-is_compared c =
    let none : list_any (λ (p : Param). bytes_eq c.args.name.now p.name) (take 16 c.self.inside.params.items) ≡ false =
    ap (λ ps. list_any (λ (p : Param). bytes_eq c.args.name.now p.name) (take 16 ps)) (sym c.deref.ensures.value) ∙ sym c.is_compared.ensures ∙ c.if-is_compared.false in
    c.contains.ensures
    ∙ any-names c.args.name.now c.self.inside.later.keys
    ∙ ap (list_any (bytes_eq c.args.name.now)) c.self.invariant
    ∙ behind c.args.name.now c.self.inside.params.items none
    ∙ ap (list_any (λ (p : Param). bytes_eq c.args.name.now p.name)) c.self.view_is
