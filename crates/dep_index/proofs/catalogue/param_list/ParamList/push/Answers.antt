use Rattle.std.proofs.Common.{rules, ◌≡◌, List, ◌∷◌, ◌++◌, ◌∙◌, [], ap, sym, cond, length, nat_le}
use Rattle.std.specs.List.{list_any}
use Rattle.std.specs.Str.{bytes_eq}
use Rattle.dep_index.specs.declared.catalogue.params.Param.{Param}
use Rattle.dep_index.specs.Catalogue.ParamNames.{names_in, later_names}
use Rattle.dep_index.proofs.ParamLemmas.{none_later, later-more}
use Rattle.dep_index.proofs.catalogue.param_list.ParamList.push.Goals as goal

pub note-requires : goal.note-requires
note-requires c =
    ap (list_any (bytes_eq c.args.param.name)) c.self.invariant
    ∙ none_later c.args.param.name c.self.inside.params.items (ap (list_any (λ (p : Param). bytes_eq c.args.param.name p.name)) c.self.view_is ∙ c.requires)

pub invariant_of-self-2 : goal.invariant_of-self-2
invariant_of-self-2 c =
    let before = c.self.inside.params.items in
    let count : c.len.result ≡ length before = search rules in
    c.in_ok-note.ensures
    ∙ ap (λ n. cond (nat_le 16 n) (names_in c.self.inside.later.keys ++ c.args.param.name ∷ []) (names_in c.self.inside.later.keys)) count
    ∙ ap (λ names. cond (nat_le 16 (length before)) (names ++ c.args.param.name ∷ []) names) c.self.invariant
    ∙ sym (later-more before c.args.param)
    ∙ ap later_names (sym (c.in_ok-push.ensures.items ∙ ap (λ (ps : List Param). ps ++ c.args.param ∷ []) c.in_ok-reserve.ensures.items))
