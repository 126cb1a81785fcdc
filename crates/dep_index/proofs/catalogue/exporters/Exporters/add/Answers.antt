use Rattle.std.proofs.Common.{◌∙◌, sym, ap, map, ◌≡◌, ◌∷◌, [], ◌++◌, None, is_none}
use Rattle.dep_index.specs.Catalogue.Exports.{slot_at}
use Rattle.dep_index.proofs.LinkLemmas.{insert-links, lookup-links, link, none_from, none_is}
use Rattle.dep_index.proofs.catalogue.exporters.Exporters.add.Goals as goal

pub returns-clause-added : goal.returns-clause-added
returns-clause-added c =
    let found : c.in_ok-before.before ≡ slot_at (map link c.self.inside.by_symbol.entries) c.args.symbol.now =
    c.in_ok-before.ensures.old ∙ lookup-links c.self.inside.by_symbol.entries c.args.symbol.now in
    none_is c.in_ok-before.before c.is_none.result c.is_none.ensures ∙ ap is_none found ∙ ap (λ links. is_none (slot_at links c.args.symbol.now)) c.self.view_is

pub returns-clause-links : goal.returns-clause-links
returns-clause-links c = λ is_new.
    let found : c.in_ok-before.before ≡ slot_at (map link c.self.inside.by_symbol.entries) c.args.symbol.now =
    c.in_ok-before.ensures.old ∙ lookup-links c.self.inside.by_symbol.entries c.args.symbol.now in
    let absent : slot_at (map link c.self.inside.by_symbol.entries) c.args.symbol.now ≡ None = sym found ∙ none_from c.in_ok-before.before (sym (none_is c.in_ok-before.before c.is_none.result c.is_none.ensures) ∙ is_new) in
    ap (map link) c.in_ok-before.ensures.entries
    ∙ insert-links c.self.inside.by_symbol.entries c.args.symbol c.args.slot absent
    ∙ ap (λ links. links ++ (c.args.symbol.now, c.args.slot) ∷ []) c.self.view_is
