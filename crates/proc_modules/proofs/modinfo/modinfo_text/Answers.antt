use Rattle.std.proofs.Common.{◌∙◌, ◌++◌, List, ℕ, codes, decimal, flat_map, ap}
use Rattle.std.proofs.lemmas.List.{take_all}
use Rattle.dep_index.specs.declared.catalogue.params.Param.{Param}
use Rattle.dep_index.specs.Catalogue.{description_at}
use Rattle.proc_modules.specs.Listings.{name_of, size_of}
use Rattle.proc_modules.specs.Details.{field, depends_line, param_line}
use Rattle.proc_modules.proofs.ListingLemmas.{param_step, fields_written}
use Rattle.proc_modules.proofs.modinfo.modinfo_text.Goals as goal

pub loop-param-preserved : goal.loop-param-preserved
loop-param-preserved c =
    param_step c.params-params.result.now c.loop-param.param-index c.param-item.result c.push_depends.new.text.items c.loop-param.text.items c.push_param.new.text.items
    c.loop-param-test.true c.param-item.is c.loop-param.invariant c.in_ok-push_param.ensures

pub returns : goal.returns
returns c =
    let catalogue = c.args.catalogue.now in
    fields_written (field (codes "name:") (name_of catalogue c.args.slot)) (field (codes "size:") (decimal (size_of catalogue c.args.slot)))
    (depends_line catalogue c.args.slot) (flat_map param_line (description_at catalogue c.args.slot).params)
    c.new-text.result.items c.push_field.new.text.items c.push_size.new.text.items c.push_depends.new.text.items c.loop-param.text.items
    c.new-text.ensures.items
    (c.in_ok-push_field.ensures ∙ ap (λ (name : List ℕ). c.new-text.result.items ++ field (codes "name:") name) c.name.ensures)
    (c.in_ok-push_size.ensures ∙ ap (λ (size : ℕ). c.push_field.new.text.items ++ field (codes "size:") (decimal size)) c.size.ensures)
    c.in_ok-push_depends.ensures
    (c.loop-param.invariant
    ∙ ap (λ (ps : List Param). c.push_depends.new.text.items ++ flat_map param_line ps) (take_all c.loop-param.param-index c.params-params.result.now c.loop-param-test.false ∙ c.params-params.ensures))
