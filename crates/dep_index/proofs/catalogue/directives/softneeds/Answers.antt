use Rattle.std.proofs.Common.{◌∙◌, sym, ap, Some}
use Rattle.dep_index.specs.Catalogue as spec
use Rattle.dep_index.proofs.DirectiveLemmas.{bad_names, good_names}
use Rattle.dep_index.proofs.catalogue.directives.softneeds.Goals as goal

pub returns-then-not-are_names : goal.returns-then-not-are_names
returns-then-not-are_names c = sym (bad_names c.args.rest.now (sym c.are_names.ensures ∙ c.if-not-are_names.true))

pub returns : goal.returns
returns c =
    ap (λ names. Some (spec.softneeds names)) c.in_ok-names.ensures
    ∙ sym (good_names c.args.rest.now (sym c.is_empty.ensures ∙ c.if-is_empty.false) (sym c.are_names.ensures ∙ c.if-not-are_names.false))
