use Rattle.std.proofs.Common.{◌∙◌, sym, ap, map, not}
use Rattle.kmod_query.specs.Objects.{has, object_with, with_object}
use Rattle.kmod_query.proofs.MetLemmas.{has_key, with_key}
use Rattle.kmod_query.proofs.object.Met.insert.Goals as goal

pub returns-clause-new : goal.returns-clause-new
returns-clause-new c =
    let keys = c.self.inside.objects.keys in
    rw (sym c.self.view_is)
    (c.in_ok-insert.ensures.added ∙ ap not (has_key keys c.into_key-key.result) ∙ ap (λ o. not (has (map object_with keys) o)) (c.into_key-key.ensures ∙ c.in_ok-own.ensures))

pub returns-clause-met : goal.returns-clause-met
returns-clause-met c =
    let keys = c.self.inside.objects.keys in
    rw (sym c.self.view_is)
    (ap (map object_with) c.in_ok-insert.ensures.keys ∙ with_key keys c.into_key-key.result ∙ ap (with_object (map object_with keys)) (c.into_key-key.ensures ∙ c.in_ok-own.ensures))
