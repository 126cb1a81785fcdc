use Rattle.std.proofs.Common.{◌∙◌, ap, slice_get, Some, None}
use Rattle.kmod_index.specs.Dependencies.{line_of, name_of}
use Rattle.kmod_names.proofs.KeyLemmas.{first_of_key}
use Rattle.kmod_index.proofs.modules_dep.ModulesDep.find.Goals as goal

pub returns-in-Some : goal.returns-in-Some
returns-in-Some c =
    c.line_at.ensures ∙ ap (λ l. slice_get l c.in-Some.place.now) c.deref.ensures.value
    ∙ first_of_key name_of c.self.inside.names c.self.inside.lines.items c.args.name.now (Some c.in-Some.place.now) c.self.invariant
    (c.in-Some.ensures.value ∙ ap (λ l. slice_get l 0) c.of.ensures)
    ∙ ap (λ l. line_of l c.args.name.now) c.self.view_is

pub returns-in-None : goal.returns-in-None
returns-in-None c =
    first_of_key name_of c.self.inside.names c.self.inside.lines.items c.args.name.now None c.self.invariant
    (c.in-None.ensures.value ∙ ap (λ l. slice_get l 0) c.of.ensures)
    ∙ ap (λ l. line_of l c.args.name.now) c.self.view_is
