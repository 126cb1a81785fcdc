use Rattle.std.proofs.Common.{◌∙◌, ap, not}
use Rattle.kmod_index.specs.Builtins.{is_among}
use Rattle.kmod_index.proofs.FoundLemmas.{has_place}
use Rattle.kmod_index.proofs.builtins.Builtins.has.Goals as goal

pub returns : goal.returns
returns c =
    ap not c.is_empty.ensures
    ∙ has_place c.self.inside.places c.self.inside.names.items c.of.result.now c.args.name.now c.self.invariant c.of.ensures
    ∙ ap (λ l. is_among l c.args.name.now) c.self.view_is
