use Rattle.std.proofs.Common.{◌≡◌, ◌∙◌, ap, length, arith}
use Rattle.dep_index.specs.Table.{Module, module_at}
use Rattle.dep_index.specs.Catalogue.{modules_of}
use Rattle.dep_index.proofs.SlotLemmas.{length-modules_of, module_at-modules_of}
use Rattle.dep_index.proofs.catalogue.Catalogue.needs.Goals as goal

pub needs-requires : goal.needs-requires
needs-requires c =
    let is : c.self.inside.slots ≡ modules_of c.args.self.now = c.self.invariant.slots ∙ ap modules_of c.self.view_is in
    let len : length c.self.inside.slots ≡ length c.args.self.now = ap length is ∙ length-modules_of c.args.self.now in
    omega (arith, len, c.requires)

pub returns : goal.returns
returns c =
    let is : c.self.inside.slots ≡ modules_of c.args.self.now = c.self.invariant.slots ∙ ap modules_of c.self.view_is in
    c.needs.ensures ∙ ap (λ slots. (module_at slots c.args.slot).needs) is ∙ ap (λ (m : Module). m.needs) (module_at-modules_of c.args.self.now c.args.slot c.requires)
