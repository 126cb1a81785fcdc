use Rattle.std.proofs.Common.{◌≡◌, ◌∙◌, ap, length, arith}
use Rattle.dep_index.specs.Table.{Module, module_at}
use Rattle.dep_index.specs.Catalogue.{modules_of}
use Rattle.dep_index.proofs.SlotLemmas.{length-modules_of, module_at-modules_of}
use Rattle.dep_index.proofs.catalogue.Catalogue.permanent.Goals as goal

pub permanent-requires : goal.permanent-requires
permanent-requires c =
    let is : c.self.inside.slots ≡ modules_of c.args.self.now = c.self.invariant.slots ∙ ap modules_of c.self.view_is in
    let len : length c.self.inside.slots ≡ length c.args.self.now = ap length is ∙ length-modules_of c.args.self.now in
    omega (arith, len, c.requires)

pub returns : goal.returns
returns c =
    let is : c.self.inside.slots ≡ modules_of c.args.self.now = c.self.invariant.slots ∙ ap modules_of c.self.view_is in
    c.permanent.ensures ∙ ap (λ slots. (module_at slots c.args.slot).permanent) is ∙ ap (λ (m : Module). m.permanent) (module_at-modules_of c.args.self.now c.args.slot c.requires)
