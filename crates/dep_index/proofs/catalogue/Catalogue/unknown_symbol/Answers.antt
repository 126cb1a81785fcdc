use Rattle.std.proofs.Common.{◌≡◌, ◌∙◌, ap, length, arith}
use Rattle.dep_index.specs.Table.{Module, module_at}
use Rattle.dep_index.specs.Catalogue.{modules_of}
use Rattle.dep_index.proofs.SlotLemmas.{length-modules_of, module_at-modules_of}
use Rattle.dep_index.proofs.catalogue.Catalogue.unknown_symbol.Goals as goal

pub unknown_symbol-requires : goal.unknown_symbol-requires
unknown_symbol-requires c =
    let is : c.self.inside.slots ≡ modules_of c.args.self.now = c.self.invariant.slots ∙ ap modules_of c.self.view_is in
    let len : length c.self.inside.slots ≡ length c.args.self.now = ap length is ∙ length-modules_of c.args.self.now in
    omega (arith, len, c.requires)

pub returns : goal.returns
returns c =
    let is : c.self.inside.slots ≡ modules_of c.args.self.now = c.self.invariant.slots ∙ ap modules_of c.self.view_is in
    c.unknown_symbol.ensures ∙ ap (λ slots. (module_at slots c.args.slot).unknown_symbol) is ∙ ap (λ (m : Module). m.unknown_symbol) (module_at-modules_of c.args.self.now c.args.slot c.requires)
