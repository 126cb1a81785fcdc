use Rattle.std.proofs.Common.{◌≡◌, suc, [], ◌∷◌, ◌++◌, length, length-append, set, ◌∙◌, ap, arith}
use Rattle.load_plan.specs.BySlot.{values_of}
use Rattle.load_plan.proofs.BySlot.{values-set}
use Rattle.load_plan.proofs.by_slot.BySlot.set.Goals as goal

pub returns : goal.returns
returns g c =
    let own : c.push.new.self.items ≡ c.self.inside.own.items ++ c.args.value ∷ [] = c.in_ok-push.ensures.items in
    let place : c.len.result ≡ suc (length c.self.inside.own.items) = omega (arith, c.len.ensures, ap length own, length-append c.self.inside.own.items (c.args.value ∷ [])) in
    ap (λ o. values_of c.self.inside.usual o (set c.self.inside.places.items c.args.slot c.len.result)) own
    ∙ ap (λ p. values_of c.self.inside.usual (c.self.inside.own.items ++ c.args.value ∷ []) (set c.self.inside.places.items c.args.slot p)) place
    ∙ values-set c.self.inside.usual c.self.inside.own.items c.args.value c.self.inside.places.items c.args.slot c.self.invariant
    ∙ ap (λ vs. set vs c.args.slot c.args.value) c.self.view_is
