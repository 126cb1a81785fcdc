use Rattle.std.proofs.Common.{◌<◌, ◌++◌, ◌∷◌, ap, ◌∙◌, length, [], arith}
use Rattle.std.proofs.Math.ListN.{replicate}
use Rattle.held_table.specs.Names.{name_bytes}
use Rattle.held_table.proofs.KeptLemmas.{kept_from, kept_entered}
use Rattle.held_table.proofs.held_table.HeldTable.enter.Goals as goal

pub invariant_of-self-2 : goal.invariant_of-self-2
invariant_of-self-2 c =
    let rows = c.self.inside.rows.rows in
    let names = c.self.inside.names in
    let few : length rows < 65536 = omega (arith, c.self.invariant.0.named) in (
      kept_from c.self.inside.slots c.self.inside.book (rows ++ replicate (length c.self.inside.slots) 0 ∷ []) _ (names ++ name_bytes c.args.name ∷ []) _
          (c.in_ok-push.ensures.added ∙ ap (λ n. rows ++ replicate n 0 ∷ []) c.self.invariant.1) c.in_ok-push.ensures.named
          (kept_entered c.self.inside.slots c.self.inside.book rows names (name_bytes c.args.name) c.self.invariant.0 few),
      c.push.ensures.slots ∙ c.self.invariant.1,
    )
