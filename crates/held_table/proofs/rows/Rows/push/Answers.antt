use Rattle.std.proofs.Common.{◌≡◌, ◌<◌, ◌∷◌, ◌++◌, ap, sym, subst, ◌∙◌, map, length, [], List, rules, arith}
use Rattle.std.proofs.lemmas.Grind.{common_steps}
use Rattle.std.proofs.lemmas.List.{length-map}
use Rattle.held_table.specs.Rows.{Rows, Holding, nothing, row_of, AreTotalled}
use Rattle.held_table.proofs.HoldingLemmas.{totalled_pushed, rows_pushed}
use Rattle.held_table.proofs.rows.Rows.push.Goals as goal

pub invariant_of-self-2 : goal.invariant_of-self-2
invariant_of-self-2 c =
    let rows = c.self.inside.rows.items in
    let slots = length c.self.inside.totals.items in
    let pushed : c.push-2.new.self.items ≡ rows ++ c.new.result ∷ [] = first_of (search rules, grind (arith, common_steps)) in
    subst (λ (hs : List Holding). AreTotalled hs c.self.inside.totals.items) (sym pushed)
    (totalled_pushed rows c.new.result c.self.inside.totals.items c.new.ensures
    (subst (λ n. n < 65536) (length-map rows (row_of slots)) (subst (λ (r : Rows). length r.rows < 65536) (sym c.self.view_is) c.requires.few)) c.self.invariant)

pub returns-clause-added : goal.returns-clause-added
returns-clause-added c =
    let rows = c.self.inside.rows.items in
    let slots = length c.self.inside.totals.items in
    let pushed : c.push-2.new.self.items ≡ rows ++ c.new.result ∷ [] = first_of (search rules, grind (arith, common_steps)) in
    ap (map (row_of slots)) pushed
    ∙ rows_pushed slots rows c.new.result c.new.ensures
    ∙ ap (λ (r : Rows). r.rows ++ nothing r.slots ∷ []) c.self.view_is
