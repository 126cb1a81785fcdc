use Rattle.std.proofs.Common.{◌≡◌, ◌<◌, true, ap, sym, subst, ◌∙◌, map, length, get_or, [], List}
use Rattle.std.proofs.lemmas.List.{length-map}
use Rattle.std.specs.List.{swap_remove}
use Rattle.held_table.specs.Held.{is_idle}
use Rattle.held_table.specs.Rows.{Rows, Holding, row_of, AreTotalled}
use Rattle.held_table.proofs.RowLemmas.{idle_decided}
use Rattle.held_table.proofs.NameLemmas.{map-swap_remove}
use Rattle.held_table.proofs.HoldingLemmas.{totalled_swapped}
use Rattle.held_table.proofs.rows.Rows.remove.Goals as goal

pub invariant_of-self : goal.invariant_of-self
invariant_of-self c =
    let rows = c.self.inside.rows.items in
    let slots = length c.self.inside.totals.items in
    let within : c.args.number < length rows = subst (λ n. c.args.number < n) (length-map rows (row_of slots))
    (subst (λ (r : Rows). c.args.number < length r.rows) (sym c.self.view_is) c.requires.number) in
    subst (λ (hs : List Holding). AreTotalled hs c.self.inside.totals.items) (sym c.swap_remove-row.ensures.items)
    (totalled_swapped rows c.args.number c.swap_remove-row.result c.self.inside.totals.items within
    ((idle_decided (get_or (map (row_of slots) rows) c.args.number [])).0 (subst (λ (r : Rows). is_idle (get_or r.rows c.args.number []) ≡ true) (sym c.self.view_is) c.requires.idle)) c.self.invariant)

pub returns-clause-rows : goal.returns-clause-rows
returns-clause-rows c =
    let rows = c.self.inside.rows.items in
    let slots = length c.self.inside.totals.items in
    let within : c.args.number < length rows = subst (λ n. c.args.number < n) (length-map rows (row_of slots))
    (subst (λ (r : Rows). c.args.number < length r.rows) (sym c.self.view_is) c.requires.number) in
    ap (map (row_of slots)) c.swap_remove-row.ensures.items
    ∙ map-swap_remove (row_of slots) rows c.args.number c.swap_remove-row.result [] within
    ∙ ap (λ (r : Rows). swap_remove r.rows c.args.number []) c.self.view_is
