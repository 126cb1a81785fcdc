use Rattle.std.proofs.Common.{◌≡◌, ◌<◌, ◌↔◌, IsTrue, ap, sym, subst, ◌∙◌, length, get_or, [], ℕ}
use Rattle.std.proofs.lemmas.Bool.Decides.{same_from_decides}
use Rattle.std.proofs.lemmas.List.{length-map}
use Rattle.held_table.specs.Held.{IsIdle, is_idle}
use Rattle.held_table.specs.Rows.{Rows, Holding, no_holding, count_in, row_of}
use Rattle.held_table.proofs.RowLemmas.{row_get, idle_row, idle_counts, idle_decided}
use Rattle.held_table.proofs.HoldingLemmas.{any_default}
use Rattle.held_table.proofs.rows.Rows.is_idle.Goals as goal

pub returns : goal.returns
returns c =
    let slots = length c.self.inside.totals.items in
    let rows = c.self.inside.rows.items in
    let number : c.args.number < length rows = subst (λ n. c.args.number < n) (length-map rows (row_of slots))
    (subst (λ (r : Rows). c.args.number < length r.rows) (sym c.self.view_is) c.requires) in
    let holding = get_or rows c.args.number no_holding in
    let told : IsTrue c.is_empty.result ↔ ((m : ℕ) → count_in holding.counts m ≡ 0) =
    subst (λ (h : Holding). IsTrue c.is_empty.result ↔ ((m : ℕ) → count_in h.counts m ≡ 0))
    (c.index.ensures ∙ any_default rows c.args.number c.index.result.now no_holding number) c.is_empty.ensures in
    let row = row_get slots rows c.args.number number in
    let idle : IsTrue c.is_empty.result ↔ IsIdle (row_of slots holding) = (
      λ empty. idle_row slots holding (c.self.invariant.within c.args.number) (told.0 empty),
      λ zeros. told.1 (idle_counts slots holding (c.self.invariant.within c.args.number) zeros),
    ) in
    same_from_decides c.is_empty.result (is_idle (row_of slots holding)) idle (idle_decided (row_of slots holding))
    ∙ ap is_idle (sym row)
    ∙ ap (λ (r : Rows). is_idle (get_or r.rows c.args.number [])) c.self.view_is
