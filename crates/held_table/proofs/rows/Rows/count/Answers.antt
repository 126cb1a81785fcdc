use Rattle.std.proofs.Common.{◌<◌, ap, sym, subst, ◌∙◌, length, get_or, [], List, ℕ}
use Rattle.std.proofs.lemmas.List.{length-map}
use Rattle.held_table.specs.Rows.{Rows, Holding, no_holding, row_of, count_in}
use Rattle.held_table.proofs.RowLemmas.{row_at, row_get}
use Rattle.held_table.proofs.HoldingLemmas.{any_default}
use Rattle.held_table.proofs.rows.Rows.count.Goals as goal

pub returns : goal.returns
returns c =
    let slots = length c.self.inside.totals.items in
    let rows = c.self.inside.rows.items in
    let number : c.args.number < length rows = subst (λ n. c.args.number < n) (length-map rows (row_of slots))
    (subst (λ (r : Rows). c.args.number < length r.rows) (sym c.self.view_is) c.requires.number) in
    let slot : c.args.slot < slots = subst (λ (r : Rows). c.args.slot < r.slots) (sym c.self.view_is) c.requires.slot in
    c.count.ensures
    ∙ ap (λ (h : Holding). count_in h.counts c.args.slot) (c.index.ensures ∙ any_default rows c.args.number c.index.result.now no_holding number)
    ∙ sym (row_at slots (get_or rows c.args.number no_holding) c.args.slot slot)
    ∙ ap (λ (r : List ℕ). get_or r c.args.slot 0) (sym (row_get slots rows c.args.number number))
    ∙ ap (λ (r : Rows). get_or (get_or r.rows c.args.number []) c.args.slot 0) c.self.view_is
