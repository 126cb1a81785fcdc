use Rattle.std.proofs.Common.{◌≡◌, ◌<◌, ap, sym, subst, ◌∙◌, length, map, get_or, [], ℕ, List}
use Rattle.std.proofs.lemmas.List.{length-map}
use Rattle.held_table.specs.Held.{IsIdle}
use Rattle.held_table.specs.Rows.{Rows, Holding, no_holding, count_in, row_of}
use Rattle.held_table.proofs.RowLemmas.{counted_within, idle_row, row_at, row_get}
use Rattle.held_table.proofs.HoldingLemmas.{any_default}
use Rattle.held_table.proofs.rows.Rows.first.Goals as goal

within : (holdings : List Holding) (totals : List ℕ) (now : Rows) (w : ℕ) → record { slots = length totals; rows = map (row_of (length totals)) holdings; spare = map (λ h. h.spare) holdings } ≡ now
    → w < length now.rows → w < length holdings
within holdings totals now w is below = subst (λ n. w < n) (length-map holdings (row_of (length totals))) (subst (λ (r : Rows). w < length r.rows) (sym is) below)

pub returns-in-Some-clause-within : goal.returns-in-Some-clause-within
returns-in-Some-clause-within c =
    let rows = c.self.inside.rows.items in
    let slots = length c.self.inside.totals.items in
    let number = within rows c.self.inside.totals.items c.args.self.now c.args.number c.self.view_is c.requires in
    let some : 0 < count_in (get_or rows c.args.number no_holding).counts c.in-Some.slot =
    subst (λ (h : Holding). 0 < count_in h.counts c.in-Some.slot) (c.index.ensures ∙ any_default rows c.args.number c.index.result.now no_holding number) c.in-Some.ensures.some in
    subst (λ k. k < c.args.self.now.slots) (sym c.from.ensures)
    (subst (λ (r : Rows). c.in-Some.slot < r.slots) c.self.view_is
    (counted_within slots (get_or rows c.args.number no_holding) c.in-Some.slot (c.self.invariant.within c.args.number) some))

pub returns-in-Some-clause-some : goal.returns-in-Some-clause-some
returns-in-Some-clause-some c =
    let rows = c.self.inside.rows.items in
    let slots = length c.self.inside.totals.items in
    let number = within rows c.self.inside.totals.items c.args.self.now c.args.number c.self.view_is c.requires in
    let holding = get_or rows c.args.number no_holding in
    let some : 0 < count_in holding.counts c.in-Some.slot =
    subst (λ (h : Holding). 0 < count_in h.counts c.in-Some.slot) (c.index.ensures ∙ any_default rows c.args.number c.index.result.now no_holding number) c.in-Some.ensures.some in
    let below = counted_within slots holding c.in-Some.slot (c.self.invariant.within c.args.number) some in
    subst (λ k. 0 < get_or (get_or c.args.self.now.rows c.args.number []) k 0) (sym c.from.ensures)
    (subst (λ (r : Rows). 0 < get_or (get_or r.rows c.args.number []) c.in-Some.slot 0) c.self.view_is
    (subst (λ n. 0 < n) (sym (ap (λ row. get_or row c.in-Some.slot 0) (row_get slots rows c.args.number number) ∙ row_at slots holding c.in-Some.slot below)) some))

pub returns-in-None-clause-none : goal.returns-in-None-clause-none
returns-in-None-clause-none c =
    let rows = c.self.inside.rows.items in
    let slots = length c.self.inside.totals.items in
    let number = within rows c.self.inside.totals.items c.args.self.now c.args.number c.self.view_is c.requires in
    let holding = get_or rows c.args.number no_holding in
    let none : (m : ℕ) → count_in holding.counts m ≡ 0 =
    subst (λ (h : Holding). (m : ℕ) → count_in h.counts m ≡ 0) (c.index.ensures ∙ any_default rows c.args.number c.index.result.now no_holding number) c.in-None.ensures.none in
    subst (λ (r : Rows). IsIdle (get_or r.rows c.args.number [])) c.self.view_is
    (subst IsIdle (sym (row_get slots rows c.args.number number)) (idle_row slots holding (c.self.invariant.within c.args.number) none))
