use Rattle.std.proofs.Common.{◌≡◌, ◌<◌, ◌≤◌, ◌+◌, ◌-◌, ap, sym, subst, ◌∙◌, map, length, get_or, [], List, ℕ, arith}
use Rattle.std.proofs.Math.ListN.{set}
use Rattle.std.proofs.lemmas.List.{length-map, length-set, get_or-set_same}
use Rattle.held_table.specs.Rows.{Rows, Holding, held_at, count_in, row_of, AreTotalled}
use Rattle.held_table.proofs.RowLemmas.{room_of}
use Rattle.held_table.proofs.HoldingLemmas.{any_default, count_in_total, total_bound, totalled_written, rows_written}
use Rattle.held_table.proofs.rows.Rows.set_count.Goals as goal

-- the numbers are in range of the fields
within : (holdings : List Holding) (totals : List ℕ) (now : Rows) (w : ℕ) → record { slots = length totals; rows = map (row_of (length totals)) holdings; spare = map (λ h. h.spare) holdings } ≡ now
    → w < length now.rows → w < length holdings
within holdings totals now w is below = subst (λ n. w < n) (length-map holdings (row_of (length totals))) (subst (λ (r : Rows). w < length r.rows) (sym is) below)

pub write-was-requires-clause-room : goal.write-was-requires-clause-room
write-was-requires-clause-room c some none =
    let rows = c.self.inside.rows.items in
    let slots = length c.self.inside.totals.items in
    room_of slots rows c.args.number c.args.slot (within rows c.self.inside.totals.items c.args.self.now c.args.number c.self.view_is c.requires.number)
    (subst (λ (r : Rows). c.args.slot < r.slots) (sym c.self.view_is) c.requires.slot)
    (subst (λ (r : Rows). get_or (get_or r.rows c.args.number []) c.args.slot 0 ≡ 0 → 0 < get_or r.spare c.args.number 0) (sym c.self.view_is) (c.requires.room some))
    none

part : (c : goal.After-from) → count_in (held_at c.self.inside.rows.items c.args.number) c.args.slot ≤ get_or c.self.inside.totals.items c.args.slot 0
part c = count_in_total c.self.inside.rows.items c.self.inside.totals.items c.self.invariant c.args.number c.args.slot
    (within c.self.inside.rows.items c.self.inside.totals.items c.args.self.now c.args.number c.self.view_is c.requires.number)
    (subst (λ (r : Rows). c.args.slot < r.slots) (sym c.self.view_is) c.requires.slot)

pub overflow_sub-others : goal.overflow_sub-others
overflow_sub-others c =
    let sin : c.args.slot < length c.self.inside.totals.items = subst (λ (r : Rows). c.args.slot < r.slots) (sym c.self.view_is) c.requires.slot in
    let is : c.index.result.now ≡ get_or c.self.inside.totals.items c.args.slot 0 =
    c.index.ensures ∙ any_default c.self.inside.totals.items c.args.slot c.index.result.now 0 sin in
    omega (arith, part c, c.write-was.ensures.was, is, c.from.ensures)

written : (c : goal.After-from-2) → AreTotalled c.write-was.new.rows.items (set c.self.inside.totals.items c.args.slot (c.index.result.now - c.from.result + c.from-2.result))
written c =
    let win = within c.self.inside.rows.items c.self.inside.totals.items c.args.self.now c.args.number c.self.view_is c.requires.number in
    let sin : c.args.slot < length c.self.inside.totals.items = subst (λ (r : Rows). c.args.slot < r.slots) (sym c.self.view_is) c.requires.slot in
    let part = count_in_total c.self.inside.rows.items c.self.inside.totals.items c.self.invariant c.args.number c.args.slot win sin in
    let is : c.index.result.now ≡ get_or c.self.inside.totals.items c.args.slot 0 =
    c.index.ensures ∙ any_default c.self.inside.totals.items c.args.slot c.index.result.now 0 sin in
    totalled_written c.self.inside.rows.items c.write-was.new.rows.items c.self.inside.totals.items c.args.number c.args.slot c.args.count
    (c.index.result.now - c.from.result + c.from-2.result) c.self.invariant c.write-was.ensures.len win sin (omega (arith, c.ranges.count)) c.write-was.ensures.counts
    (omega (arith, part, c.write-was.ensures.was, is, c.from.ensures, c.from-2.ensures))

pub overflow_add-others : goal.overflow_add-others
overflow_add-others c =
    let sin : c.args.slot < length c.self.inside.totals.items = subst (λ (r : Rows). c.args.slot < r.slots) (sym c.self.view_is) c.requires.slot in
    let x = c.index.result.now - c.from.result + c.from-2.result in
    let bound = total_bound c.write-was.new.rows.items (set c.self.inside.totals.items c.args.slot x) (written c) c.args.slot
    (subst (λ n. c.args.slot < n) (sym (length-set c.self.inside.totals.items c.args.slot x)) sin) in
    omega (arith, bound, get_or-set_same c.self.inside.totals.items c.args.slot x 0 sin)

pub invariant_of-self : goal.invariant_of-self
invariant_of-self c =
    let win = within c.self.inside.rows.items c.self.inside.totals.items c.args.self.now c.args.number c.self.view_is c.requires.number in
    let sin : c.args.slot < length c.self.inside.totals.items = subst (λ (r : Rows). c.args.slot < r.slots) (sym c.self.view_is) c.requires.slot in
    let part = count_in_total c.self.inside.rows.items c.self.inside.totals.items c.self.invariant c.args.number c.args.slot win sin in
    let is : c.index.result.now ≡ get_or c.self.inside.totals.items c.args.slot 0 =
    c.index.ensures ∙ any_default c.self.inside.totals.items c.args.slot c.index.result.now 0 sin in
    totalled_written c.self.inside.rows.items c.write-was.new.rows.items c.self.inside.totals.items c.args.number c.args.slot c.args.count
    (c.index.result.now - c.from.result + c.from-2.result) c.self.invariant c.write-was.ensures.len win sin (omega (arith, c.ranges.count)) c.write-was.ensures.counts
    (omega (arith, part, c.write-was.ensures.was, is, c.from.ensures, c.from-2.ensures))

pub returns-clause-rows : goal.returns-clause-rows
returns-clause-rows c =
    let slots = length c.self.inside.totals.items in
    let win = within c.self.inside.rows.items c.self.inside.totals.items c.args.self.now c.args.number c.self.view_is c.requires.number in
    let sin : c.args.slot < slots = subst (λ (r : Rows). c.args.slot < r.slots) (sym c.self.view_is) c.requires.slot in
    ap (λ n. map (row_of n) c.write-was.new.rows.items) (length-set c.self.inside.totals.items c.args.slot (c.index.result.now - c.from.result + c.from-2.result))
    ∙ rows_written slots c.self.inside.rows.items c.write-was.new.rows.items c.args.number c.args.slot c.args.count c.write-was.ensures.len win sin c.write-was.ensures.counts
    ∙ ap (λ (r : Rows). set r.rows c.args.number (set (get_or r.rows c.args.number []) c.args.slot c.args.count)) c.self.view_is
