use Rattle.std.proofs.Common.{◌≡◌, ◌<◌, OnOk, ap, sym, subst, ◌∙◌, map, length, get_or, List, ℕ}
use Rattle.std.proofs.Math.ListN.{set}
use Rattle.std.proofs.lemmas.List.{length-map, length-set, map-set, get_or-set_same}
use Rattle.held_table.specs.Rows.{Rows, Holding, no_holding, row_of}
use Rattle.held_table.proofs.HoldingLemmas.{any_default, set_same_counts, totalled_same, rows_same}
use Rattle.held_table.proofs.rows.Rows.make_room.Goals as goal

pub invariant_of-self : goal.invariant_of-self
invariant_of-self c =
    let rows = c.self.inside.rows.items in
    let within : c.args.number < length rows = subst (λ n. c.args.number < n) (length-map rows (row_of (length c.self.inside.totals.items)))
    (subst (λ (r : Rows). c.args.number < length r.rows) (sym c.self.view_is) c.requires) in
    let same = set_same_counts rows c.args.number c.make_room.new.self within
    (c.make_room.ensures.stays ∙ ap (λ (h : Holding). h.counts) (c.index_mut-row.ensures.value ∙ any_default rows c.args.number c.index_mut-row.result.now no_holding within)) in
    totalled_same rows (set rows c.args.number c.make_room.new.self) c.self.inside.totals.items
    (length-set rows c.args.number c.make_room.new.self) same c.self.invariant

pub returns-clause-room : goal.returns-clause-room
returns-clause-room c =
    let rows = c.self.inside.rows.items in
    let within : c.args.number < length rows = subst (λ n. c.args.number < n) (length-map rows (row_of (length c.self.inside.totals.items)))
    (subst (λ (r : Rows). c.args.number < length r.rows) (sym c.self.view_is) c.requires) in
    let spare : get_or (map (λ (h : Holding). h.spare) (set rows c.args.number c.make_room.new.self)) c.args.number 0 ≡ c.make_room.new.self.spare =
    ap (λ (l : List ℕ). get_or l c.args.number 0) (map-set (λ (h : Holding). h.spare) rows c.args.number c.make_room.new.self)
    ∙ get_or-set_same (map (λ (h : Holding). h.spare) rows) c.args.number c.make_room.new.self.spare 0 (subst (λ n. c.args.number < n) (sym (length-map rows (λ (h : Holding). h.spare))) within) in
    subst (λ n. OnOk c.make_room.result (0 < n)) (sym spare) c.make_room.ensures.room

pub returns-clause-rows : goal.returns-clause-rows
returns-clause-rows c =
    let rows = c.self.inside.rows.items in
    let within : c.args.number < length rows = subst (λ n. c.args.number < n) (length-map rows (row_of (length c.self.inside.totals.items)))
    (subst (λ (r : Rows). c.args.number < length r.rows) (sym c.self.view_is) c.requires) in
    let same = set_same_counts rows c.args.number c.make_room.new.self within
    (c.make_room.ensures.stays ∙ ap (λ (h : Holding). h.counts) (c.index_mut-row.ensures.value ∙ any_default rows c.args.number c.index_mut-row.result.now no_holding within)) in
    rows_same (length c.self.inside.totals.items) rows (set rows c.args.number c.make_room.new.self)
    (length-set rows c.args.number c.make_room.new.self) same
    ∙ ap (λ (r : Rows). r.rows) c.self.view_is
