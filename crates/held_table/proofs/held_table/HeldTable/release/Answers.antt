use Rattle.std.proofs.Common.{◌<◌, refl, ap, sym, subst, ◌∙◌, length, List, ℕ}
use Rattle.std.proofs.Math.ListN.{set, replicate}
use Rattle.dep_index.specs.Table.{Table}
use Rattle.held_table.specs.Held.{HeldOver, all_given_back}
use Rattle.held_table.proofs.KeptLemmas.{kept_from, kept_released}
use Rattle.held_table.proofs.held_table.HeldTable.release.Goals as goal

pub clear-requires-clause-row : goal.clear-requires-clause-row
clear-requires-clause-row c =
    let within : c.args.number < length c.self.inside.rows.rows = subst (λ n. c.args.number < n) c.self.invariant.0.named
    (subst (λ (h : HeldOver). c.args.number < length h.held.names) (sym c.self.view_is) c.requires) in
    c.self.invariant.0.shape.row c.args.number within ∙ sym c.self.invariant.1

pub invariant_of-self : goal.invariant_of-self
invariant_of-self c =
    let rows = c.self.inside.rows.rows in
    let within : c.args.number < length rows = subst (λ n. c.args.number < n) c.self.invariant.0.named
    (subst (λ (h : HeldOver). c.args.number < length h.held.names) (sym c.self.view_is) c.requires) in (
      kept_from c.self.inside.slots c.self.inside.book (set rows c.args.number (replicate (length c.self.inside.slots) 0)) _ c.self.inside.names c.self.inside.names
          (c.clear.ensures.rows ∙ ap (λ n. set rows c.args.number (replicate n 0)) c.self.invariant.1) refl
          (kept_released c.self.inside.slots c.self.inside.book rows c.self.inside.names c.args.number within c.self.invariant.0),
      c.clear.ensures.slots ∙ c.self.invariant.1,
    )

pub returns-clause-table : goal.returns-clause-table
returns-clause-table c =
    let table : List (List ℕ) → Table = λ rows. record { book = c.self.inside.book; rows = rows } in
    ap table
    (c.clear.ensures.rows
    ∙ ap (λ n. set c.self.inside.rows.rows c.args.number (replicate n 0)) (c.self.invariant.1 ∙ sym c.self.invariant.0.shape.states))
    ∙ ap (λ (h : HeldOver). all_given_back c.args.number h.held.table) c.self.view_is
