use Rattle.std.proofs.Common.{sym, ap, ◌∙◌, subst, arith}
use Rattle.atomic_table.specs.declared.shared.Seat.{Seat}
use Rattle.root_row.specs.declared.view.View.{View}
use Rattle.root_row.specs.declared.view.Trail.{Trail}
use Rattle.root_row.specs.Trails.{TrailState}
use Rattle.root_row.specs.Seats.{RowIs}
use Rattle.root_row.specs.Hearing.{HeardBoth}
use Rattle.root_row.proofs.Telling.{tells_two, heard_both}
use Rattle.root_row.proofs.Trails.{joins, splits}
use Rattle.root_row.proofs.row.Row.hear.Goals as goal

pub join_seat-requires : goal.join_seat-requires
join_seat-requires c =
    let id = sym (ap (λ (r : RowIs). r.id) c.self.view_is) in (
      c.requires.ids.0 ∙ id,
      c.requires.ids.1 ∙ id,
      c.requires.empty.1,
      (let w = c.self.invariant.0 in omega arith),
      joins _ _ _ _ _ _ c.requires.singles.0,
    )

pub load-requires : goal.load-requires
load-requires c =
    let id = sym (ap (λ (r : RowIs). r.id) c.self.view_is) in (
      c.join_seat.ensures.0 ∙ (c.requires.ids.0 ∙ id),
      (let w = c.self.invariant.0 in omega arith),
      tells_two _ _ _ _,
    )

pub split_seat-first-requires : goal.split_seat-first-requires
split_seat-first-requires c =
    let id = sym (ap (λ (r : RowIs). r.id) c.self.view_is) in (
      c.load.ensures.0 ∙ (c.join_seat.ensures.0 ∙ (c.requires.ids.0 ∙ id)),
      (let w = c.self.invariant.0 in omega arith),
      splits _ _ _,
    )

pub returns-clause-heard : goal.returns-clause-heard
returns-clause-heard c =
    let v = c.args.one.now.me.0.view in
    let w = c.args.other.me.0.view in
    let t = c.split_seat-first.ensures in
    let told = heard_both v w c.join_seat.new.seat.me.0.view c.load.new.seat.me.0.view c.requires.singles.0 c.requires.singles.1 (ap (λ (m : TrailState). m.0.view) c.join_seat.ensures.2) c.load.ensures.2.0.1 in
    let cut = subst (λ (y : View × View). HeardBoth v w y.0 y.1) (λ i. (sym (ap (λ (m : TrailState). m.0.view) t.4) i, sym (ap (λ (m : TrailState). m.0.view) t.2) i)) told in
    subst (λ (y : Seat (Unit {0}) Trail × Seat (Unit {0}) Trail). HeardBoth v w y.0.me.0.view y.1.me.0.view) (λ i. (sym c.replace.ensures.after i, sym c.replace.ensures.value i)) cut
