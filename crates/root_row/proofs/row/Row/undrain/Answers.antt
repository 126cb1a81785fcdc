use Rattle.std.proofs.Common.{false, set, sym, ap, ◌∙◌, refl, arith, length-set}
use Rattle.root_row.specs.declared.calls.BookCall.TheVariants as book_is
use Rattle.dep_index.specs.declared.table.calls.Reply.TheVariants.{Done}
use Rattle.root_row.specs.declared.view.View.{View}
use Rattle.root_row.specs.World.{slots}
use Rattle.root_row.specs.Seats.{Seated}
use Rattle.root_row.specs.Views.{state_in}
use Rattle.root_row.proofs.BookSteps.{answered_book}
use Rattle.root_row.proofs.Trails.{undrains}
use Rattle.root_row.proofs.Flags.{undrained_flags}
use Rattle.root_row.proofs.Sound.{answered_sound}
use Rattle.root_row.proofs.Owning.{own_table, own_inside, own_kept}
use Rattle.root_row.proofs.row.Row.undrain.Goals as goal

pub fetch_sub-requires : goal.fetch_sub-requires
fetch_sub-requires c =
    let inside = own_inside _ _ c.args.slot c.self.view_is c.requires.inside in
    let draining = ap (λ (s : Seated). state_in s.view c.args.slot) c.seat.view_is ∙ c.requires.draining in (
      own_table _ _ _ _ c.self.view_is c.seat.view_is c.requires.own,
      (let w = c.self.invariant.0 in omega arith),
      undrains _ _ _ _ c.seat.invariant.0 c.args.slot inside draining,
    )

pub invariant_of-seat : goal.invariant_of-seat
invariant_of-seat c =
    let told = c.fetch_sub.ensures.2.0.1 c.args.slot refl in
    let v : View = c.seat.inside.seat.me.0.view in
    let w : View = c.fetch_sub.new.seat.me.0.view in (
      answered_book c.args.slot book_is.CancelRemove Done v w told,
      c.fetch_sub.ensures.2.0.0 ∙ c.seat.invariant.1,
      ap (λ l. set l c.args.slot false) c.seat.invariant.2 ∙ sym (undrained_flags c.args.slot v w told),
      length-set c.seat.inside.draining.items c.args.slot false ∙ c.seat.invariant.3 ∙ ap slots (sym told.same_world),
      answered_sound v w _ _ _ _ told,
    )

pub returns-clause-own : goal.returns-clause-own
returns-clause-own c =
    let told = c.fetch_sub.ensures.2.0.1 c.args.slot refl in
    own_kept _ _ _ _ _ c.seat.view_is c.requires.own c.fetch_sub.ensures.0 (told.same_world)
