use Rattle.std.proofs.Common.{◌≡◌, ◌⊎◌, ◌==◌, false, cond, set, sym, ap, ◌∙◌, subst, refl, arith, length-set, eq-eqb}
use Rattle.dep_index.specs.declared.table.states.ModuleState.TheVariants as state_is
use Rattle.root_row.specs.declared.view.View.{View}
use Rattle.root_row.specs.World.{slots}
use Rattle.root_row.specs.Seats.{Seated}
use Rattle.root_row.specs.Views.{state_in, draining_of}
use Rattle.root_row.specs.BookSteps.{MayLeave, closing}
use Rattle.root_row.specs.StepsMade.{unheld_word}
use Rattle.root_row.proofs.Trails.{closes}
use Rattle.root_row.proofs.Flags.{closed_flags, closed_one}
use Rattle.root_row.proofs.Sound.{answered_sound}
use Rattle.root_row.proofs.Owning.{own_table, own_inside}
use Rattle.root_row.proofs.row.Row.try_close.Goals as goal

pub compare_exchange-found-requires : goal.compare_exchange-found-requires
compare_exchange-found-requires c =
    let inside = own_inside _ _ c.args.slot c.self.view_is c.requires.inside in
    let may = subst (λ (s : Seated). MayLeave s.view c.args.slot ⊎ (state_in s.view c.args.slot ≡ state_is.Draining)) (sym c.seat.view_is) c.requires.may in
    let unheld = c.unheld_word-unheld.ensures ∙ ap (λ (s : Seated). unheld_word (state_in s.view c.args.slot)) (sym c.seat.view_is) in (
      own_table _ _ _ _ c.self.view_is c.seat.view_is c.requires.own,
      (let w = c.self.invariant.0 in omega arith),
      closes _ _ _ _ c.seat.invariant.0 c.args.slot inside may _ unheld,
    )

pub invariant_of-seat : goal.invariant_of-seat
invariant_of-seat c =
    let told = c.compare_exchange-found.ensures.2.0.1 c.args.slot refl in
    let v : View = c.seat.inside.seat.me.0.view in
    let w : View = c.compare_exchange-found.new.seat.me.0.view in
    let made = c.compare_exchange-found.result == c.unheld_word-unheld.result in (
      closed_one (closing (state_in v c.args.slot)) c.args.slot made v w told,
      c.compare_exchange-found.ensures.2.0.0 ∙ c.seat.invariant.1,
      ap (λ l. set l c.args.slot false) c.seat.invariant.2 ∙ sym (closed_flags c.args.slot made v w told ∙ ap (λ b. cond b (set (draining_of v) c.args.slot false) (draining_of v)) (eq-eqb _ _ c.if-made.true)),
      length-set c.seat.inside.draining.items c.args.slot false ∙ c.seat.invariant.3 ∙ ap slots (sym told.same_world),
      answered_sound v w _ _ _ _ told,
    )
