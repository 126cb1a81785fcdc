use Rattle.std.proofs.Common.{true, [], ◌∷◌, ◌++◌, sym, ap, ◌∙◌, refl, arith, eq-eqb}
use Rattle.dep_index.specs.Words.{closed}
use Rattle.root_row.specs.declared.view.AtomicStep.TheVariants.{Exchange}
use Rattle.root_row.specs.declared.calls.BookCall.TheVariants as book_is
use Rattle.dep_index.specs.declared.table.calls.Reply.TheVariants.{Done}
use Rattle.root_row.specs.declared.view.View.{View}
use Rattle.root_row.specs.World.{slots}
use Rattle.root_row.specs.Seats.{Seated}
use Rattle.root_row.specs.Views.{state_in}
use Rattle.root_row.proofs.BookSteps.{answered_book}
use Rattle.root_row.proofs.Trails.{reopens}
use Rattle.root_row.proofs.Flags.{reopened_flags}
use Rattle.root_row.proofs.Sound.{answered_sound}
use Rattle.root_row.proofs.Owning.{own_table, own_inside, own_kept}
use Rattle.root_row.proofs.row.Row.reopen.Goals as goal

pub compare_exchange-requires : goal.compare_exchange-requires
compare_exchange-requires c =
    let inside = own_inside _ _ c.args.slot c.self.view_is c.requires.inside in
    let unloading = ap (λ (s : Seated). state_in s.view c.args.slot) c.seat.view_is ∙ c.requires.unloading in (
      own_table _ _ _ _ c.self.view_is c.seat.view_is c.requires.own,
      (let w = c.self.invariant.0 in omega arith),
      reopens _ _ _ _ c.seat.invariant.0 c.args.slot inside unloading,
    )

pub invariant_of-seat : goal.invariant_of-seat
invariant_of-seat c =
    let told = (c.compare_exchange.ensures.2.0.1 c.args.slot refl).0 in
    let v : View = c.seat.inside.seat.me.0.view in
    let w : View = c.compare_exchange.new.seat.me.0.view in (
      answered_book c.args.slot book_is.CancelRemove Done v w told,
      c.compare_exchange.ensures.2.0.0 ∙ c.seat.invariant.1,
      c.seat.invariant.2 ∙ sym (reopened_flags c.args.slot v w (ap (λ (s : Seated). state_in s.view c.args.slot) c.seat.view_is ∙ c.requires.unloading) told),
      c.seat.invariant.3 ∙ ap slots (sym told.same_world),
      answered_sound v w _ _ _ _ told,
    )

pub returns-clause-own : goal.returns-clause-own
returns-clause-own c =
    let told = (c.compare_exchange.ensures.2.0.1 c.args.slot refl).0 in
    own_kept _ _ _ _ _ c.seat.view_is c.requires.own c.compare_exchange.ensures.0 (told.same_world)

pub returns-clause-step : goal.returns-clause-step
returns-clause-step c =
    let told = c.compare_exchange.ensures.2.0.1 c.args.slot refl in
    c.compare_exchange.ensures.2.1 c.args.slot refl
    ∙ ap (λ b. c.seat.inside.seat.me.0.steps ++ Exchange c.args.slot closed 0 b ∷ []) (eq-eqb c.compare_exchange.result closed told.1)
    ∙ ap (λ (s : Seated). s.steps ++ Exchange c.args.slot closed 0 true ∷ []) c.seat.view_is
