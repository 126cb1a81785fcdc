use Rattle.std.proofs.Common.{arith, ◌≡◌, refl, sym, ap, subst, ◌∙◌, [], ◌∷◌, ◌++◌, List, ℕ, ◌+◌, drop, Bor}
use Rattle.modprobe.specs.Setup.{Setup}
use Rattle.modprobe.specs.Outcomes.{Outcome}
use Rattle.held_table.specs.Held.{Held}
use Rattle.durable_table.specs.Durable.{Stands}
use Rattle.tenures.specs.Endings.{cut_offs_in}
use Rattle.tenures.specs.Steps.{commands_of, groups_of, IsMade, IsMadeWhole}
use Rattle.tenures.specs.Kept.{IsKeptSince}
use Rattle.tenures.proofs.KeptLemmas.{GoesOn, Ending, tenure_of, begins, goes_on, answered_all}
use Rattle.tenures.proofs.MomentLemmas.{idle_since, made_kept, made_since}
use Rattle.tenures.proofs.StepLemmas.{rest_is, none_left, lines_are}
use Rattle.tenures.proofs.process.answer.Goals as goal

pub loop-step-init : goal.loop-step-init
loop-step-init g c =
    let s = c.args.table.now.session.setup.now in
    let asked = groups_of c.args.steps.now in
    let before = g.W.World.past c.args.world.now in
    let h : Held = c.args.table.now.session.holders.held in
    let none : [] ≡ g.W.World.replies c.args.world.now = sym c.requires.none in
    record {
      setup = refl;
      past = refl;
      file = refl;
      goes = subst (λ (os : List Outcome). GoesOn s before asked asked os h) none (begins asked c.requires.leads.1);
      stands = c.requires.stands;
      since = c.requires.since;
      cut_off = refl;
      failed = omega arith;
      kept = λ (ended : Ending). subst (λ (os : List Outcome). IsKeptSince s (before ++ tenure_of (g.W.World.found c.args.world.now) asked os ended ∷ []) (g.D.Device.history c.args.table.now.journal.lines.device) (g.W.World.since c.args.world.now)) none
          (idle_since s before (g.W.World.found c.args.world.now) asked ended (g.D.Device.history c.args.table.now.journal.lines.device) (g.W.World.since c.args.world.now) c.requires.kept);
    }

pub make-requires-clause-setup : goal.make-requires-clause-setup
make-requires-clause-setup g c = ap (λ (b : Bor Setup). b.now) c.loop-step.invariant.setup ∙ c.requires.setup

pub make-requires-clause-stands : goal.make-requires-clause-stands
make-requires-clause-stands g c =
    subst (λ (v : Setup). Stands g.D.Device.content g.D.Device.history v c.loop-step.table.session.holders.held c.loop-step.table.journal)
    (sym (ap (λ (b : Bor Setup). b.now) c.loop-step.invariant.setup)) c.loop-step.invariant.stands

pub make-requires-clause-lines : goal.make-requires-clause-lines
make-requires-clause-lines g c = lines_are c.args.steps.now c.loop-step.step-index c.step-item.result c.loop-step-test.true c.step-item.is c.requires.lines

pub loop-step-preserved : goal.loop-step-preserved
loop-step-preserved g c =
    let s = c.args.table.now.session.setup.now in
    let same : c.loop-step.table.session.setup.now ≡ s = ap (λ (b : Bor Setup). b.now) c.loop-step.invariant.setup in
    let before = g.W.World.past c.args.world.now in
    let asked = groups_of c.args.steps.now in
    let rest = groups_of (drop (c.loop-step.step-index + 1) c.args.steps.now) in
    let group = commands_of c.step-item.result in
    let replies = g.W.World.replies c.loop-step.world in
    let begun = g.W.World.replies c.make.new.world in
    let h : Held = c.loop-step.table.session.holders.held in
    let new : Held = c.make.new.table.session.holders.held in
    let old_history = g.D.Device.history c.loop-step.table.journal.lines.device in
    let new_history = g.D.Device.history c.make.new.table.journal.lines.device in
    let since = g.W.World.since c.loop-step.world in
    let since_new = g.W.World.since c.make.new.world in
    let goes : GoesOn s before asked (group ∷ rest) replies h =
    subst (λ (gs : List (List (List ℕ))). GoesOn s before asked gs replies h) (rest_is c.args.steps.now c.loop-step.step-index c.step-item.result c.loop-step-test.true c.step-item.is)
    c.loop-step.invariant.goes in
    let made : IsMade s h group old_history new_history replies begun since since_new =
    subst (λ (v : Setup). IsMade v h group old_history new_history replies begun since since_new) same c.make.ensures.made in
    record {
      setup = c.make.ensures.setup ∙ c.loop-step.invariant.setup;
      past = c.make.ensures.past ∙ c.loop-step.invariant.past;
      file = c.make.ensures.file ∙ c.loop-step.invariant.file;
      goes = goes_on goes (subst (λ (v : Setup). IsMadeWhole v h new group replies begun) same c.in_ok-make.ensures.whole);
      stands = subst (λ (v : Setup). Stands g.D.Device.content g.D.Device.history v new c.make.new.table.journal) same c.in_ok-make.ensures.stands;
      since = made_since s group replies begun h old_history new_history since since_new c.loop-step.invariant.since made;
      cut_off = omega (arith, c.loop-step.invariant.cut_off, c.make.ensures.cut_off, ap cut_offs_in c.in_ok-make.was);
      failed = omega (arith, c.loop-step.invariant.failed, c.make.ensures.failed);
      kept = λ (ended : Ending). made_kept s before asked rest group replies begun h old_history new_history since since_new goes c.loop-step.invariant.since (g.W.World.found c.args.world.now) ended made (c.loop-step.invariant.kept ended);
    }

pub returns-in_err-make-clause-kept : goal.returns-in_err-make-clause-kept
returns-in_err-make-clause-kept g c =
    let s = c.args.table.now.session.setup.now in
    let same : c.loop-step.table.session.setup.now ≡ s = ap (λ (b : Bor Setup). b.now) c.loop-step.invariant.setup in
    let before = g.W.World.past c.args.world.now in
    let asked = groups_of c.args.steps.now in
    let rest = groups_of (drop (c.loop-step.step-index + 1) c.args.steps.now) in
    let group = commands_of c.step-item.result in
    let replies = g.W.World.replies c.loop-step.world in
    let begun = g.W.World.replies c.make.new.world in
    let h : Held = c.loop-step.table.session.holders.held in
    let old_history = g.D.Device.history c.loop-step.table.journal.lines.device in
    let new_history = g.D.Device.history c.make.new.table.journal.lines.device in
    let since = g.W.World.since c.loop-step.world in
    let since_new = g.W.World.since c.make.new.world in
    let goes : GoesOn s before asked (group ∷ rest) replies h =
    subst (λ (gs : List (List (List ℕ))). GoesOn s before asked gs replies h) (rest_is c.args.steps.now c.loop-step.step-index c.step-item.result c.loop-step-test.true c.step-item.is)
    c.loop-step.invariant.goes in
    let made : IsMade s h group old_history new_history replies begun since since_new =
    subst (λ (v : Setup). IsMade v h group old_history new_history replies begun since since_new) same c.make.ensures.made in
    made_kept s before asked rest group replies begun h old_history new_history since since_new goes c.loop-step.invariant.since _ _ made (c.loop-step.invariant.kept _)

pub returns-clause-answered : goal.returns-clause-answered
returns-clause-answered g c = answered_all c.loop-step.invariant.goes (none_left c.args.steps.now c.loop-step.step-index c.loop-step-test.false)
