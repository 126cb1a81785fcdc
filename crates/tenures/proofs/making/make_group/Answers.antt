use Rattle.std.proofs.Common.{refl, ap, ◌∙◌, ◌++◌}
use Rattle.std.proofs.lemmas.Result.{on_ok_weaker}
use Rattle.line_journal.specs.Lines.{bytes_of}
use Rattle.held_table.specs.Held.{Held}
use Rattle.durable_table.specs.Groups.{KeepsHeldAlong}
use Rattle.tenures.specs.Steps.{outcomes_of}
use Rattle.tenures.proofs.StepLemmas.{with_value, on_ok, group_leaves, group_unanswered, group_answered}
use Rattle.tenures.proofs.making.make_group.Goals as goal

pub returns-in-Ok-clause-made : goal.returns-in-Ok-clause-made
returns-in-Ok-clause-made g c =
    let s = c.args.table.now.session.setup.now in
    let h : Held = c.args.table.now.session.holders.held in
    let commands = bytes_of c.args.lines.now in
    let held : KeepsHeldAlong s h commands = with_value {P = KeepsHeldAlong s h commands} c.in-Ok.replies c.in-Ok.ensures.held in
    group_answered g.D.Device.content g.D.Device.history s h c.perform_all.new.self.session.holders.held commands c.args.table.now.journal c.perform_all.new.self.journal
    (outcomes_of c.deref.result.now) (g.W.World.replies c.args.world.now) (g.W.World.replies c.begin_replies.new.world) (g.D.Device.history c.device.result.now).now
    (g.W.World.since c.args.world.now) (g.W.World.since c.begin_replies.new.world)
    c.in-Ok.ensures.stands c.in-Ok.ensures.becomes (ap outcomes_of c.deref.ensures.value ∙ c.in-Ok.ensures.replies) held
    (group_leaves g.D.Device.content g.D.Device.history s h commands c.args.table.now.journal c.perform_all.new.self.journal c.perform_all.result
    c.requires.stands c.perform_all.ensures.unchanged c.perform_all.ensures.held c.perform_all.ensures.any_moment)
    (ap (λ (d : g.row.D.Denot). (g.D.Device.history d).now) c.device.ensures) c.begin_replies.ensures.begun

pub returns-in-Ok-clause-whole : goal.returns-in-Ok-clause-whole
returns-in-Ok-clause-whole g c =
    on_ok_weaker c.begin_replies.result (λ answered. record {
      answered = answered ∙ ap (λ os. g.W.World.replies c.args.world.now ++ os) (ap outcomes_of c.deref.ensures.value ∙ c.in-Ok.ensures.replies);
      held = with_value {P = KeepsHeldAlong c.args.table.now.session.setup.now c.args.table.now.session.holders.held (bytes_of c.args.lines.now)} c.in-Ok.replies c.in-Ok.ensures.held;
      becomes = c.in-Ok.ensures.becomes;
    }) c.begin_replies.ensures.answered

pub returns-in-Ok-clause-stands : goal.returns-in-Ok-clause-stands
returns-in-Ok-clause-stands g c = on_ok c.begin_replies.result c.in-Ok.ensures.stands

pub returns-in-Err-clause-made : goal.returns-in-Err-clause-made
returns-in-Err-clause-made g c =
    group_unanswered g.D.Device.content g.D.Device.history c.args.table.now.session.setup.now c.args.table.now.session.holders.held (bytes_of c.args.lines.now)
    c.args.table.now.journal c.perform_all.new.self.journal c.perform_all.result c.requires.stands c.perform_all.ensures.unchanged c.perform_all.ensures.held
    c.perform_all.ensures.any_moment (g.W.World.replies c.args.world.now) (g.W.World.replies c.args.world.now) (g.W.World.since c.args.world.now) (g.W.World.since c.args.world.now) refl refl
