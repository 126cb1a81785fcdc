use Rattle.std.proofs.Common.{arith, Err, sym, ap, subst, ◌∙◌, ◌++◌, ◌∷◌, [], List, ℕ}
use Rattle.modprobe.specs.Setup.{Setup}
use Rattle.held_table.specs.Held.{Held}
use Rattle.durable_table.specs.Durable.{Stands}
use Rattle.tenures.specs.Tenures.{Tenure}
use Rattle.tenures.specs.Steps.{groups_of}
use Rattle.tenures.specs.Kept.{IsKeptSince, LeadsTo}
use Rattle.tenures.proofs.KeptLemmas.{tenure_of}
use Rattle.tenures.proofs.MomentLemmas.{opened, opened_leads, over_idle, over_answered}
use Rattle.tenures.proofs.process.tenure.Goals as goal

pub answer-answered-requires-clause-stands : goal.answer-answered-requires-clause-stands
answer-answered-requires-clause-stands g c =
    subst (λ (v : Setup). Stands g.D.Device.content g.D.Device.history v c.in-Ok.table.session.holders.held c.in-Ok.table.journal) (sym c.in-Ok.ensures.setup) c.in-Ok.ensures.stands

pub answer-answered-requires-clause-leads : goal.answer-answered-requires-clause-leads
answer-answered-requires-clause-leads g c =
    let h : Held = c.in-Ok.table.session.holders.held in
    let past = g.W.World.past c.args.world.now in
    let file = g.D.Device.content c.args.device in
    subst (λ (v : Setup). (commands : List (List ℕ)) × LeadsTo v past commands h) (sym c.in-Ok.ensures.setup)
    (opened_leads c.args.setup.now past file h (c.requires.kept file (g.met.D.Device.kill_leaves c.args.device)) c.in-Ok.ensures.found)

pub answer-answered-requires-clause-since : goal.answer-answered-requires-clause-since
answer-answered-requires-clause-since g c = omega (arith, c.requires.since, c.in-Ok.ensures.any_moment.later)

pub answer-answered-requires-clause-kept : goal.answer-answered-requires-clause-kept
answer-answered-requires-clause-kept g c =
    let past = g.W.World.past c.args.world.now in
    let old = g.D.Device.history c.args.device in
    let new = g.D.Device.history c.in-Ok.table.journal.lines.device in
    subst (λ (v : Setup). IsKeptSince v past new (g.W.World.since c.args.world.now)) (sym c.in-Ok.ensures.setup)
    (subst (λ (n : ℕ). IsKeptSince c.args.setup.now past new n) (sym c.requires.since)
    (opened c.args.setup.now past (g.D.Device.content c.args.device) old new (g.met.D.Device.kill_leaves c.args.device) c.requires.kept c.in-Ok.ensures.any_moment))

pub returns-in-Ok-clause-past : goal.returns-in-Ok-clause-past
returns-in-Ok-clause-past g c =
    let asked = groups_of c.args.steps.now in
    let replies = g.W.World.replies c.answer-answered.new.world in
    let ended = c.answer-answered.result in
    let past = g.W.World.past c.answer-answered.new.world in (
      replies,
      c.next.ensures.past ∙ ap (λ (file : List ℕ). past ++ tenure_of file asked replies ended ∷ []) (c.answer-answered.ensures.file ∙ c.requires.file)
          ∙ ap (λ (ts : List Tenure). ts ++ tenure_of (g.D.Device.content c.args.device) asked replies ended ∷ []) c.answer-answered.ensures.past,
      c.answer-answered.ensures.answered,
    )

pub returns-in-Err-clause-past : goal.returns-in-Err-clause-past
returns-in-Err-clause-past g c =
    let asked = groups_of c.args.steps.now in
    let replies = g.W.World.replies c.args.world.now in (
      replies,
      c.next-in-Err.ensures.past ∙ ap (λ (file : List ℕ). g.W.World.past c.args.world.now ++ tenure_of file asked replies (Err c.in-Err.stopped) ∷ []) c.requires.file,
      tt,
    )

pub returns-in-Ok-clause-kept : goal.returns-in-Ok-clause-kept
returns-in-Ok-clause-kept g c =
    over_answered c.args.setup.now c.in-Ok.table.session.setup.now (g.W.World.past c.args.world.now) (g.W.World.past c.answer-answered.new.world) (g.W.World.past c.next.new.self)
    (g.W.World.found c.args.world.now) (groups_of c.args.steps.now) c.answer-answered.result (g.W.World.replies c.answer-answered.new.world) (g.D.Device.history c.answer-answered.new.table.journal.lines.device) (g.D.Device.history c.next.result) (g.W.World.since c.answer-answered.new.world)
    c.in-Ok.ensures.setup c.answer-answered.ensures.kept c.answer-answered.ensures.past
    (c.next.ensures.past ∙ ap (λ (file : List ℕ). g.W.World.past c.answer-answered.new.world ++ tenure_of file (groups_of c.args.steps.now) (g.W.World.replies c.answer-answered.new.world) c.answer-answered.result ∷ []) c.answer-answered.ensures.file)
    (subst (λ (d : g.row.D.Denot). (left : List ℕ) → (g.D.Device.history c.next.result).leaves left → (g.D.Device.history d).left_since (g.W.World.since c.answer-answered.new.world) left)
    c.into_device.ensures c.next.ensures.left)

pub returns-in-Err-clause-kept : goal.returns-in-Err-clause-kept
returns-in-Err-clause-kept g c =
    over_idle c.args.setup.now (g.W.World.past c.args.world.now) (g.W.World.past c.next-in-Err.new.self) (g.W.World.found c.args.world.now) (groups_of c.args.steps.now) (Err c.in-Err.stopped) (g.W.World.replies c.args.world.now)
    (g.D.Device.content c.args.device) (g.D.Device.history c.args.device) (g.D.Device.history c.in-Err.device) (g.D.Device.history c.next-in-Err.result) (g.W.World.since c.args.world.now)
    (g.met.D.Device.kill_leaves c.args.device) c.requires.kept c.in-Err.ensures.refused c.requires.since c.requires.none c.next-in-Err.ensures.past c.next-in-Err.ensures.left
