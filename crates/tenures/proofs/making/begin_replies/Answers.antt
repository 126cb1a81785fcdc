use Rattle.std.proofs.Common.{◌≡◌, true, rules, refl, sym, ◌∙◌, ⊎_elim, inl, inr, append-nil}
use Rattle.tenures.proofs.ReplyLemmas.{begun_more, begun_first}
use Rattle.tenures.proofs.making.begin_replies.Goals as goal

pub loop-reply-init : goal.loop-reply-init
loop-reply-init g c = record { past = refl; file = refl; alive = refl; grows = sym (append-nil (g.W.World.replies c.args.world.now)); moment = inl (refl, refl) }

pub loop-reply-preserved : goal.loop-reply-preserved
loop-reply-preserved g c =
    let alive : c.is_alive.result ≡ true = search rules in
    record {
      past = c.begin_reply.ensures.past ∙ (c.is_alive.ensures.past ∙ c.loop-reply.invariant.past);
      file = c.begin_reply.ensures.found ∙ (c.is_alive.ensures.found ∙ c.loop-reply.invariant.file);
      alive = c.begin_reply.ensures.cut_offs ∙ (c.is_alive.ensures.alive alive ∙ c.loop-reply.invariant.alive);
      grows = begun_more c.args.replies.now c.loop-reply.reply-index c.reply-item.result (g.W.World.replies c.args.world.now) (g.W.World.replies c.is_alive.new.self)
          (g.W.World.replies c.begin_reply.new.self) c.loop-reply-test.true c.reply-item.is (c.is_alive.ensures.replies ∙ c.loop-reply.invariant.grows) c.begin_reply.ensures.replies;
      moment = inr c.begin_reply.ensures.since;
    }

pub returns-then-not-is_alive-clause-past : goal.returns-then-not-is_alive-clause-past
returns-then-not-is_alive-clause-past g c = c.is_alive.ensures.past ∙ c.loop-reply.invariant.past

pub returns-then-not-is_alive-clause-begun : goal.returns-then-not-is_alive-clause-begun
returns-then-not-is_alive-clause-begun g c =
    begun_first c.args.replies.now c.loop-reply.reply-index (g.D.Device.history c.args.device.now).now (g.W.World.replies c.args.world.now) (g.W.World.replies c.is_alive.new.self)
    (g.W.World.since c.args.world.now) (g.W.World.since c.is_alive.new.self) (c.is_alive.ensures.replies ∙ c.loop-reply.invariant.grows)
    (⊎_elim (λ none. inl (none.0, c.is_alive.ensures.since ∙ none.1)) (λ at. inr (c.is_alive.ensures.since ∙ at)) c.loop-reply.invariant.moment)

pub returns-clause-begun : goal.returns-clause-begun
returns-clause-begun g c =
    begun_first c.args.replies.now c.loop-reply.reply-index (g.D.Device.history c.args.device.now).now (g.W.World.replies c.args.world.now) (g.W.World.replies c.loop-reply.world)
    (g.W.World.since c.args.world.now) (g.W.World.since c.loop-reply.world) c.loop-reply.invariant.grows c.loop-reply.invariant.moment
