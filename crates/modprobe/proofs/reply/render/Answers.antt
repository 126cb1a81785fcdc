use Rattle.modprobe.proofs.reply.render.Goals as goal

pub refuse-requires-clause-room : goal.refuse-requires-clause-room
refuse-requires-clause-room c = rw c.name.ensures (c.requires.names c.in-Refused.refusal.slot)
