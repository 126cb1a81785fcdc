use Rattle.modprobe_files.proofs.RootLemmas.{parts_from-whole}
use Rattle.modprobe_files.proofs.walk.parts_of.Goals as goal

pub loop-byte-init : goal.loop-byte-init
loop-byte-init c = rw (c.new-parts.ensures.items, c.new-part.ensures.items) (parts_from-whole c.args.path.now)
