use Rattle.std.proofs.Common.{◌≡◌, map, take}
use Rattle.std.specs.List.{filter_map}
use Rattle.kmod_conf.specs.ForProofs.{filled_at}
use Rattle.kmod_conf.proofs.option_lines.filled_lines.Given as goal

abbrev pub invariant-loop-place : goal.invariant-loop-place
invariant-loop-place l = map (λ line. line.now) l.found.items ≡ filter_map (filled_at l.lines) (take l.place-index l.places)
