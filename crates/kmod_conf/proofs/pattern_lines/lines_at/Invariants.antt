use Rattle.std.proofs.Common.{◌≡◌, map, slice_get, take}
use Rattle.std.specs.List.{filter_map}
use Rattle.kmod_conf.proofs.pattern_lines.lines_at.Given as goal

abbrev pub invariant-loop-place : goal.invariant-loop-place
invariant-loop-place g l = map (λ line. line.now) l.found.items ≡ filter_map (slice_get l.lines) (take l.place-index l.places)
