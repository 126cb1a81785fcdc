use Rattle.std.proofs.Common.{◌≡◌, slice_get, take}
use Rattle.std.specs.List.{filter_map}
use Rattle.kmod_index.specs.ForProofs.{pointed}
use Rattle.kmod_index.proofs.index_line.lines_at.Given as goal

abbrev pub invariant-loop-place : goal.invariant-loop-place
invariant-loop-place l = pointed l.found.items ≡ filter_map (slice_get l.lines) (take l.place-index l.places)
