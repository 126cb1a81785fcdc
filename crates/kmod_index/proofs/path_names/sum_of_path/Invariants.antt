use Rattle.std.proofs.Common.{◌≡◌, length, map}
use Rattle.text_parts.specs.Text.{normal_byte}
use Rattle.kmod_names.specs.Names.{name_of_path, stem}
use Rattle.kmod_index.specs.Sums.{sum_from, sum_of}
use Rattle.kmod_index.proofs.path_names.sum_of_path.Given as goal

-- what is left of the name is still to be summed
abbrev pub invariant-loop-byte : goal.invariant-loop-byte
invariant-loop-byte l = sum_from l.sum (map normal_byte (stem l.rest)) ≡ sum_of (name_of_path l.path)

abbrev pub decreases-loop-byte : goal.decreases-loop-byte
decreases-loop-byte l = length l.rest
