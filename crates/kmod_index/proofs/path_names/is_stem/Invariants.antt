use Rattle.std.proofs.Common.{◌≡◌, length, map}
use Rattle.std.specs.Str.{bytes_eq}
use Rattle.text_parts.specs.Text.{normal_byte}
use Rattle.kmod_names.specs.Names.{stem}
use Rattle.kmod_index.proofs.path_names.is_stem.Given as goal

-- what was read is the same so far
abbrev pub invariant-loop-byte : goal.invariant-loop-byte
invariant-loop-byte l = bytes_eq l.name (map normal_byte (stem l.base)) ≡ bytes_eq l.rest (map normal_byte (stem l.others))

abbrev pub decreases-loop-byte : goal.decreases-loop-byte
decreases-loop-byte l = length l.rest
