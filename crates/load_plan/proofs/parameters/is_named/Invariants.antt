use Rattle.std.proofs.Common.{◌≡◌, length}
use Rattle.std.specs.Str.{bytes_eq}
use Rattle.text_parts.specs.Text.{normal_form}
use Rattle.load_plan.proofs.parameters.is_named.Given as goal

abbrev pub invariant-bytes : goal.invariant-bytes
invariant-bytes l = bytes_eq (normal_form l.left) l.rest ≡ bytes_eq (normal_form l.word) l.name

abbrev pub decreases-bytes : goal.decreases-bytes
decreases-bytes l = length l.left
