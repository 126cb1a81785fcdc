-- Serves proofs alone.
use Rattle.std.specs.Prelude.{ℕ, if◌then◌else◌, List, slice_get, Option, Some, None}
use Rattle.text_parts.specs.Text.{is_filled}
use Rattle.kmod_conf.specs.declared.line.TextLine.{TextLine}

-- a line, if it has text
abbrev pub filled : Option TextLine → Option TextLine
filled None = None
filled (Some line) = if is_filled line.text then Some line else None

abbrev pub filled_at : List TextLine → ℕ → Option TextLine
filled_at lines place = filled (slice_get lines place)
