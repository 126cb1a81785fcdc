-- What a reading of a pattern says of the function that gives it.
use Rattle.std.proofs.Common.{◌≡◌, ℕ, List, Result, ap}
use Rattle.std.specs.Result.{result_ok}
use Rattle.alias_match.specs.declared.read.PatternError.{PatternError}
use Rattle.alias_match.specs.Pattern.{Piece}
use Rattle.alias_match.specs.Reading.{Reads, pattern_of}
use Rattle.alias_match.proofs.Once.{reads_once}
use Rattle.alias_match.proofs.Total.{pattern_read}

pub read_pattern : (text : List ℕ) (reading : Result (List Piece) PatternError) → Reads text reading → result_ok reading ≡ result_ok (pattern_of text)
read_pattern text reading h = ap result_ok (reads_once h (pattern_read text))
