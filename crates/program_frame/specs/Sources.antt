-- Where a program reads its input, and why it does not.
use Rattle.std.specs.Prelude.{◌≢◌, ℕ, if◌then◌else◌, List, codes, Option, Some, None}
use Rattle.std.specs.Str.{bytes_eq}
use Rattle.program_frame.specs.declared.streams.StreamFault.{StreamFault}
use Rattle.program_frame.specs.declared.streams.StreamFault.TheVariants.{Write}
use Rattle.program_frame.specs.declared.source.Source.{Source}
use Rattle.program_frame.specs.declared.source.Source.TheVariants.{Standard, File}
use Rattle.program_frame.specs.declared.source.InputFault.{InputFault}
use Rattle.program_frame.specs.declared.source.InputFault.TheVariants.{Stream, Path}

-- the path that is read; None: standard input
abbrev pub path_of : Source → Option (List ℕ)
path_of Standard = None
path_of (File path) = Some path.now

-- the path that a word names; `-` and no word are standard input
abbrev pub path_named : Option (List ℕ) → Option (List ℕ)
path_named None = None
path_named (Some word) = if bytes_eq word (codes "-") then None else Some word

-- standard input is not read for a fault of reading or of memory, and a file for a fault of its path
abbrev pub IsFaultOf : Source → InputFault → Type 0
IsFaultOf Standard (Stream fault) = fault ≢ Write
IsFaultOf Standard (Path fault) = ⊥
IsFaultOf (File path) (Stream fault) = ⊥
IsFaultOf (File path) (Path fault) = Unit {0}
