-- What `check` writes.
use Rattle.std.specs.Prelude.{◌≡◌, ℕ, List, ◌++◌, codes, decimal, length, Option, Some, None}
use Rattle.std.specs.Io.KnownBytes.{Appends}
use Rattle.table_words.specs.declared.ending.Ending.{Ending}
use Rattle.table_words.specs.declared.ending.Ending.TheVariants.{Done}
use Rattle.held_table.specs.Held.{Held}
use Rattle.gz_table_drive.specs.declared.check.Counts.{Counts}

-- a word and a number
abbrev pub count_line : List ℕ → ℕ → List ℕ
count_line word count = word ++ (codes " " ++ (decimal count ++ codes "\n"))

-- how many modules and holders a table has that is there
abbrev pub AreCounted : Option Held → ℕ × ℕ → Type 0
AreCounted None counts = ⊥
AreCounted (Some held) counts = (counts.0 ≡ length held.table.book.order) × (counts.1 ≡ length held.names)

-- six words, each with its number
abbrev pub counts_text : Counts → List ℕ
counts_text counts =
    count_line (codes "modules") counts.modules ++ (count_line (codes "loaded") counts.loaded ++ (count_line (codes "holders") counts.holders
    ++ (count_line (codes "lines") counts.lines ++ (count_line (codes "torn") counts.torn ++ count_line (codes "cut") counts.cut))))

-- some counts are written, and the run is done
abbrev pub AreCountsWritten : Option (List ℕ) → Option (List ℕ) → Ending → Type 0
AreCountsWritten old new ending = (counts : Counts) × Appends old new (counts_text counts) × (ending ≡ Done)
