-- The sum of a text, Adler-32 (RFC 1950).
use Rattle.std.specs.Prelude.{ℕ, ◌+◌, ◌*◌, ◌%◌, List, fold}

-- the sum of the bytes, and the sum of what the first one was after each byte
pub record Sums : Type 0 where
  pub low : ℕ
  pub high : ℕ

abbrev pub no_bytes : Sums
no_bytes = record { low = 1; high = 0 }

-- both sums are kept below 65,521, a prime
abbrev pub after_byte : Sums → ℕ → Sums
after_byte sums byte =
    record {
      low = (sums.low + byte) % 65521;
      high = (sums.high + (sums.low + byte) % 65521) % 65521;
    }

abbrev pub sums_of : List ℕ → Sums
sums_of text = fold after_byte no_bytes text

abbrev pub joined : Sums → ℕ
joined sums = sums.high * 65536 + sums.low

abbrev pub adler32 : List ℕ → ℕ
adler32 text = joined (sums_of text)
