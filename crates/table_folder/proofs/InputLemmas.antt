-- The lines of a text that is read piece by piece.
use Rattle.std.proofs.Common.{arith, ◌≡◌, ◌≢◌, ℕ, suc, ◌+◌, ◌-◌, ◌<◌, true, false, List, [], ◌∷◌, ◌++◌, length, take, drop, slice_index, inl, inr, refl, sym, ap, ◌∙◌, append_assoc, append-nil, drop-cons}
use Rattle.std.specs.Prelude.{Option, Some, None, Bool, ◌==◌, ◌||◌, codes, filter, if◌then◌else◌}
use Rattle.std.specs.List.{onto_first}
use Rattle.std.specs.Io.KnownBytes.{Consumes, IsAtEnd, prepend_known}
use Rattle.std.proofs.lemmas.Bool.{cond-true, lt-ltb, ne_eqb, cases_lt}
use Rattle.std.proofs.lemmas.List.{length-append, length-take, length-drop, take_all, take-append-drop}
use Rattle.std.proofs.lemmas.List.Elements.{All-head, All-tail, All-append, All-take}
use Rattle.line_journal.specs.Lines.{IsLine}
use Rattle.held_lines.specs.Reading.{is_reading}
use Rattle.table_folder.specs.InputLines.{lines_of, is_too_long, brought, brought_unended, brought_last, brought_behind, brought_lines, too_long_in, counted, IfTold, GoesOn, Counts}

no_feed : (byte : ℕ) (line : List ℕ) → IsLine (byte ∷ line) → (byte == 10) ≡ false
no_feed byte line is = ne_eqb byte 10 (All-head (λ (b : ℕ). b ≢ 10) byte line is)

behind : (byte : ℕ) (line : List ℕ) → IsLine (byte ∷ line) → IsLine line
behind byte line is = All-tail (λ (b : ℕ). b ≢ 10) byte line is

-- a line feed ends the line before it
lines_of-ended : (line text : List ℕ) → IsLine line → lines_of (line ++ 10 ∷ text) ≡ line ∷ lines_of text
lines_of-ended [] text is = refl
lines_of-ended (byte ∷ line) text is = rw (no_feed byte line is) (ap (onto_first byte) (lines_of-ended line text (behind byte line is)))

-- the end of a text ends a line that is not empty
lines_of-last : (byte : ℕ) (line : List ℕ) → IsLine (byte ∷ line) → lines_of (byte ∷ line) ≡ (byte ∷ line) ∷ []
lines_of-last byte [] is = rw (no_feed byte [] is) refl
lines_of-last byte (next ∷ line) is = rw (no_feed byte (next ∷ line) is) (ap (onto_first byte) (lines_of-last next line (behind byte (next ∷ line) is)))

-- the lines with these bytes in front of the first
abbrev joined : List ℕ → List (List ℕ) → List (List ℕ)
joined front [] = front ∷ []
joined front (line ∷ lines) = (front ++ line) ∷ lines

joined-onto : (byte : ℕ) (front : List ℕ) (lines : List (List ℕ)) → onto_first byte (joined front lines) ≡ joined (byte ∷ front) lines
joined-onto byte front [] = refl
joined-onto byte front (line ∷ lines) = refl

joined-one : (byte : ℕ) (lines : List (List ℕ)) → onto_first byte lines ≡ joined (byte ∷ []) lines
joined-one byte [] = refl
joined-one byte (line ∷ lines) = refl

lines_of-joined : (byte : ℕ) (front text : List ℕ) → IsLine (byte ∷ front) → lines_of (byte ∷ front ++ text) ≡ joined (byte ∷ front) (lines_of text)
lines_of-joined byte [] text is = rw (no_feed byte [] is) (joined-one byte (lines_of text))
lines_of-joined byte (next ∷ front) text is =
    rw (no_feed byte (next ∷ front) is)
    (ap (onto_first byte) (lines_of-joined next front text (behind byte (next ∷ front) is)) ∙ joined-onto byte (next ∷ front) (lines_of text))

-- two texts bring the same lines, and as many of them are too long
abbrev pub AreAlike : List ℕ → List ℕ → Type 0
AreAlike old new = (brought_lines old ≡ brought_lines new) × (too_long_in old ≡ too_long_in new)

too_long : (line : List ℕ) → 65535 < length line → is_too_long line ≡ true
too_long line long = lt-ltb 65535 (length line) long

brought-long : (line : List ℕ) → 65535 < length line → brought line ≡ codes "too-long"
brought-long line long = cond-true (is_too_long line) (codes "too-long") line (too_long line long)

longer : (front line : List ℕ) → 65535 < length front → 65535 < length (front ++ line)
longer front line long = omega (arith, length-append front line)

-- as many lines are too long, whichever of two that are too long is in front
joined-long : (front other : List ℕ) (lines : List (List ℕ)) → 65535 < length front → 65535 < length other
    → length (filter is_too_long (joined front lines)) ≡ length (filter is_too_long (joined other lines))
joined-long front other [] long long' = rw (too_long front long, too_long other long') refl
joined-long front other (line ∷ lines) long long' =
    rw (too_long (front ++ line) (longer front line long), too_long (other ++ line) (longer other line long')) refl

-- a last line that is too long, or asks, is as any other
unended_as_any : (line : List ℕ) → is_too_long line || is_reading line ≡ true → brought_unended line ≡ brought line
unended_as_any line as_any = cond-true (is_too_long line || is_reading line) (brought line) (codes "unended") as_any

last-long : (line : List ℕ) → 65535 < length line → brought_last line ≡ codes "too-long" ∷ []
last-long [] long = absurd (omega (arith, long))
last-long (byte ∷ line) long =
    ap (λ l. l ∷ []) (unended_as_any (byte ∷ line) (ap (λ b. b || is_reading (byte ∷ line)) (too_long (byte ∷ line) long)) ∙ brought-long (byte ∷ line) long)

last-some : (line : List ℕ) → 0 < length line → brought_last line ≡ brought_unended line ∷ []
last-some [] some = absurd (omega (arith, some))
last-some (byte ∷ line) some = refl

-- a line goes on with what is begun
behind-line : (begun line text : List ℕ) → IsLine line → brought_behind begun (line ++ text) ≡ brought_behind (begun ++ line) text
behind-line begun [] text is = ap (λ b. brought_behind b text) (sym (append-nil begun))
behind-line begun (byte ∷ line) text is =
    rw (no_feed byte line is)
    (behind-line (begun ++ byte ∷ []) line text (behind byte line is) ∙ ap (λ b. brought_behind b text) (append_assoc begun (byte ∷ []) line))

either : (feed : Bool) (one other : List ℕ) (text more more' : List (List ℕ)) → one ≡ other → more ≡ more'
    → (if feed then one ∷ text else more) ≡ (if feed then other ∷ text else more')
either true one other text more more' same alike = ap (λ l. l ∷ text) same
either false one other text more more' same alike = alike

-- what is begun of a line may be any that is too long
behind-long : (front other text : List ℕ) → 65535 < length front → 65535 < length other → brought_behind front text ≡ brought_behind other text
behind-long front other [] long long' = last-long front long ∙ sym (last-long other long')
behind-long front other (byte ∷ text) long long' =
    either (byte == 10) (brought front) (brought other) (brought_behind [] text) (brought_behind (front ++ byte ∷ []) text) (brought_behind (other ++ byte ∷ []) text)
    (brought-long front long ∙ sym (brought-long other long'))
    (behind-long (front ++ byte ∷ []) (other ++ byte ∷ []) text (longer front (byte ∷ []) long) (longer other (byte ∷ []) long'))

-- Of two lines that are too long, a text has the one or the other in front.
alike-long : (front other text : List ℕ) → IsLine front → IsLine other → 65535 < length front → 65535 < length other → AreAlike (front ++ text) (other ++ text)
alike-long [] other text is is' long long' = absurd (omega arith)
alike-long (a ∷ front) [] text is is' long long' = absurd (omega arith)
alike-long (a ∷ front) (b ∷ other) text is is' long long' =
    let count : List (List ℕ) → ℕ = λ lines. length (filter is_too_long lines) in (
      behind-line [] (a ∷ front) text is ∙ behind-long (a ∷ front) (b ∷ other) text long long' ∙ sym (behind-line [] (b ∷ other) text is'),
      ap count (lines_of-joined a front text is) ∙ joined-long (a ∷ front) (b ∷ other) (lines_of text) long long' ∙ ap count (sym (lines_of-joined b other text is')),
    )

alike-begun : (begun bytes text : List ℕ) → IsLine begun → IsLine bytes → AreAlike ((begun ++ bytes) ++ text) ((begun ++ take (65536 - length begun) bytes) ++ text)
alike-begun begun bytes text is more = elim (cases_lt (65536 - length begun) (length bytes)) [
  | inl over ↦
      alike-long (begun ++ bytes) (begun ++ take (65536 - length begun) bytes) text
      (All-append (λ (b : ℕ). b ≢ 10) begun bytes is more)
      (All-append (λ (b : ℕ). b ≢ 10) begun (take (65536 - length begun) bytes) is (All-take (λ (b : ℕ). b ≢ 10) (65536 - length begun) bytes more))
      (omega (arith, length-append begun bytes))
      (omega (arith, length-append begun (take (65536 - length begun) bytes), length-take (65536 - length begun) bytes))
  | inr within ↦ rw (take_all (65536 - length begun) bytes within) (refl, refl)
]

-- What is begun of a line stands for it and for these bytes of it: it is too long already, or has all of them.
pub alike-go_on : (begun bytes now text : List ℕ) → IsLine begun → IsLine bytes → now ≡ begun ++ take (65536 - length begun) bytes → AreAlike (begun ++ (bytes ++ text)) (now ++ text)
alike-go_on begun bytes now text is more same =
    rw (same, ← append_assoc begun bytes text) (alike-begun begun bytes text is more)

-- What a line that ends brings, as it is shown, and what the text behind it does.
pub record Ends (shown line old new : List ℕ) : Type 0 where
  pub brings : brought_lines old ≡ shown ∷ brought_lines new
  pub counts : too_long_in old ≡ (if is_too_long line then 1 else 0) + too_long_in new

count_first : (line : List ℕ) (lines : List (List ℕ)) → length (filter is_too_long (line ∷ lines)) ≡ (if is_too_long line then 1 else 0) + length (filter is_too_long lines)
count_first line lines = grind arith

-- A line feed ends what is begun.
pub ends-at_feed : (line text : List ℕ) → IsLine line → Ends (brought line) line (line ++ 10 ∷ text) text
ends-at_feed line text is = record {
  brings = behind-line [] line (10 ∷ text) is;
  counts = ap (λ (lines : List (List ℕ)). length (filter is_too_long lines)) (lines_of-ended line text is) ∙ count_first line (lines_of text);
}

-- The end of the text ends what is begun.
pub ends-at_end : (line : List ℕ) → IsLine line → 0 < length line → Ends (brought_unended line) line (line ++ []) []
ends-at_end [] is some = absurd (omega arith)
ends-at_end (byte ∷ line) is some =
    let same : lines_of ((byte ∷ line) ++ []) ≡ (byte ∷ line) ∷ [] = ap lines_of (append-nil (byte ∷ line)) ∙ lines_of-last byte line is in
    record {
      brings = behind-line [] (byte ∷ line) [] is ∙ last-some (byte ∷ line) some;
      counts = ap (λ (lines : List (List ℕ)). length (filter is_too_long lines)) same ∙ count_first (byte ∷ line) [];
    }

-- A line feed in a piece ends the line that is begun.
pub ends-in_piece : (begun piece back now text : List ℕ) (at : ℕ) → IsLine begun → at < length piece → IsLine (take at piece) → slice_index piece at ≡ 10 → back ≡ drop at piece
    → now ≡ begun ++ take (65536 - length begun) (take at piece) → IsLine now → Ends (brought now) now (begun ++ (piece ++ text)) (take (length back - 1) (drop 1 back) ++ text)
ends-in_piece begun piece back now text at is below front feed is_back same is_now =
    let later : List ℕ = take (length back - 1) (drop 1 back) in
    let rest : later ≡ drop 1 back = take_all (length back - 1) (drop 1 back) (omega (arith, length-drop 1 back)) in
    let first : back ≡ 10 ∷ drop (suc at) piece = is_back ∙ drop-cons piece at 0 below ∙ ap (λ b. b ∷ drop (suc at) piece) feed in
    let cut : back ≡ 10 ∷ later = first ∙ ap (λ l. 10 ∷ l) (sym (ap (drop 1) first) ∙ sym rest) in
    let whole : piece ≡ take at piece ++ 10 ∷ later = sym (take-append-drop at piece) ∙ ap (λ l. take at piece ++ l) (sym is_back ∙ cut) in
    let all : begun ++ (piece ++ text) ≡ begun ++ (take at piece ++ (10 ∷ (later ++ text))) = ap (λ p. begun ++ (p ++ text)) whole ∙ simp append_assoc in
    let alike = alike-go_on begun (take at piece) now (10 ∷ (later ++ text)) is front same in
    let ends = ends-at_feed now (later ++ text) is_now in
    record {
      brings = ap brought_lines all ∙ alike.0 ∙ ends.brings;
      counts = ap too_long_in all ∙ alike.1 ∙ ends.counts;
    }

-- The line that ends is brought, and counted if it is too long.
pub brings-ends : (before lines after : List (List ℕ)) (shown line old middle new : List ℕ) → GoesOn before lines old middle → Ends shown line middle new → after ≡ lines ++ shown ∷ []
    → GoesOn before after old new
brings-ends before lines after shown line old middle new so ends is =
    so ∙ ap (λ l. lines ++ l) ends.brings ∙ sym (ap (λ l. l ++ brought_lines new) is ∙ append_assoc lines (shown ∷ []) (brought_lines new))

pub counts-ends : (before count after : ℕ) (shown line old middle new : List ℕ) → Counts before count old middle → Ends shown line middle new → counted after ≡ counted (count + (if is_too_long line then 1 else 0))
    → Counts before after old new
counts-ends before count after shown line old middle new so ends is = so ∙ omega (arith, ends.counts)

-- Texts that are alike bring the same.
pub brings-alike : (before lines : List (List ℕ)) (old middle new : List ℕ) → GoesOn before lines old middle → AreAlike middle new → GoesOn before lines old new
brings-alike before lines old middle new so alike = so ∙ ap (λ l. lines ++ l) alike.0

pub counts-alike : (before count after : ℕ) (old middle new : List ℕ) → Counts before count old middle → AreAlike middle new → after ≡ count → Counts before after old new
counts-alike before count after old middle new so alike same = so ∙ rw (same, alike.1) refl

-- The input is at its end, and what was begun has ended.
pub told-end : (old new : Option (List ℕ)) (line : List ℕ) (P : List ℕ → List ℕ → Type 0) → Consumes old new [] → IsAtEnd new → P (line ++ []) [] → IfTold (prepend_known line old) (prepend_known [] new) P
told-end None new line P none end holds = tt
told-end (Some old) None line P none end holds = absurd none
told-end (Some old) (Some new) line P none end holds = rw (none, end) holds
