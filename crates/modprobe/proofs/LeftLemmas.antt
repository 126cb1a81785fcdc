-- What is left of a source, if it is told.
use Rattle.std.proofs.Common.{◌≡◌, ℕ, ◌+◌, ◌<◌, ◌≤◌, Bool, true, false, List, [], ◌∷◌, ◌++◌, length, take, drop, get_or, suc, add-one, refl, sym, ap, subst, ◌∙◌, arith, take-append-drop}
use Rattle.std.specs.Prelude.{◌==◌, Option, Some, None}
use Rattle.std.specs.Option.{option_map}
use Rattle.std.specs.Io.KnownBytes.{Keeps, Consumes}
use Rattle.std.proofs.lemmas.List.{append_assoc, drop-drop, length-append, length-take, append-nil}
use Rattle.std.proofs.Common.{drop-cons}
use Rattle.std.specs.Str.Lines.{lines, strip_carriage_return}
use Rattle.text_parts.specs.Text.{ended, cut_lines}
use Rattle.modprobe.specs.Lines.{EndsLine, GivesCut, ending_bytes}
use Rattle.modprobe.specs.declared.lines.Ending.{Ending}
use Rattle.modprobe.specs.declared.lines.Ending.TheVariants.{Absent}
use Rattle.text_parts.proofs.LineLemmas.{lines-ended, lines-last, cut_lines-ended, cut_lines-last}
use Rattle.std.proofs.lemmas.List.Elements.{All-append}
use Rattle.modprobe.specs.declared.lines.Lines.{Lines}
use Rattle.modprobe.specs.declared.lines.LineFault.TheVariants.{LongLine}
use Rattle.modprobe.specs.Lines.{bytes_left, StoppedReading, left_of, HasNoFeed, IfTold, BeginsWithLongLine, GivesLine}
use Rattle.modprobe.proofs.LineLemmas.{begins_with_long_line}

-- The text begins with a line that is too long, if the line and the bytes that go to it are.
pub long_taken : (line piece : List ℕ) (count : ℕ) (at_end : Bool) (told : Option (List ℕ)) → count ≤ length piece → at_end ≡ false → HasNoFeed line → HasNoFeed (take count piece) → 65536 < length line + count
    → IfTold (option_map (λ rest. line ++ rest) (left_of at_end piece told)) BeginsWithLongLine
long_taken line piece count at_end None within going none none' long = tt
long_taken line piece count at_end (Some rest) within going none none' long =
    let first = take count piece in
    let P : List ℕ → Type 0 = BeginsWithLongLine in
    let regrouped : (line ++ first) ++ (drop count piece ++ rest) ≡ line ++ (piece ++ rest) =
    append_assoc line first (drop count piece ++ rest) ∙ ap (λ l. line ++ l) (sym (append_assoc first (drop count piece) rest) ∙ ap (λ p. p ++ rest) (take-append-drop count piece)) in
    let no_feed : HasNoFeed (line ++ first) = All-append (λ x. (x == 10) ≡ false) line first none none' in
    let longer : 65536 < length (line ++ first) = omega (arith, length-append line first, length-take count piece) in
    rw going (subst P regrouped (begins_with_long_line (drop count piece ++ rest) (line ++ first) no_feed longer))

-- A line feed in the piece ends the line in hand.
pub ends_line : (line piece : List ℕ) (count : ℕ) (at_end : Bool) (told : Option (List ℕ)) → at_end ≡ false → count < length piece → get_or piece count 0 ≡ 10
    → EndsLine (option_map (λ rest. line ++ rest) (left_of at_end piece told)) (left_of at_end (drop 1 (drop count piece)) told) (line ++ take count piece)
ends_line line piece count at_end None going below feed = tt
ends_line line piece count at_end (Some rest) going below feed =
    let first = take count piece in
    let later = drop 1 (drop count piece) in
    let front : drop count piece ≡ 10 ∷ later = drop-cons piece count 0 below ∙ ap (λ b. b ∷ drop (suc count) piece) feed ∙ ap (λ l. 10 ∷ l) (ap (λ n. drop n piece) (sym (add-one count)) ∙ sym (drop-drop 1 count piece)) in
    let all : piece ≡ first ++ 10 ∷ later = sym (take-append-drop count piece) ∙ ap (λ l. first ++ l) front in
    rw going (ap (λ p. line ++ (p ++ rest)) all ∙ simp append_assoc)

-- A line is too long.
pub stopped_at_long_line : {R : Type 0} (remaining : R → Option (List ℕ)) (old new : Lines R) → old.at_end ≡ false → IfTold (bytes_left remaining old) BeginsWithLongLine → StoppedReading LongLine remaining old new
stopped_at_long_line remaining old new going long = record {
  going = going;
  in_hand = λ other. absurd (other refl);
  read = λ e. absurd (cc);
  turns = λ e. absurd (cc);
  spent = λ e. absurd (cc);
  long = λ _. long;
}

-- The first line of a text.
pub gives_line : (old middle new : Option (List ℕ)) (line : List ℕ) → Keeps old middle → EndsLine middle new line → HasNoFeed line → GivesLine old new (strip_carriage_return line)
gives_line None middle new line kept ends none = tt
gives_line (Some old) None new line kept ends none = absurd kept
gives_line (Some old) (Some middle) None line kept ends none = absurd ends
gives_line (Some old) (Some middle) (Some new) line kept ends none =
    ap lines (sym kept ∙ ends ∙ append_assoc line (10 ∷ []) new) ∙ lines-ended line new none

-- The first line of a text, which is too long.
pub long_line : (old middle new : Option (List ℕ)) (line : List ℕ) → Keeps old middle → EndsLine middle new line → HasNoFeed line → 65535 < length (strip_carriage_return line) → IfTold old BeginsWithLongLine
long_line None middle new line kept ends none long = tt
long_line (Some old) None new line kept ends none long = absurd kept
long_line (Some old) (Some middle) None line kept ends none long = absurd ends
long_line (Some old) (Some middle) (Some new) line kept ends none long =
    (strip_carriage_return line, lines new, gives_line (Some old) (Some middle) (Some new) line kept ends none, long)

-- The last line of a text, which has no end.
pub last_line : (old told : Option (List ℕ)) (line unused : List ℕ) (at_end : Bool) → at_end ≡ true → Keeps old (option_map (λ rest. line ++ rest) (left_of at_end unused told)) → HasNoFeed line → 0 < length line
    → GivesLine old (left_of at_end unused told) line
last_line None told line unused at_end end kept none some = tt
last_line (Some old) None line unused at_end end kept none some = absurd kept
last_line (Some old) (Some rest) line unused at_end end kept none some =
    let all : line ++ [] ≡ old = (rw end at kept) in
    rw end (ap lines (sym all ∙ append-nil line) ∙ lines-last line none some)

pub last_long_line : (old told : Option (List ℕ)) (line unused : List ℕ) (at_end : Bool) → at_end ≡ true → Keeps old (option_map (λ rest. line ++ rest) (left_of at_end unused told)) → HasNoFeed line → 65535 < length line
    → IfTold old BeginsWithLongLine
last_long_line None told line unused at_end end kept none long = tt
last_long_line (Some old) None line unused at_end end kept none long = absurd kept
last_long_line (Some old) (Some rest) line unused at_end end kept none long =
    let all : line ++ [] ≡ old = (rw end at kept) in
    (line, [], ap lines (sym all ∙ append-nil line) ∙ lines-last line none (omega arith), long)

-- The last line is all that was left.
pub raw_last : (old told : Option (List ℕ)) (line unused : List ℕ) (at_end : Bool) (ending : Ending) → at_end ≡ true → ending ≡ Absent → Keeps old (option_map (λ rest. line ++ rest) (left_of at_end unused told))
    → Consumes old (left_of at_end unused told) (line ++ ending_bytes ending)
raw_last None told line unused at_end ending end absent kept = tt
raw_last (Some old) None line unused at_end ending end absent kept = absurd kept
raw_last (Some old) (Some rest) line unused at_end ending end absent kept =
    let all : line ++ [] ≡ old = (rw end at kept) in
    rw (end, absent) (sym all ∙ sym (append-nil (line ++ [])))

-- The first line of a text with its end.
pub gives_cut : (old middle new : Option (List ℕ)) (line : List ℕ) → Keeps old middle → EndsLine middle new line → HasNoFeed line → GivesCut old new (ended line)
gives_cut None middle new line kept ends none = tt
gives_cut (Some old) None new line kept ends none = absurd kept
gives_cut (Some old) (Some middle) None line kept ends none = absurd ends
gives_cut (Some old) (Some middle) (Some new) line kept ends none =
    ap cut_lines (sym kept ∙ ends ∙ append_assoc line (10 ∷ []) new) ∙ cut_lines-ended line new none

pub last_cut : (old told : Option (List ℕ)) (line unused : List ℕ) (at_end : Bool) (ending : Ending) → at_end ≡ true → ending ≡ Absent → Keeps old (option_map (λ rest. line ++ rest) (left_of at_end unused told)) → HasNoFeed line → 0 < length line
    → GivesCut old (left_of at_end unused told) (record { text = line; ending = ending_bytes ending })
last_cut None told line unused at_end ending end absent kept none some = tt
last_cut (Some old) None line unused at_end ending end absent kept none some = absurd kept
last_cut (Some old) (Some rest) line unused at_end ending end absent kept none some =
    let all : line ++ [] ≡ old = (rw end at kept) in
    rw (end, absent) (ap cut_lines (sym all ∙ append-nil line) ∙ cut_lines-last line none some)
