-- A session that came to its end, or stopped, from the setup of the input and the run.
use Rattle.std.specs.Prelude.{min}
use Rattle.std.proofs.Common.{◌≡◌, ℕ, ◌-◌, ◌^◌, Bool, true, false, List, [], ◌∷◌, refl, sym, subst, Option, Some, None}
use Rattle.std.specs.Str.Lines.{lines}
use Rattle.std.specs.Io.KnownBytes.{Appends, IsAtEnd}
use Rattle.text_parts.specs.Text.{cut_lines}
use Rattle.dep_index.specs.Table.{Table}
use Rattle.text_parts.proofs.LineLemmas.{lines_have_texts}
use Rattle.modprobe.specs.declared.fault.RunFault.{RunFault}
use Rattle.modprobe.specs.Lines.{IfTold, AtHand, left_of}
use Rattle.modprobe.specs.Setup.{Setup}
use Rattle.modprobe.specs.SetupInput.{GivesSetup}
use Rattle.modprobe.specs.Session.{answer, error_count}
use Rattle.modprobe.specs.Run.{AllShort, StandsAfter}
use Rattle.modprobe.specs.Serve.{opening_of, AnswersInput, CountsErrors, StopsInSession}

pub stops_in_session : (workers : ℕ) (fault : RunFault) (old middle : Option (List ℕ)) (s : Setup) (start : Table) (hand : AtHand) (held written : Option (List ℕ)) (table : Table)
    → GivesSetup old middle s → start ≡ opening_of s workers → StandsAfter fault s start middle hand held written table
    → IfTold old (λ input. StopsInSession workers fault input hand.ungiven held written)
stops_in_session workers fault None middle s start hand held written table gives opens stands = tt
stops_in_session workers fault (Some old) None s start hand held written table gives opens stands = absurd gives
stops_in_session workers fault (Some old) (Some middle) s start hand held written table gives opens stands =
    (s, middle, gives, (hand, table, refl, rw opens at stands))

pub answers_input : (workers : ℕ) (old middle : Option (List ℕ)) (s : Setup) (start : Table) (held written : Option (List ℕ))
    → GivesSetup old middle s → start ≡ opening_of s workers → IfTold middle (λ text. Appends held written (answer s start (lines text)).0) → IfTold middle (λ text. AllShort (lines text))
    → IfTold old (λ input. AnswersInput workers input held written)
answers_input workers None middle s start held written gives opens wrote short = tt
answers_input workers (Some old) None s start held written gives opens wrote short = absurd gives
answers_input workers (Some old) (Some middle) s start held written gives opens wrote short =
    let same = sym (lines_have_texts middle) in
    let P : List (List ℕ) → Type 0 = λ ls. Appends held written (answer s (opening_of s workers) ls).0 in
    (s, cut_lines middle, gives, subst AllShort same short, subst P same (rw opens at wrote))

pub counts_errors : (workers : ℕ) (old middle : Option (List ℕ)) (s : Setup) (start : Table) (errors : ℕ)
    → GivesSetup old middle s → start ≡ opening_of s workers → IfTold middle (λ text. errors ≡ min (error_count s start (lines text)) (2 ^ 64 - 1))
    → IfTold old (λ input. CountsErrors workers input errors)
counts_errors workers None middle s start errors gives opens counted = tt
counts_errors workers (Some old) None s start errors gives opens counted = absurd gives
counts_errors workers (Some old) (Some middle) s start errors gives opens counted =
    let P : List (List ℕ) → Type 0 = λ ls. errors ≡ min (error_count s (opening_of s workers) ls) (2 ^ 64 - 1) in
    (s, cut_lines middle, gives, subst P (sym (lines_have_texts middle)) (rw opens at counted))

-- If nothing is left for further lines, the source is at its end.
pub source_end : (at_end : Bool) (unused : List ℕ) (told : Option (List ℕ)) → (at_end ≡ true → IsAtEnd told) → IsAtEnd (left_of at_end unused told) → IsAtEnd told
source_end true unused told ended is = ended refl
source_end false unused None ended is = tt
source_end false [] (Some rest) ended is = is
source_end false (byte ∷ unused) (Some rest) ended is = absurd (cc)
