-- Lines with their ends, one after another.
use Rattle.std.proofs.Common.{◌≡◌, ℕ, Bool, true, false, ◌<◌, List, [], ◌∷◌, ◌++◌, length, refl, sym, ap, ◌∙◌, Option, Some, None}
use Rattle.std.specs.Io.KnownBytes.{Consumes, prepend_known}
use Rattle.std.specs.Str.Lines.{lines}
use Rattle.std.proofs.lemmas.List.{append_assoc, append-nil}
use Rattle.std.proofs.lemmas.List.Elements.{All-append, All-cons, All-nil}
use Rattle.text_parts.specs.Text.{Line, cut_lines}
use Rattle.text_parts.proofs.LineLemmas.{lines_have_texts}
use Rattle.modprobe.specs.declared.lines.LineFault.{LineFault}
use Rattle.modprobe.specs.declared.lines.LineFault.TheVariants.{LongLine}
use Rattle.modprobe.specs.Lines.{GivesCut, GivesCuts, AllEnded, texts}

abbrev pub is_long_line : LineFault → Bool
is_long_line LongLine = true
is_long_line _ = false

pub cuts_none : (a : Option (List ℕ)) → GivesCuts a a []
cuts_none None = tt
cuts_none (Some x) = refl

-- One more line of the old text.
pub cuts_more : (a b c : Option (List ℕ)) (done : List Line) (line : Line) → GivesCuts a b done → GivesCut b c line → GivesCuts a c (done ++ line ∷ [])
cuts_more None b c done line ab bc = tt
cuts_more (Some x) None c done line ab bc = absurd ab
cuts_more (Some x) (Some y) None done line ab bc = absurd bc
cuts_more (Some x) (Some y) (Some z) done line ab bc = ab ∙ ap (λ l. done ++ l) bc ∙ sym (append_assoc done (line ∷ []) (cut_lines z))

-- What is left is the line in hand and what the source has not given.
pub cuts_in_hand : (text rest ungiven : Option (List ℕ)) (done : List Line) (line : List ℕ) → GivesCuts text rest done → Consumes rest ungiven line → GivesCuts text (prepend_known line ungiven) done
cuts_in_hand None rest ungiven done line gives consumes = tt
cuts_in_hand (Some x) None ungiven done line gives consumes = absurd gives
cuts_in_hand (Some x) (Some y) None done line gives consumes = absurd consumes
cuts_in_hand (Some x) (Some y) (Some z) done line gives consumes = gives ∙ ap (λ t. done ++ cut_lines t) consumes

-- The lines of a text, of which none is left.
pub cuts_all : (text : List ℕ) (rest : List ℕ) (done : List Line) → GivesCuts (Some text) (Some rest) done → rest ≡ [] → texts done ≡ lines text
cuts_all text rest done gives end =
    let all : done ≡ cut_lines text = sym (gives ∙ ap (λ t. done ++ cut_lines t) end ∙ append-nil done) in
    ap texts all ∙ lines_have_texts text

pub ended_more : (done : List Line) (line : Line) → AllEnded done → 0 < length line.ending → AllEnded (done ++ line ∷ [])
ended_more done line before ended =
    let P : Line → Type 0 = λ l. 0 < length l.ending in
    All-append P done (line ∷ []) before (All-cons P line [] ended (All-nil P))
