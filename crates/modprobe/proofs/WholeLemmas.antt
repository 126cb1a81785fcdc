-- The first line of a text, and what the sections make of it.
use Rattle.std.proofs.Common.{arith, ◌≡◌, ℕ, ◌<◌, List, [], ◌∷◌, ◌++◌, length, Option, Some, None, Ok, Err, sym, ap, ◌∙◌}
use Rattle.std.proofs.lemmas.Bool.{cond-true, lt-ltb}
use Rattle.std.proofs.lemmas.List.{length-append}
use Rattle.text_parts.specs.Text.{Line, cut_lines, ended}
use Rattle.text_parts.proofs.LineLemmas.{cut_lines-ended, cut_lines-last}
use Rattle.modprobe.specs.Lines.{HasNoFeed}
use Rattle.modprobe.specs.declared.section.Section.{Section}
use Rattle.modprobe.specs.declared.whole.FirstLine.{FirstLine}
use Rattle.modprobe.specs.Sections.{Parts, Stopped, no_parts, sections, step_of, begin, go, stop, too_long}
use Rattle.modprobe.specs.Whole.{IsCutAtFeed, IsFirstLine, line_in}
use Rattle.modprobe.proofs.SetupLemmas.{begins, goes_on, sections-end, stops}

longer : (part rest : List ℕ) → length rest < length (part ++ 10 ∷ rest)
longer part rest = omega (arith, length-append part (10 ∷ rest))

-- a line that ends with a line feed
pub first_ended : (text part rest : List ℕ) (first : FirstLine) → IsCutAtFeed text part rest → line_in first ≡ ended part → first.rest.now ≡ rest → IsFirstLine text first
first_ended text part rest first cut is behind = record {
  lines =
      ap cut_lines cut.whole ∙ cut_lines-ended part rest cut.none
      ∙ ap (λ (l : Line). l ∷ cut_lines rest) (sym is)
      ∙ ap (λ t. line_in first ∷ cut_lines t) (sym behind);
  shorter = rw (behind, cut.whole) (longer part rest);
}

-- a last line
pub last_line : (text : List ℕ) → HasNoFeed text → 0 < length text → cut_lines text ≡ record { text = text; ending = [] } ∷ cut_lines []
last_line text none some = cut_lines-last text none some

-- a line that is too long stops the sections
pub long_step : (current : Option Section) (parts : Parts) (line : Line) → 65535 < length line.text → step_of current parts line ≡ stop too_long
long_step current parts line long = cond-true _ _ _ (lt-ltb 65535 (length line.text) long)

-- the sections of a text are those of what is left of it, in a section and with the texts so far
abbrev pub GoOnIn : List ℕ → List ℕ → Option Section → Parts → Type 0
GoOnIn text rest current parts = sections None no_parts (cut_lines text) ≡ sections current parts (cut_lines rest)

-- the first line of what is left stops the sections, begins the session, or goes on
pub first_stops : (text rest : List ℕ) (current : Option Section) (parts : Parts) (first : FirstLine) (why : Stopped)
    → GoOnIn text rest current parts → IsFirstLine rest first → step_of current parts (line_in first) ≡ stop why → sections None no_parts (cut_lines text) ≡ Err why
first_stops text rest current parts first why before is step = stops (Some text) (Some rest) (Some first.rest.now) current parts (line_in first) why before is.lines step

pub first_begins : (text rest : List ℕ) (current : Option Section) (parts : Parts) (first : FirstLine)
    → GoOnIn text rest current parts → IsFirstLine rest first → step_of current parts (line_in first) ≡ begin → sections None no_parts (cut_lines text) ≡ Ok (parts, cut_lines first.rest.now)
first_begins text rest current parts first before is step = begins (Some text) (Some rest) (Some first.rest.now) current parts (line_in first) before is.lines step

pub first_goes_on : (text rest : List ℕ) (current current' : Option Section) (parts parts' : Parts) (first : FirstLine)
    → GoOnIn text rest current parts → IsFirstLine rest first → step_of current parts (line_in first) ≡ go current' parts' → GoOnIn text first.rest.now current' parts'
first_goes_on text rest current current' parts parts' first before is step = goes_on (Some text) (Some rest) (Some first.rest.now) current parts (line_in first) current' parts' before is.lines step

-- no line is left
pub none_left : (text rest : List ℕ) (current : Option Section) (parts : Parts) → GoOnIn text rest current parts → rest ≡ [] → sections None no_parts (cut_lines text) ≡ Ok (parts, cut_lines rest)
none_left text rest current parts before none =
    before ∙ ap (λ t. sections current parts (cut_lines t)) none ∙ sections-end current parts ∙ ap (λ t. Ok (parts, cut_lines t)) (sym none)
