-- The sections of an input, one line on.
use Rattle.std.proofs.Common.{arith, ◌≡◌, ℕ, ◌≤◌, true, false, List, [], ◌∷◌, ◌++◌, length, map, refl, sym, ap, subst, ◌∙◌, Option, Some, None, Result, Ok, Err}
use Rattle.std.specs.Prelude.{◌≢◌, slice_index_or, ⊤}
use Rattle.std.specs.Io.KnownBytes.{IsAtEnd, Keeps}
use Rattle.text_parts.specs.Text.{Line, cut_lines}
use Rattle.modprobe.specs.Lines.{IfTold, GivesCut, GivesCuts, AllEnded, IsPartOfLine, BeginsWithLongLine}
use Rattle.modprobe.proofs.CutLemmas.{is_long_line, cuts_in_hand}
use Rattle.modprobe.specs.declared.section.Section.{Section}
use Rattle.modprobe.specs.declared.section.Section.TheVariants.{Catalogue, Dep, Alias, Conf, Session}
use Rattle.modprobe.specs.Sections.{Parts, no_parts, section_of, SectionStep, Stopped, early, too_long, stop, begin, go, text_step, section_step, step_of, after_step, is_long, sections, next_step, steps_of}
use Rattle.modprobe.specs.declared.fault.SetupFault.{SetupFault}
use Rattle.modprobe.specs.ForProofs.{is_session, GivesSections, RefusesTexts, StopsAs, setup_code_of}
use Rattle.modprobe.specs.declared.lines.LineFault.{LineFault}
use Rattle.modprobe.specs.declared.lines.LineFault.TheVariants.{Read, Memory, Turns, LongLine}
use Rattle.modprobe.specs.Setup.{Setup}
use Rattle.modprobe.specs.SetupInput.{of_sections, with_session, setup_for, setup_of, GivesSetup, Refuses, SetupStops}
use Rattle.text_parts.proofs.LineLemmas.{lines_have_texts}
use Rattle.std.proofs.lemmas.Bool.{false≢true, true≢false, cond-true, cond-false, lt-ltb, le-ltb}

-- the sections of the old text are those that the new text gives from here
abbrev pub SectionsGoOn : Option (List ℕ) → Option (List ℕ) → Option Section → Parts → Type 0
SectionsGoOn None new current parts = ⊤
SectionsGoOn (Some old) None current parts = ⊥
SectionsGoOn (Some old) (Some new) current parts = sections None no_parts (cut_lines old) ≡ sections current parts (cut_lines new)

sections-line : (current : Option Section) (parts : Parts) (line : Line) (more : List Line) (step : SectionStep) → step_of current parts line ≡ step
    → sections current parts (line ∷ more) ≡ after_step step parts more (λ c p. sections c p more)
unfolding sections
sections-line current parts line more turn is = ap (λ t. after_step t parts more (λ c p. sections c p more)) is

pub sections-end : (current : Option Section) (parts : Parts) → sections current parts [] ≡ Ok (parts, [])
unfolding sections
sections-end current parts = refl

pub goes_on : (old middle new : Option (List ℕ)) (current : Option Section) (parts : Parts) (line : Line) (current' : Option Section) (parts' : Parts)
    → SectionsGoOn old middle current parts → GivesCut middle new line → step_of current parts line ≡ go current' parts' → SectionsGoOn old new current' parts'
goes_on None middle new current parts line current' parts' before gives is = tt
goes_on (Some old) None new current parts line current' parts' before gives is = absurd before
goes_on (Some old) (Some middle) None current parts line current' parts' before gives is = absurd gives
goes_on (Some old) (Some middle) (Some new) current parts line current' parts' before gives is =
    before ∙ ap (sections current parts) gives ∙ sections-line current parts line (cut_lines new) (go current' parts') is

pub begins : (old middle new : Option (List ℕ)) (current : Option Section) (parts : Parts) (line : Line)
    → SectionsGoOn old middle current parts → GivesCut middle new line → step_of current parts line ≡ begin → GivesSections old new parts
begins None middle new current parts line before gives is = tt
begins (Some old) None new current parts line before gives is = absurd before
begins (Some old) (Some middle) None current parts line before gives is = absurd gives
begins (Some old) (Some middle) (Some new) current parts line before gives is =
    before ∙ ap (sections current parts) gives ∙ sections-line current parts line (cut_lines new) begin is

-- The sections stop at the line.
pub stops : (old middle new : Option (List ℕ)) (current : Option Section) (parts : Parts) (line : Line) (why : Stopped)
    → SectionsGoOn old middle current parts → GivesCut middle new line → step_of current parts line ≡ stop why → IfTold old (λ text. sections None no_parts (cut_lines text) ≡ Err why)
stops None middle new current parts line why before gives is = tt
stops (Some old) None new current parts line why before gives is = absurd before
stops (Some old) (Some middle) None current parts line why before gives is = absurd gives
stops (Some old) (Some middle) (Some new) current parts line why before gives is =
    before ∙ ap (sections current parts) gives ∙ sections-line current parts line (cut_lines new) (stop why) is

pub early_stops : (old middle new : Option (List ℕ)) (current : Option Section) (parts : Parts) (line : Line)
    → SectionsGoOn old middle current parts → GivesCut middle new line → step_of current parts line ≡ stop early → IfTold old (λ text. sections None no_parts (cut_lines text) ≡ Err early)
early_stops old middle new current parts line before gives is = stops old middle new current parts line early before gives is

-- A text that begins with a line of this text has a first line with its end.
first_cut : (cut : List Line) (line : List ℕ) (more : List (List ℕ)) → map (λ (l : Line). l.text) cut ≡ line ∷ more → (first : Line) × (later : List Line) × (cut ≡ first ∷ later) × (first.text ≡ line)
first_cut [] line more is = absurd (omega (arith, ap length is))
first_cut (first ∷ later) line more is = (first, later, refl, ap (λ l. slice_index_or l 0 []) is)

pub long_stops : (old middle : Option (List ℕ)) (current : Option Section) (parts : Parts)
    → SectionsGoOn old middle current parts → IfTold middle BeginsWithLongLine → IfTold old (λ text. sections None no_parts (cut_lines text) ≡ Err too_long)
long_stops None middle current parts before long = tt
long_stops (Some old) None current parts before long = absurd before
long_stops (Some old) (Some middle) current parts before long =
    let cut = first_cut (cut_lines middle) long.0 long.1 (lines_have_texts middle ∙ long.2) in
    let is_too_long : is_long cut.0.text ≡ true = lt-ltb 65535 (length cut.0.text) (rw cut.3 long.3) in
    let is : step_of current parts cut.0 ≡ stop too_long = cond-true _ _ _ is_too_long in
    before ∙ ap (sections current parts) cut.2 ∙ sections-line current parts cut.0 cut.1 (stop too_long) is

pub at_end : (old middle new : Option (List ℕ)) (current : Option Section) (parts : Parts) → SectionsGoOn old middle current parts → IsAtEnd middle → IsAtEnd new → Keeps middle new → GivesSections old new parts
at_end None middle new current parts before end end' kept = tt
at_end (Some old) None new current parts before end end' kept = absurd before
at_end (Some old) (Some middle) None current parts before end end' kept = absurd kept
at_end (Some old) (Some middle) (Some new) current parts before end end' kept =
    before ∙ ap (λ t. sections current parts (cut_lines t)) end ∙ sections-end current parts ∙ ap (λ t. Ok (parts, cut_lines t)) (sym end')

section_step-begin : (section : Section) (current : Option Section) (parts : Parts) (line : Line) → is_session section ≡ true → section_step (Some section) current parts line ≡ begin
section_step-begin Catalogue current parts line is = absurd (false≢true is)
section_step-begin Dep current parts line is = absurd (false≢true is)
section_step-begin Alias current parts line is = absurd (false≢true is)
section_step-begin Conf current parts line is = absurd (false≢true is)
section_step-begin Session current parts line is = refl

section_step-go : (section : Section) (current : Option Section) (parts : Parts) (line : Line) → is_session section ≡ false → section_step (Some section) current parts line ≡ go (Some section) parts
section_step-go Catalogue current parts line is = refl
section_step-go Dep current parts line is = refl
section_step-go Alias current parts line is = refl
section_step-go Conf current parts line is = refl
section_step-go Session current parts line is = absurd (true≢false is)

step_of-short : (current : Option Section) (parts : Parts) (line : Line) → length line.text ≤ 65535 → step_of current parts line ≡ section_step (section_of line.text) current parts line
step_of-short current parts line short = cond-false _ _ _ (le-ltb 65535 (length line.text) short)

pub step_of-begin : (section : Section) (current : Option Section) (parts : Parts) (line : Line) → length line.text ≤ 65535 → section_of line.text ≡ Some section → is_session section ≡ true → step_of current parts line ≡ begin
step_of-begin section current parts line short found is =
    step_of-short current parts line short ∙ ap (λ s. section_step s current parts line) found ∙ section_step-begin section current parts line is

pub step_of-go : (section : Section) (current : Option Section) (parts : Parts) (line : Line) → length line.text ≤ 65535 → section_of line.text ≡ Some section → is_session section ≡ false → step_of current parts line ≡ go (Some section) parts
step_of-go section current parts line short found is =
    step_of-short current parts line short ∙ ap (λ s. section_step s current parts line) found ∙ section_step-go section current parts line is

pub step_of-text : (current : Option Section) (parts : Parts) (line : Line) → length line.text ≤ 65535 → section_of line.text ≡ None → step_of current parts line ≡ text_step current parts line
step_of-text current parts line short found = step_of-short current parts line short ∙ ap (λ s. section_step s current parts line) found

stops_somehow : (old : Option (List ℕ)) → IfTold old (λ text. ⊤)
stops_somehow None = tt
stops_somehow (Some text) = tt

-- A fault of the lines says why the sections stop, if it is a long line.
pub stops_as : (old middle : Option (List ℕ)) (current : Option Section) (parts : Parts) (fault : LineFault)
    → SectionsGoOn old middle current parts → (fault ≡ LongLine → IfTold middle BeginsWithLongLine) → IfTold old (λ text. StopsAs (setup_code_of fault) text)
stops_as old middle current parts Read before long = stops_somehow old
stops_as old middle current parts Memory before long = stops_somehow old
stops_as old middle current parts Turns before long = stops_somehow old
stops_as old middle current parts LongLine before long = long_stops old middle current parts before (long refl)

-- The setup of an input, or why it has none, from its sections.
pub gives_setup : (old new : Option (List ℕ)) (parts : Parts) (s : Setup) → GivesSections old new parts → setup_for parts ≡ Ok s → GivesSetup old new s
gives_setup None new parts s gives is = tt
gives_setup (Some old) None parts s gives is = absurd gives
gives_setup (Some old) (Some new) parts s gives is = ap of_sections gives ∙ ap (with_session (cut_lines new)) is

pub refuses_setup : (old new : Option (List ℕ)) (parts : Parts) (fault : SetupFault) → GivesSections old new parts → RefusesTexts fault parts
    → IfTold old (λ input. Refuses fault (setup_of input))
refuses_setup None new parts fault gives refused = tt
refuses_setup (Some old) None parts fault gives refused = absurd gives
refuses_setup (Some old) (Some new) parts fault gives refused =
    subst (λ (r : Result (Parts × List Line) Stopped). Refuses fault (of_sections r)) (sym gives) (refused (cut_lines new))

-- If the lines stop at the source, the sections go on in the line in hand.
pub setup_stops : (old middle left ungiven : Option (List ℕ)) (done : List Line) (current : Option Section) (parts : Parts) (fault : LineFault) (line : List ℕ)
    → GivesCuts old middle done → steps_of None no_parts done ≡ go current parts → AllEnded done → (fault ≢ LongLine → IsPartOfLine middle left line) → (fault ≡ Read → left ≡ ungiven) → (fault ≡ Turns → left ≡ ungiven)
    → SetupStops (setup_code_of fault) old ungiven line
setup_stops old middle left ungiven done current parts Read line gives is ended part read turns =
    let here = subst (λ l. IsPartOfLine middle l line) (read refl) (part (λ e. false≢true (ap is_long_line e))) in
    (done, cuts_in_hand old middle ungiven done line gives here.0, ended, (current, parts, is), here.1)
setup_stops old middle left ungiven done current parts Memory line gives is ended part read turns = tt
setup_stops old middle left ungiven done current parts Turns line gives is ended part read turns =
    let here = subst (λ l. IsPartOfLine middle l line) (turns refl) (part (λ e. false≢true (ap is_long_line e))) in
    (done, cuts_in_hand old middle ungiven done line gives here.0, ended, (current, parts, is), here.1)
setup_stops old middle left ungiven done current parts LongLine line gives is ended part read turns = tt

-- The lines before go on, and so does one more.
steps_through : (step : SectionStep) (more : List Line) (line : Line) (current current' : Option Section) (parts parts' : Parts)
    → ((c : Option Section) (p : Parts) → steps_of c p more ≡ go current parts → steps_of c p (more ++ line ∷ []) ≡ go current' parts')
    → next_step step (λ c p. steps_of c p more) ≡ go current parts → next_step step (λ c p. steps_of c p (more ++ line ∷ [])) ≡ go current' parts'
steps_through (stop why) more line current current' parts parts' later is = absurd (cc)
steps_through begin more line current current' parts parts' later is = absurd (cc)
steps_through (go c p) more line current current' parts parts' later is = later c p is

pub steps_more : (first : Option Section) (at : Parts) (done : List Line) (line : Line) (current current' : Option Section) (parts parts' : Parts)
    → steps_of first at done ≡ go current parts → step_of current parts line ≡ go current' parts' → steps_of first at (done ++ line ∷ []) ≡ go current' parts'
steps_more first at [] line current current' parts parts' before is =
    let here : step_of first at line ≡ go current' parts' = ap (λ s. next_step s (λ c p. step_of c p line)) before ∙ is in
    ap (λ s. next_step s (λ c p. go c p)) here
steps_more first at (next ∷ more) line current current' parts parts' before is =
    steps_through (step_of first at next) more line current current' parts parts' (λ c p b. steps_more c p more line current current' parts parts' b is) before
