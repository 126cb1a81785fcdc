-- The sections of an input.
use Rattle.std.specs.Prelude.{◌≡◌, ℕ, nat_lt, Bool, if◌then◌else◌, List, [], ◌∷◌, ◌++◌, length, codes, Option, Some, None, Result, Ok, Err}
use Rattle.std.specs.Str.{bytes_eq}
use Rattle.text_parts.specs.Text.{Line}
use Rattle.modprobe.specs.declared.section.Section.{Section}
use Rattle.modprobe.specs.declared.section.Section.TheVariants.{Catalogue, Dep, Alias, Conf, Session}

-- the section that a line begins
abbrev pub section_of : List ℕ → Option Section
section_of line =
    if bytes_eq line (codes "%catalogue") then Some Catalogue
    else (if bytes_eq line (codes "%dep") then Some Dep
    else (if bytes_eq line (codes "%alias") then Some Alias
    else (if bytes_eq line (codes "%conf") then Some Conf
    else (if bytes_eq line (codes "%session") then Some Session else None))))

-- the texts of the sections
pub record Parts : Type 0 where
  pub catalogue_text : List ℕ
  pub dep_text : List ℕ
  pub alias_text : List ℕ
  pub conf_text : List ℕ

abbrev pub no_parts : Parts
no_parts = record { catalogue_text = []; dep_text = []; alias_text = []; conf_text = [] }

-- the texts with these bytes at the end of one; the session is no text
abbrev pub add_bytes : Section → List ℕ → Parts → Parts
add_bytes Catalogue bytes parts = record parts { catalogue_text = parts.catalogue_text ++ bytes }
add_bytes Dep bytes parts = record parts { dep_text = parts.dep_text ++ bytes }
add_bytes Alias bytes parts = record parts { alias_text = parts.alias_text ++ bytes }
add_bytes Conf bytes parts = record parts { conf_text = parts.conf_text ++ bytes }
add_bytes Session bytes parts = parts

-- the text of a section; the session has none
abbrev pub text_in : Section → Parts → List ℕ
text_in Catalogue parts = parts.catalogue_text
text_in Dep parts = parts.dep_text
text_in Alias parts = parts.alias_text
text_in Conf parts = parts.conf_text
text_in Session parts = []

-- a line of more than 65,535 bytes, without its end
abbrev pub is_long : List ℕ → Bool
is_long line = nat_lt 65535 (length line)

-- why sections stop: a line before the first section line, or a line that is too long
pub data Stopped : Type 0 where
  early : Stopped
  too_long : Stopped

-- what one line makes of the section in force and the texts: they stop, the session begins, or they go on
pub data SectionStep : Type 0 where
  stop : Stopped → SectionStep
  begin : SectionStep
  go : Option Section → Parts → SectionStep

abbrev pub text_step : Option Section → Parts → Line → SectionStep
text_step None parts line = stop early
text_step (Some section) parts line = go (Some section) (add_bytes section (line.text ++ line.ending) parts)

abbrev pub section_step : Option Section → Option Section → Parts → Line → SectionStep
section_step None current parts line = text_step current parts line
section_step (Some Session) current parts line = begin
section_step (Some section) current parts line = go (Some section) parts

abbrev pub step_of : Option Section → Parts → Line → SectionStep
step_of current parts line =
    if is_long line.text then stop too_long else section_step (section_of line.text) current parts line

abbrev pub after_step : SectionStep → Parts → List Line → (Option Section → Parts → Result (Parts × List Line) Stopped) → Result (Parts × List Line) Stopped
after_step (stop why) parts more later = Err why
after_step begin parts more later = Ok (parts, more)
after_step (go current parts) old more later = later current parts

-- what lines give, by the section in force: the texts, and the lines of the session
unfoldable pub sections : Option Section → Parts → List Line → Result (Parts × List Line) Stopped
sections current parts [] = Ok (parts, [])
sections current parts (line ∷ more) = after_step (step_of current parts line) parts more (λ c p. sections c p more)

-- what the next lines make of the section in force and the texts, unless this step stopped the sections, or began the
-- session
abbrev pub next_step : SectionStep → (Option Section → Parts → SectionStep) → SectionStep
next_step (stop why) later = stop why
next_step begin later = begin
next_step (go current parts) later = later current parts

-- what lines make of the section in force and the texts, one after another
abbrev pub steps_of : Option Section → Parts → List Line → SectionStep
steps_of current parts [] = go current parts
steps_of current parts (line ∷ more) = next_step (step_of current parts line) (λ c p. steps_of c p more)

-- reading the sections over these lines goes on: no line stopped them, and none began the session
abbrev pub GoesOn : List Line → Type 0
GoesOn done = (current : Option Section) × (parts : Parts) × (steps_of None no_parts done ≡ go current parts)
