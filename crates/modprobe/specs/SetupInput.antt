-- What an input is: its sections, the setup that they say, and the lines of its session with their ends.
use Rattle.std.specs.Prelude.{◌≡◌, ℕ, List, Option, Some, None, ⊤, Result, Ok, Err}
use Rattle.std.specs.Io.KnownBytes.{prepend_known}
use Rattle.text_parts.specs.Text.{Line, cut_lines}
use Rattle.dep_index.specs.Catalogue.{Description, Refusal, bad, duplicate, twice_exported, too_many, catalogue_of}
use Rattle.dep_index.specs.Dependencies.{Pair, DepRefusal, no_colon, empty_name, second_line, dependencies_of}
use Rattle.alias_match.specs.Aliases.{aliases_of}
use Rattle.modprobe_conf.specs.Configuration.{configuration_of}
use Rattle.modprobe.specs.declared.fault.SetupCode.{SetupCode}
use Rattle.modprobe.specs.declared.fault.SetupCode.TheVariants.{C1, C2, C3, C4, M1, M2, M3, B1, Read, Memory, Turns, LongLine}
use Rattle.modprobe.specs.declared.fault.SetupFault.{SetupFault}
use Rattle.modprobe.specs.Lines.{HasNoFeed, GivesCuts, AllEnded}
use Rattle.modprobe.specs.Setup.{Setup}
use Rattle.modprobe.specs.Sections.{Parts, no_parts, Stopped, early, too_long, sections, GoesOn}

-- why an input has no setup: its sections stop, or the catalogue, and then the text of modules.dep, has a fault at a line
-- of its text
pub data SetupRefusal : Type 0 where
  stopped : Stopped → SetupRefusal
  in_catalogue : Refusal → ℕ → SetupRefusal
  in_dependencies : DepRefusal → ℕ → SetupRefusal

abbrev pub with_dependencies : Parts → List Description → Result (List Pair) (DepRefusal × ℕ) → Result Setup SetupRefusal
with_dependencies p modules (Err e) = Err (in_dependencies e.0 e.1)
with_dependencies p modules (Ok pairs) =
    Ok (record {
      catalogue = modules;
      dependencies = pairs;
      aliases = aliases_of p.alias_text;
      configuration = configuration_of p.conf_text;
    })

abbrev pub with_catalogue : Parts → Result (List Description) (Refusal × ℕ) → Result Setup SetupRefusal
with_catalogue p (Err e) = Err (in_catalogue e.0 e.1)
with_catalogue p (Ok modules) = with_dependencies p modules (dependencies_of p.dep_text)

-- the setup that the texts say; only those of the catalogue and of modules.dep may have a fault
abbrev pub setup_for : Parts → Result Setup SetupRefusal
setup_for p = with_catalogue p (catalogue_of p.catalogue_text)

abbrev pub with_session : List Line → Result Setup SetupRefusal → Result (Setup × List Line) SetupRefusal
with_session session (Err e) = Err e
with_session session (Ok s) = Ok (s, session)

abbrev pub of_sections : Result (Parts × List Line) Stopped → Result (Setup × List Line) SetupRefusal
of_sections (Err why) = Err (stopped why)
of_sections (Ok x) = with_session x.1 (setup_for x.0)

-- the setup of an input and the lines of its session, each with its end, or why it has none
abbrev pub setup_of : List ℕ → Result (Setup × List Line) SetupRefusal
setup_of input = of_sections (sections None no_parts (cut_lines input))

-- the setup of the old text, whose session is the new text
abbrev pub GivesSetup : Option (List ℕ) → Option (List ℕ) → Setup → Type 0
GivesSetup None new s = ⊤
GivesSetup (Some old) None s = ⊥
GivesSetup (Some old) (Some new) s = setup_of old ≡ Ok (s, cut_lines new)

-- a code that stands for a refusal of the input, and the line that is told; the other codes say nothing of the input
abbrev pub IsRefusal : SetupCode → Option ℕ → Result (Setup × List Line) SetupRefusal → Type 0
IsRefusal C1 line s = (n : ℕ) × (line ≡ Some n) × (s ≡ Err (in_catalogue bad n))
IsRefusal C2 line s = (n : ℕ) × (line ≡ Some n) × (s ≡ Err (in_catalogue duplicate n))
IsRefusal C3 line s = (n : ℕ) × (line ≡ Some n) × (s ≡ Err (in_catalogue twice_exported n))
IsRefusal C4 line s = (n : ℕ) × (line ≡ Some n) × (s ≡ Err (in_catalogue too_many n))
IsRefusal M1 line s = (n : ℕ) × (line ≡ Some n) × (s ≡ Err (in_dependencies no_colon n))
IsRefusal M2 line s = (n : ℕ) × (line ≡ Some n) × (s ≡ Err (in_dependencies empty_name n))
IsRefusal M3 line s = (n : ℕ) × (line ≡ Some n) × (s ≡ Err (in_dependencies second_line n))
IsRefusal B1 line s = (line ≡ Some 1) × (s ≡ Err (stopped early))
IsRefusal LongLine line s = (line ≡ None) × (s ≡ Err (stopped too_long))
IsRefusal Read line s = line ≡ None
IsRefusal Memory line s = line ≡ None
IsRefusal Turns line s = line ≡ None

abbrev pub Refuses : SetupFault → Result (Setup × List Line) SetupRefusal → Type 0
Refuses fault s = IsRefusal fault.code fault.line s

-- The reading stopped in a line of the sections: the lines before it, each with its end, are a beginning of the text, and
-- reading the sections over them goes on. What the source gave after them is in hand, with no end of a line.
abbrev pub StopsInSections : Option (List ℕ) → Option (List ℕ) → List ℕ → Type 0
StopsInSections text ungiven line =
    (done : List Line) × GivesCuts text (prepend_known line ungiven) done × AllEnded done × GoesOn done × HasNoFeed line

-- the source failed, or was read too often
abbrev pub SetupStops : SetupCode → Option (List ℕ) → Option (List ℕ) → List ℕ → Type 0
SetupStops Read text ungiven line = StopsInSections text ungiven line
SetupStops Turns text ungiven line = StopsInSections text ungiven line
SetupStops _ text ungiven line = ⊤
