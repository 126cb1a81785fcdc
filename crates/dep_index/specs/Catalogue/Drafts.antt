-- What the program keeps while it reads a catalogue, as a draft of the definitions.
use Rattle.std.specs.Prelude.{◌≡◌, ℕ, ◌≤◌, false, List, [], ◌∷◌, ◌++◌, length, Option, Some, None, Result, Ok, MatchResult}
use Rattle.dep_index.specs.Catalogue as spec
use Rattle.dep_index.specs.Catalogue.{Description, has_name}
use Rattle.dep_index.specs.Catalogue.Descriptions.{descriptions_in, open_in}
use Rattle.dep_index.specs.Catalogue.Exports.{links_of}
use Rattle.dep_index.specs.Faults.{IsRefused, IsFirstFault}
use Rattle.dep_index.specs.declared.faults.CatError.{CatError}
use Rattle.dep_index.specs.declared.faults.Refused.{Refused}
use Rattle.dep_index.specs.declared.catalogue.details.Open.{Open}
use Rattle.dep_index.specs.declared.catalogue.draft.Draft.{Draft}

-- the open module, if there is one
abbrev pub last_in : Option Open → List Description
last_in None = []
last_in (Some o) = open_in o ∷ []

-- the earlier modules and the open one
abbrev pub modules_read : Draft → List Description
modules_read draft = descriptions_in draft.earlier.entries ++ last_in draft.last

-- the draft of the definitions
abbrev pub draft_in : Draft → spec.Draft
draft_in draft =
    record {
      begun = draft.begun;
      version = draft.version;
      modules = modules_read draft;
      ended = draft.ended;
    }

-- the open module has no name of an earlier one; if none is open there is none at all
abbrev pub IsNew : List Description → Option Open → Type 0
IsNew earlier None = earlier ≡ []
IsNew earlier (Some o) = has_name earlier o.name.items ≡ false

-- what holds of a draft from line to line
pub record IsSound (draft : Draft) : Type 0 where
  pub links : draft.exporters ≡ links_of (modules_read draft)
  pub is_new : IsNew (descriptions_in draft.earlier.entries) draft.last
  pub few : length (modules_read draft) ≤ 65535

-- the draft is now what the definition makes, and sound, or the line is refused for the definition's fault
abbrev pub DraftIsMade : {T : Type 0} → Result T Refused → Result spec.Draft spec.Refusal → Draft → Type 0
DraftIsMade result meant now = MatchResult result (λ _. (meant ≡ Ok (draft_in now)) × IsSound now) (λ e. IsRefused e meant)

-- the draft is what the definition reads, and sound, or the text has the definition's fault
abbrev pub DraftIsRead : Result Draft CatError → Result spec.Draft (spec.Refusal × ℕ) → Type 0
DraftIsRead result meant = MatchResult result (λ draft. (meant ≡ Ok (draft_in draft)) × IsSound draft) (λ e. IsFirstFault e meant)
