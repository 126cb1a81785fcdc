-- The symbols of a catalogue, each with the slot of its module. These words serve proofs alone.
use Rattle.std.specs.Prelude.{ℕ, suc, is_some, List, [], ◌∷◌, ◌++◌, map, Option, Some, None, Result, Ok, Err, if◌then◌else◌}
use Rattle.std.specs.Str.{bytes_eq}
use Rattle.dep_index.specs.Catalogue.{Description, Refusal, Directive, twice_exported, exports, change, with_need}
use Rattle.dep_index.specs.declared.catalogue.versions.Version.{Version}

-- a symbol and the slot of its module
abbrev pub Link : Type 0
Link = List ℕ × ℕ

-- the slot of the first link with the symbol
abbrev pub slot_at : List Link → List ℕ → Option ℕ
slot_at [] symbol = None
slot_at (l ∷ ls) symbol = if bytes_eq symbol l.0 then Some l.1 else slot_at ls symbol

-- the links of modules from a slot on
abbrev pub links_from : ℕ → List Description → List Link
links_from m [] = []
links_from m (d ∷ ds) = map (λ s. (s, m)) d.exports ++ links_from (suc m) ds

-- the links of all modules, in the order of the text
abbrev pub links_of : List Description → List Link
links_of modules = links_from 0 modules

-- what a module exports one symbol after another, by the links so far
abbrev pub export_links : List Link → ℕ → Description → List (List ℕ) → Result (Description × List Link) Refusal
export_links links m last [] = Ok (last, links)
export_links links m last (s ∷ ss) =
    if is_some (slot_at links s)
    then Err twice_exported
    else export_links (links ++ (s, m) ∷ []) m (record last { exports = last.exports ++ (s ∷ []) }) ss

-- the links beside what became of the last module
abbrev pub with_links : List Link → Result Description Refusal → Result (Description × List Link) Refusal
with_links links (Ok last) = Ok (last, links)
with_links links (Err e) = Err e

-- what a line makes of the last module and of the links
abbrev pub change_links : Version → List Link → ℕ → Description → Directive → Result (Description × List Link) Refusal
change_links v links m last (exports ss) = export_links links m last ss
change_links v links m last directive = with_links links (change v [] last directive)

-- the needs of a slot, by the links
abbrev pub needs_by : List Link → ℕ → List ℕ → List (List ℕ) → List ℕ
needs_by links m found [] = found
needs_by links m found (s ∷ ss) = needs_by links m (with_need m found (slot_at links s)) ss
