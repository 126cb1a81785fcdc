-- Which catalogue a text is.
pub mod Descriptions
pub mod Directives
pub mod Drafts
pub mod Exports
pub mod Marks
pub mod ParamNames
pub mod Pieces
use Rattle.std.specs.Prelude.{ℕ, suc, ◌-◌, Bool, true, false, not, if◌then◌else◌, ◌&&◌, ◌||◌, ◌==◌, nat_eq, nat_le, List, [], ◌∷◌, ◌++◌, map, length, position, codes, take, drop, Option, Some, None, Result, Ok, Err, slice_index_or}
use Rattle.std.specs.List.{list_all, list_any}
use Rattle.std.specs.Option.{option_map}
use Rattle.std.specs.Str.{bytes_eq}
use Rattle.std.specs.Str.Lines.{lines}
use Rattle.dep_index.specs.declared.catalogue.params.ParamKind.{ParamKind}
use Rattle.dep_index.specs.declared.catalogue.params.ParamKind.TheVariants.{Charp, One, Array}
use Rattle.dep_index.specs.declared.catalogue.params.Scalar.{Scalar}
use Rattle.dep_index.specs.declared.catalogue.params.Scalar.TheVariants as scalar
use Rattle.dep_index.specs.declared.catalogue.params.Param.{Param}
use Rattle.dep_index.specs.declared.catalogue.versions.Version.{Version}
use Rattle.dep_index.specs.declared.catalogue.versions.Version.TheVariants as text
use Rattle.dep_index.specs.Table.{Module}
use Rattle.text_parts.specs.Text.{words, is_comment, normal_form, is_name, number_within}

-- what a catalogue says of a module, its symbols as the text has them
pub record Description : Type 0 where
  pub name : List ℕ
  pub size : Option ℕ
  pub exports : List (List ℕ)
  pub needed_symbols : List (List ℕ)
  pub params : List Param
  pub softneeds : List (List ℕ)
  pub permanent : Bool

-- a module of which the name alone is known
abbrev pub described : List ℕ → Description
described name =
    record {
      name = name;
      size = None;
      exports = [];
      needed_symbols = [];
      params = [];
      softneeds = [];
      permanent = false;
    }

-- the description in a slot; past the end one that says nothing
abbrev pub description_at : List Description → ℕ → Description
description_at modules m = slice_index_or modules m (described [])

-- what the words of a line say, by their form alone
pub data Directive : Type 0 where
  version : Version → Directive
  begin : List ℕ → Directive
  size : ℕ → Directive
  exports : List (List ℕ) → Directive
  needs : List (List ℕ) → Directive
  softneeds : List (List ℕ) → Directive
  param : List ℕ → ParamKind → Directive
  permanent : Directive
  end : ℕ → Directive

-- why a text is no catalogue
pub data Refusal : Type 0 where
  bad : Refusal
  duplicate : Refusal
  twice_exported : Refusal
  too_many : Refusal

-- the words of the kernel's standard types of one value (include/linux/moduleparam.h)
abbrev pub scalar_of : List ℕ → Option Scalar
scalar_of word =
    if bytes_eq word (codes "byte") then Some scalar.Byte
    else (if bytes_eq word (codes "short") then Some scalar.Short
    else (if bytes_eq word (codes "ushort") then Some scalar.Ushort
    else (if bytes_eq word (codes "int") then Some scalar.Int
    else (if bytes_eq word (codes "uint") then Some scalar.Uint
    else (if bytes_eq word (codes "long") then Some scalar.Long
    else (if bytes_eq word (codes "ulong") then Some scalar.Ulong
    else (if bytes_eq word (codes "ullong") then Some scalar.Ullong
    else (if bytes_eq word (codes "hexint") then Some scalar.Hexint
    else (if bytes_eq word (codes "bool") then Some scalar.Bool
    else (if bytes_eq word (codes "bint") then Some scalar.Bint
    else (if bytes_eq word (codes "invbool") then Some scalar.Invbool else None)))))))))))

-- the word has `[]` at its end
abbrev pub is_array : List ℕ → Bool
is_array word = bytes_eq (drop (length word - 2) word) (codes "[]")

-- the kind of parameter that a word names: a text, one value, or with `[]` behind it an array
abbrev pub kind_of : List ℕ → Option ParamKind
kind_of word =
    if bytes_eq word (codes "charp") then Some Charp
    else (if is_array word then option_map Array (scalar_of (take (length word - 2) word))
    else option_map One (scalar_of word))

-- a size, if the word is one
abbrev pub with_size : Option ℕ → Option Directive
with_size None = None
with_size (Some n) = Some (size n)

-- an end, if its number is one
abbrev pub with_end : Option ℕ → Option Directive
with_end None = None
with_end (Some n) = Some (end n)

-- a parameter, if its kind is one
abbrev pub with_kind : List ℕ → Option ParamKind → Option Directive
with_kind name None = None
with_kind name (Some kind) = Some (param name kind)

-- the directive of each first word, by the words behind it
abbrev pub begin_of : List (List ℕ) → Option Directive
begin_of (name ∷ []) = if is_name name then Some (begin (normal_form name)) else None
begin_of _ = None

-- one number of 32 bits
abbrev pub size_of : List (List ℕ) → Option Directive
size_of (word ∷ []) = with_size (number_within 4294967295 word)
size_of _ = None

-- one number, at most that of the modules of the largest text
abbrev pub end_of : List (List ℕ) → Option Directive
end_of (word ∷ []) = with_end (number_within 65535 word)
end_of _ = None

-- one or more symbols, which are any words
abbrev pub some_symbols : (List (List ℕ) → Directive) → List (List ℕ) → Option Directive
some_symbols make [] = None
some_symbols make (w ∷ ws) = Some (make (w ∷ ws))

-- one or more names
abbrev pub some_names : List (List ℕ) → Option Directive
some_names [] = None
some_names (w ∷ ws) = if list_all is_name (w ∷ ws) then Some (softneeds (map normal_form (w ∷ ws))) else None

-- a name and a kind
abbrev pub param_of : List (List ℕ) → Option Directive
param_of (name ∷ word ∷ []) = if is_name name then with_kind (normal_form name) (kind_of word) else None
param_of _ = None

-- no further word
abbrev pub alone : Directive → List (List ℕ) → Option Directive
alone directive [] = Some directive
alone directive (w ∷ ws) = None

-- the versions 2 and 3, and no other
abbrev pub version_of : List (List ℕ) → Option Directive
version_of (word ∷ []) =
    if bytes_eq word (codes "2") then Some (version text.Two)
    else (if bytes_eq word (codes "3") then Some (version text.Three) else None)
version_of _ = None

-- what a first word and the words behind it say; None if they have no form of a catalogue line
abbrev pub directive_of : List ℕ → List (List ℕ) → Option Directive
directive_of word rest =
    if bytes_eq word (codes "module") then begin_of rest
    else (if bytes_eq word (codes "size") then size_of rest
    else (if bytes_eq word (codes "exports") then some_symbols exports rest
    else (if bytes_eq word (codes "needs") then some_symbols needs rest
    else (if bytes_eq word (codes "param") then param_of rest
    else (if bytes_eq word (codes "permanent") then alone permanent rest
    else (if bytes_eq word (codes "version") then version_of rest
    else (if bytes_eq word (codes "softneeds") then some_names rest
    else (if bytes_eq word (codes "end") then end_of rest else None))))))))

-- how many modules a text may have
abbrev pub most_modules : Version → ℕ
most_modules text.One = 256
most_modules text.Two = 1024
most_modules text.Three = 65535

-- a text may have soft needs
abbrev pub has_softneeds : Version → Bool
has_softneeds text.One = false
has_softneeds text.Two = true
has_softneeds text.Three = true

-- a text may say where it ends
abbrev pub has_end : Version → Bool
has_end text.One = false
has_end text.Two = false
has_end text.Three = true

-- a kind of parameter that every version has
abbrev pub is_first_kind : ParamKind → Bool
is_first_kind Charp = true
is_first_kind (One scalar.Int) = true
is_first_kind (One scalar.Bool) = true
is_first_kind _ = false

-- a text may have parameters of the kind
abbrev pub has_kind : Version → ParamKind → Bool
has_kind text.One kind = is_first_kind kind
has_kind text.Two kind = is_first_kind kind
has_kind text.Three kind = true

-- quotes round the value of a text's parameter are no part of it
abbrev pub drops_quotes : Version → Bool
drops_quotes text.One = false
drops_quotes text.Two = false
drops_quotes text.Three = true

-- a parameter that a line of the text defines
abbrev pub defined : Version → List ℕ → ParamKind → Param
defined v name kind = record { name = name; kind = kind; drops_quotes = drops_quotes v }

-- what was read so far: whether a line that is not ignored came, the version of the text, the descriptions in order,
-- the last one open, and whether the line came that ends the text
pub record Draft : Type 0 where
  pub begun : Bool
  pub version : Version
  pub modules : List Description
  pub ended : Bool

-- before the first line
abbrev pub no_draft : Draft
no_draft = record { begun = false; version = text.One; modules = []; ended = false }

-- how many modules the text may have
abbrev pub limit : Draft → ℕ
limit draft = most_modules draft.version

-- a module has the name
abbrev pub has_name : List Description → List ℕ → Bool
has_name modules name = list_any (λ m. bytes_eq name m.name) modules

-- the slot of a name
abbrev pub slot_named : List Description → List ℕ → Option ℕ
slot_named modules name = position (λ m. bytes_eq name m.name) modules

-- the module exports the symbol
abbrev pub exports_symbol : List ℕ → Description → Bool
exports_symbol symbol m = list_any (bytes_eq symbol) m.exports

-- the slot of the module that exports a symbol
abbrev pub exporter : List Description → List ℕ → Option ℕ
exporter modules symbol = position (exports_symbol symbol) modules

-- some module exports the symbol
abbrev pub is_exported : List Description → List ℕ → Bool
is_exported modules symbol = list_any (exports_symbol symbol) modules

-- a size is given once
abbrev pub sized : Description → Option ℕ → ℕ → Result Description Refusal
sized last None n = Ok (record last { size = Some n })
sized last (Some k) n = Err bad

-- the earlier modules and the changed last one
abbrev pub with_last : List Description → Result Description Refusal → Result (List Description) Refusal
with_last earlier (Ok m) = Ok (earlier ++ (m ∷ []))
with_last earlier (Err e) = Err e

-- the symbols of one line are exported one after the other
abbrev pub export_each : Description → List Description → List (List ℕ) → Result Description Refusal
export_each last earlier [] = Ok last
export_each last earlier (s ∷ ss) =
    if is_exported earlier s || exports_symbol s last
    then Err twice_exported
    else export_each (record last { exports = last.exports ++ (s ∷ []) }) earlier ss

-- what a line that changes the last description makes of it
abbrev pub change : Version → List Description → Description → Directive → Result Description Refusal
change v earlier last (version new) = Err bad
change v earlier last (begin name) = Err bad
change v earlier last (size n) = sized last last.size n
change v earlier last (exports ss) = export_each last earlier ss
change v earlier last (needs ss) = Ok (record last { needed_symbols = last.needed_symbols ++ ss })
change v earlier last (softneeds ns) =
    if has_softneeds v then Ok (record last { softneeds = last.softneeds ++ ns }) else Err bad
change v earlier last (param name kind) =
    if not (has_kind v kind) || list_any (λ p. bytes_eq name p.name) last.params
    then Err bad
    else Ok (record last { params = last.params ++ (defined v name kind ∷ []) })
change v earlier last permanent = Ok (record last { permanent = true })
change v earlier last (end n) = Err bad

-- the last of the modules changes; if there is none the line is bad
abbrev pub change_last : Version → List Description → List Description → Directive → Result (List Description) Refusal
change_last v earlier [] directive = Err bad
change_last v earlier (m ∷ []) directive = with_last earlier (change v earlier m directive)
change_last v earlier (m ∷ n ∷ ms) directive = change_last v (earlier ++ (m ∷ [])) (n ∷ ms) directive

-- the draft with these modules
abbrev pub with_modules : Draft → Result (List Description) Refusal → Result Draft Refusal
with_modules draft (Ok modules) = Ok (record draft { begun = true; modules = modules })
with_modules draft (Err e) = Err e

-- the effect of a directive
abbrev pub apply : Draft → Directive → Result Draft Refusal
apply draft (version new) =
    if draft.begun then Err bad else Ok (record draft { begun = true; version = new })
apply draft (begin name) =
    if has_name draft.modules name then Err duplicate
    else (if nat_le (limit draft) (length draft.modules) then Err too_many
    else Ok (record draft { begun = true; modules = draft.modules ++ (described name ∷ []) }))
apply draft (end n) =
    if has_end draft.version && nat_eq n (length draft.modules) then Ok (record draft { ended = true }) else Err bad
apply draft directive = with_modules draft (change_last draft.version [] draft.modules directive)

-- a line of no form is bad
abbrev pub apply_some : Draft → Option Directive → Result Draft Refusal
apply_some draft None = Err bad
apply_some draft (Some directive) = apply draft directive

-- one line, by its words; none stands behind the end
abbrev pub read_words : Draft → List (List ℕ) → Result Draft Refusal
read_words draft [] = Ok draft
read_words draft (w ∷ ws) = if draft.ended then Err bad else apply_some draft (directive_of w ws)

-- one line: a comment says nothing
abbrev pub read_line : Draft → List ℕ → Result Draft Refusal
read_line draft line = if is_comment line then Ok draft else read_words draft (words line)

-- after a line, the next ones, or the refusal with the number of the line
abbrev pub then_lines : ℕ → Result Draft Refusal → (Draft → Result Draft (Refusal × ℕ)) → Result Draft (Refusal × ℕ)
then_lines n (Ok draft) go = go draft
then_lines n (Err e) go = Err (e, n)

-- the first fault has the number of its line, from 1
abbrev pub read_lines : ℕ → Draft → List (List ℕ) → Result Draft (Refusal × ℕ)
read_lines n draft [] = Ok draft
read_lines n draft (l ∷ ls) = then_lines n (read_line draft l) (λ d. read_lines (suc n) d ls)

-- the modules of the draft behind the last line
abbrev pub modules_read : Result Draft (Refusal × ℕ) → Result (List Description) (Refusal × ℕ)
modules_read (Ok draft) = Ok draft.modules
modules_read (Err e) = Err e

-- the meaning of a catalogue text: its descriptions, or the first fault with its line
abbrev pub catalogue_of : List ℕ → Result (List Description) (Refusal × ℕ)
catalogue_of text = modules_read (read_lines 1 no_draft (lines text))

-- the slots that are found, and an exporter behind them, if it is another slot and not there
abbrev pub with_need : ℕ → List ℕ → Option ℕ → List ℕ
with_need m found None = found
with_need m found (Some k) = if k == m || list_any (nat_eq k) found then found else found ++ (k ∷ [])

-- the exporters of the symbols behind the slots that are found
abbrev pub needs_from : List Description → ℕ → List ℕ → List (List ℕ) → List ℕ
needs_from modules m found [] = found
needs_from modules m found (s ∷ ss) = needs_from modules m (with_need m found (exporter modules s)) ss

-- the needs of a slot: the exporters of its symbols in their order, without repeats and without itself
abbrev pub needs_of : List Description → ℕ → List ℕ
needs_of modules m = needs_from modules m [] (description_at modules m).needed_symbols

-- the slot needs a symbol that no module exports
abbrev pub has_unknown_symbol : List Description → ℕ → Bool
has_unknown_symbol modules m = list_any (λ s. not (is_exported modules s)) (description_at modules m).needed_symbols

-- what a table asks of a catalogue, slot by slot
abbrev pub module_of : List Description → ℕ → Module
module_of modules m =
    record {
      needs = needs_of modules m;
      unknown_symbol = has_unknown_symbol modules m;
      permanent = (description_at modules m).permanent;
    }

-- the modules from a slot on
abbrev pub modules_from : List Description → ℕ → List Description → List Module
modules_from modules m [] = []
modules_from modules m (d ∷ later) = module_of modules m ∷ modules_from modules (suc m) later

-- the modules of all slots, in order
abbrev pub modules_of : List Description → List Module
modules_of modules = modules_from modules 0 modules
