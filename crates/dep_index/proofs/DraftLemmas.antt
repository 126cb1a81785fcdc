-- What a line makes of a draft, by the definitions and by the program.
use Rattle.std.proofs.Common.{◌≡◌, ℕ, ◌+◌, ◌<◌, ◌≤◌, List, [], ◌∷◌, ◌++◌, Bool, true, false, cond, not, ◌||◌, map, length, Option, Some, None, is_some, Result, Ok, Err, Vec, refl, sym, ◌∙◌, ap, subst, arith}
use Rattle.std.specs.declared.alloc.Global.{Global}
use Rattle.std.specs.List.{list_any}
use Rattle.std.specs.Map.{lookup}
use Rattle.std.specs.Prelude.{MatchResult, nat_le}
use Rattle.std.specs.Str.{bytes_eq}
use Rattle.std.proofs.lemmas.Bool.{lt-leb}
use Rattle.std.proofs.lemmas.List.{append_assoc, append-nil, map-append, length-map, length-append}
use Rattle.std.proofs.lemmas.Map.Made.{is_some-lookup}
use Rattle.indexmap.specs.IndexMap.{insert_entry}
use Rattle.indexmap.proofs.CallerLemmas.{insert_entry-new}
use Rattle.dep_index.specs.Catalogue as spec
use Rattle.dep_index.specs.Catalogue.{Description, Refusal, Directive, bad, duplicate, twice_exported, too_many, version, begin, size, exports, needs, softneeds, param, permanent, end, has_name, is_exported, exports_symbol, change, change_last, export_each, sized, with_last, with_modules, described, most_modules, has_kind, defined, limit, apply}
use Rattle.dep_index.specs.declared.catalogue.versions.Version.{Version}
use Rattle.dep_index.specs.declared.catalogue.versions.Version.TheVariants as text
use Rattle.dep_index.specs.declared.catalogue.details.Details.{Details}
use Rattle.dep_index.specs.declared.catalogue.details.Open.{Open}
use Rattle.dep_index.specs.declared.catalogue.draft.Draft.{Draft}
use Rattle.dep_index.specs.declared.faults.Refused.{Refused}
use Rattle.dep_index.specs.declared.faults.Refused.TheVariants as line
use Rattle.dep_index.specs.Catalogue.Descriptions.{description_of, descriptions_in, open_in}
use Rattle.dep_index.specs.Catalogue.Drafts.{draft_in, last_in, modules_read, IsNew, IsSound}
use Rattle.dep_index.specs.Catalogue.Exports.{Link, links_of, change_links}
use Rattle.dep_index.specs.Faults.{IsRefused}
use Rattle.dep_index.proofs.ExportLemmas.{linked, change_linked, links_of-last}

pub list_any-map : {X Y : Type 0} (p : Y → Bool) (f : X → Y) (xs : List X) → list_any p (map f xs) ≡ list_any (λ x. p (f x)) xs
list_any-map p f [] = refl
list_any-map p f (x ∷ xs) = ap (λ t. p (f x) || t) (list_any-map p f xs)

-- the index has a name if a description has
pub name_found : (name : List ℕ) (es : List (Vec ℕ Global × Details)) → is_some (lookup (λ (k : Vec ℕ Global). bytes_eq name k.items) es) ≡ has_name (descriptions_in es) name
name_found name es =
    is_some-lookup (λ (k : Vec ℕ Global). bytes_eq name k.items) es
    ∙ list_any-map (λ (k : Vec ℕ Global). bytes_eq name k.items) (λ e. e.0) es
    ∙ sym (list_any-map (λ (m : Description). bytes_eq name m.name) description_of es)

pub none_from : {T : Type 0} (o : Option T) → is_some o ≡ false → o ≡ None
none_from None h = refl
none_from (Some x) h = absurd (cc)

-- a refusal by one definition is one by the other
pub refused_also : {A B : Type 0} (e : Refused) (x : Result A Refusal) (y : Result B Refusal) → ((r : Refusal) → x ≡ Err r → y ≡ Err r) → IsRefused e x → IsRefused e y
refused_also line.Bad x y go h = go bad h
refused_also line.Duplicate x y go h = go duplicate h
refused_also line.TwiceExported x y go h = go twice_exported h
refused_also line.TooMany x y go h = go too_many h
refused_also line.Memory x y go h = tt

-- the last module is the one that changes
pub change_at_last : (v : Version) (es front : List Description) (last : Description) (d : Directive) → change_last v es (front ++ last ∷ []) d ≡ with_last (es ++ front) (change v (es ++ front) last d)
change_at_last v es [] last d = ap (λ l. with_last l (change v l last d)) (sym (append-nil es))
change_at_last v es (m ∷ []) last d = refl
change_at_last v es (m ∷ n ∷ ms) last d =
    change_at_last v (es ++ m ∷ []) (n ∷ ms) last d
    ∙ ap (λ l. with_last l (change v l last d)) (append_assoc es (m ∷ []) (n ∷ ms))

linked_ok : (es : List Description) (x : Result Description Refusal) (d : Description) (ls : List Link) → linked es x ≡ Ok (d, ls) → (x ≡ Ok d) × (ls ≡ links_of (es ++ d ∷ []))
linked_ok es (Ok y) d ls h =
    let same : (let p : Description × List Link = (y, links_of (es ++ y ∷ [])) in p) ≡ (d, ls) = cc in
    (ap (λ (p : Description × List Link). Ok p.0) same, ap (λ (p : Description × List Link). p.1) (sym same) ∙ ap (λ (p : Description × List Link). links_of (es ++ p.0 ∷ [])) same)
linked_ok es (Err e) d ls h = absurd (cc)

linked_err : (es : List Description) (x : Result Description Refusal) (r : Refusal) → linked es x ≡ Err r → x ≡ Err r
linked_err es (Ok y) r h = absurd (cc)
linked_err es (Err e) r h = let same : e ≡ r = cc in ap Err same

-- a change keeps the name
kept_at : (last d : Description) (b : Bool) (later : Result Description Refusal) → (later ≡ Ok d → d.name ≡ last.name) → cond b (Err twice_exported) later ≡ Ok d → d.name ≡ last.name
kept_at last d true later go h = absurd (cc)
kept_at last d false later go h = go h

export_keeps_name : (last : Description) (es : List Description) (ss : List (List ℕ)) (d : Description) → export_each last es ss ≡ Ok d → d.name ≡ last.name
export_keeps_name last es [] d h = let same : last ≡ d = cc in ap (λ (x : Description). x.name) (sym same)
export_keeps_name last es (s ∷ ss) d h =
    kept_at last d (is_exported es s || exports_symbol s last) (export_each (record last { exports = last.exports ++ (s ∷ []) }) es ss) (export_keeps_name (record last { exports = last.exports ++ (s ∷ []) }) es ss d) h

named : (last last' d : Description) → last'.name ≡ last.name → (let r : Result Description Refusal = Ok last' in r) ≡ Ok d → d.name ≡ last.name
named last last' d e h = let same : last' ≡ d = cc in ap (λ (x : Description). x.name) (sym same) ∙ e

size_keeps_name : (last : Description) (o : Option ℕ) (n : ℕ) (d : Description) → sized last o n ≡ Ok d → d.name ≡ last.name
size_keeps_name last None n d h = named last (record last { size = Some n }) d refl h
size_keeps_name last (Some k) n d h = absurd (cc)

pub keeps_name : (v : Version) (es : List Description) (last : Description) (x : Directive) (d : Description) → change v es last x ≡ Ok d → d.name ≡ last.name
keeps_name v es last (version new) d h = absurd (cc)
keeps_name v es last (begin name) d h = absurd (cc)
keeps_name v es last (size n) d h = size_keeps_name last last.size n d h
keeps_name v es last (exports ss) d h = export_keeps_name last es ss d h
keeps_name v es last (needs ss) d h = named last (record last { needed_symbols = last.needed_symbols ++ ss }) d refl h
keeps_name text.One es last (softneeds ns) d h = absurd (cc)
keeps_name text.Two es last (softneeds ns) d h = named last (record last { softneeds = last.softneeds ++ ns }) d refl h
keeps_name text.Three es last (softneeds ns) d h = named last (record last { softneeds = last.softneeds ++ ns }) d refl h
keeps_name v es last (param name kind) d h = at (not (has_kind v kind) || list_any (λ p. bytes_eq name p.name) last.params) h where
  more : Description
  more = record last { params = last.params ++ (defined v name kind ∷ []) }

  at : (b : Bool) → cond b (Err bad) (Ok (record last { params = last.params ++ (defined v name kind ∷ []) })) ≡ Ok d → d.name ≡ last.name
  at true k = absurd (cc)
  at false k = named last (record last { params = last.params ++ (defined v name kind ∷ []) }) d refl k
keeps_name v es last (end n) d h = absurd (cc)
keeps_name v es last permanent d h = named last (record last { permanent = true }) d refl h

-- the draft with its open module changed
abbrev pub changed : Draft → Open → List Link → Draft
changed draft o ls = record { begun = true; version = draft.version; earlier = draft.earlier; last = Some o; exporters = ls; ended = draft.ended }

module _ (draft : Draft) (o : Open) (m : ℕ) (x : Directive) (is : draft.last ≡ Some o) (sound : IsSound draft) (here : m ≡ length draft.earlier.entries) where
  abbrev earlier : List Description
  earlier = descriptions_in draft.earlier.entries

  all : modules_read draft ≡ earlier ++ open_in o ∷ []
  all = ap (λ l. earlier ++ last_in l) is

  by_links : change_links draft.version draft.exporters m (open_in o) x ≡ linked earlier (change draft.version earlier (open_in o) x)
  by_links =
      ap (λ ls. change_links draft.version ls m (open_in o) x) (sound.links ∙ ap links_of all)
      ∙ ap (λ n. change_links draft.version (links_of (earlier ++ open_in o ∷ [])) n (open_in o) x) (here ∙ sym (length-map draft.earlier.entries description_of))
      ∙ change_linked draft.version earlier (open_in o) x

  by_last : change_last draft.version [] (modules_read draft) x ≡ with_last earlier (change draft.version earlier (open_in o) x)
  by_last = ap (λ l. change_last draft.version [] l x) all ∙ change_at_last draft.version [] earlier (open_in o) x

  pub change_refused : (r : Refusal) → change_links draft.version draft.exporters m (open_in o) x ≡ Err r → with_modules (draft_in draft) (change_last draft.version [] (modules_read draft) x) ≡ Err r
  change_refused r h =
      let no : change draft.version earlier (open_in o) x ≡ Err r = linked_err earlier _ r (sym by_links ∙ h) in
      ap (with_modules (draft_in draft)) (by_last ∙ ap (with_last earlier) no)

  pub change_done : (o' : Open) (ls : List Link) → change_links draft.version draft.exporters m (open_in o) x ≡ Ok (open_in o', ls)
      → (with_modules (draft_in draft) (change_last draft.version [] (modules_read draft) x) ≡ Ok (draft_in (changed draft o' ls))) × IsSound (changed draft o' ls)
  change_done o' ls h =
      let done = linked_ok earlier _ (open_in o') ls (sym by_links ∙ h) in
      let fresh : has_name earlier o.name.items ≡ false = subst (λ l. IsNew earlier l) is sound.is_new in
      let name : (open_in o').name ≡ (open_in o).name = keeps_name draft.version earlier (open_in o) x (open_in o') done.0 in
      let len : length (modules_read draft) ≡ length earlier + 1 = ap length all ∙ length-append earlier (open_in o ∷ []) in (
        ap (with_modules (draft_in draft)) (by_last ∙ ap (with_last earlier) done.0),
        record {
          links = done.1;
          is_new = ap (has_name earlier) name ∙ fresh;
          few = omega (arith, len, sound.few, length-append earlier (open_in o' ∷ []));
        },
      )

  pub change_meets : {T : Type 0} (r : Result T Refused) (o' : Open) (ls : List Link)
      → MatchResult r (λ _. change_links draft.version draft.exporters m (open_in o) x ≡ Ok (open_in o', ls)) (λ e. IsRefused e (change_links draft.version draft.exporters m (open_in o) x))
      → MatchResult r (λ _. (with_modules (draft_in draft) (change_last draft.version [] (modules_read draft) x) ≡ Ok (draft_in (changed draft o' ls))) × IsSound (changed draft o' ls))
      (λ e. IsRefused e (with_modules (draft_in draft) (change_last draft.version [] (modules_read draft) x)))
  change_meets (Ok t) o' ls h = change_done o' ls h
  change_meets (Err e) o' ls h = refused_also e _ _ change_refused h

-- the open module stands behind the earlier ones
pub closed_modules : (draft : Draft) (o : Open) (entry : Vec ℕ Global × Details) (es : List (Vec ℕ Global × Details)) → draft.last ≡ Some o → IsSound draft → description_of entry ≡ open_in o
    → es ≡ insert_entry (λ (a b : Vec ℕ Global). bytes_eq a.items b.items) draft.earlier.entries entry.0 entry.1 → descriptions_in es ++ [] ≡ modules_read draft
closed_modules draft o entry es is sound same after =
    let fresh : has_name (descriptions_in draft.earlier.entries) entry.0.items ≡ false =
    ap (has_name (descriptions_in draft.earlier.entries)) (ap (λ (d : Description). d.name) same) ∙ subst (λ l. IsNew (descriptions_in draft.earlier.entries) l) is sound.is_new in
    let absent : lookup (λ (k : Vec ℕ Global). bytes_eq entry.0.items k.items) draft.earlier.entries ≡ None = none_from _ (name_found entry.0.items draft.earlier.entries ∙ fresh) in
    append-nil (descriptions_in es)
    ∙ ap descriptions_in (after ∙ insert_entry-new (λ (a b : Vec ℕ Global). bytes_eq a.items b.items) draft.earlier entry.0 entry.1 absent)
    ∙ map-append description_of draft.earlier.entries (entry ∷ [])
    ∙ ap (λ d. descriptions_in draft.earlier.entries ++ d ∷ []) same
    ∙ ap (λ l. descriptions_in draft.earlier.entries ++ last_in l) (sym is)

-- a module that begins, with none open before
module _ (draft new : Draft) (o : Open) (name : List ℕ) (sound : IsSound draft) (same : draft_in new ≡ draft_in draft) (closed : new.last ≡ None) (exporters : new.exporters ≡ draft.exporters) (is : open_in o ≡ described name)
    (other : has_name (modules_read draft) name ≡ false) (room : length (modules_read draft) < limit (draft_in draft)) where
  modules : modules_read new ≡ modules_read draft
  modules = ap (λ (d : spec.Draft). d.modules) same

  earlier_modules : descriptions_in new.earlier.entries ≡ modules_read draft
  earlier_modules = sym (append-nil (descriptions_in new.earlier.entries)) ∙ ap (λ l. descriptions_in new.earlier.entries ++ last_in l) (sym closed) ∙ modules

  abbrev opened : Draft
  opened = record { begun = true; version = new.version; earlier = new.earlier; last = Some o; exporters = new.exporters; ended = new.ended }

  behind : modules_read opened ≡ modules_read draft ++ described name ∷ []
  behind = ap (λ l. l ++ open_in o ∷ []) earlier_modules ∙ ap (λ d. modules_read draft ++ d ∷ []) is

  within : limit (draft_in draft) ≤ 65535
  within = elim draft.version as (λ v. most_modules v ≤ 65535) [ text.One ↦ omega arith | text.Two ↦ omega arith | text.Three ↦ omega arith ]

  full : nat_le (limit (draft_in draft)) (length (modules_read draft)) ≡ false
  full = lt-leb (limit (draft_in draft)) (length (modules_read draft)) room

  pub begin_done : (apply (draft_in draft) (begin name) ≡ Ok (draft_in opened)) × IsSound opened
  begin_done = (
    rw (other, full) (ap Ok (λ i. record { begun = true; version = (sym same i).version; modules = sym behind i; ended = (sym same i).ended })),
    record {
      links = exporters ∙ sound.links ∙ sym (ap links_of behind ∙ links_of-last (modules_read draft) (described name) ∙ append-nil (links_of (modules_read draft)));
      is_new = ap (λ l. has_name l o.name.items) earlier_modules ∙ ap (has_name (modules_read draft)) (ap (λ (d : Description). d.name) is) ∙ other;
      few = omega (arith, ap length behind, length-append (modules_read draft) (described name ∷ []), room, within);
    },
  )
