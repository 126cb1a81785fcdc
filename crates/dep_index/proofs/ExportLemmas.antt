-- The links of a catalogue answer as a walk over its modules does.
use Rattle.std.proofs.Common.{◌≡◌, ℕ, suc, ◌+◌, List, [], ◌∷◌, ◌++◌, Bool, true, false, cond, not, ◌||◌, map, length, Option, Some, None, is_some, nat_lt, Result, Ok, Err, refl, sym, ◌∙◌, ap, arith}
use Rattle.std.specs.List.{list_any, position_or_len}
use Rattle.std.specs.Str.{bytes_eq}
use Rattle.std.proofs.lemmas.Bool.Decides.{nat_tests}
use Rattle.std.proofs.lemmas.List.{append_assoc, append-nil, map-append}
use Rattle.std.proofs.lemmas.List.Folds.{list_any-append}
use Rattle.dep_index.specs.Catalogue.{Description, Refusal, Directive, twice_exported, bad, version, begin, size, exports, needs, softneeds, param, permanent, end, exports_symbol, is_exported, exporter, has_kind, defined, change, export_each, sized}
use Rattle.dep_index.specs.declared.catalogue.versions.Version.{Version}
use Rattle.dep_index.specs.declared.catalogue.versions.Version.TheVariants as text
use Rattle.dep_index.specs.Catalogue.Exports.{Link, slot_at, links_from, links_of, export_links, with_links, change_links}

-- the slot of the first module from k on that passes
abbrev place : (Description → Bool) → ℕ → List Description → Option ℕ
place p k ds = cond (nat_lt (position_or_len p ds) (length ds)) (Some (k + position_or_len p ds)) None

slot_at-own : (s : List ℕ) (m : ℕ) (es : List (List ℕ)) (rest : List Link) → slot_at (map (λ e. (e, m)) es ++ rest) s ≡ cond (list_any (bytes_eq s) es) (Some m) (slot_at rest s)
slot_at-own s m [] rest = refl
slot_at-own s m (e ∷ es) rest =
    elim (bytes_eq s e) as (λ t. cond t (Some m) (slot_at (map (λ x. (x, m)) es ++ rest) s) ≡ cond (t || list_any (bytes_eq s) es) (Some m) (slot_at rest s)) [
      | true ↦ refl
      | false ↦ slot_at-own s m es rest
    ]

-- a symbol has a link if a module exports it
some_link : (s : List ℕ) (k : ℕ) (ds : List Description) → is_some (slot_at (links_from k ds) s) ≡ list_any (exports_symbol s) ds
some_link s k [] = refl
some_link s k (d ∷ ds) =
    ap is_some (slot_at-own s k d.exports (links_from (suc k) ds))
    ∙ elim (exports_symbol s d) as (λ t. is_some (cond t (Some k) (slot_at (links_from (suc k) ds) s)) ≡ (t || list_any (exports_symbol s) ds)) [ true ↦ refl | false ↦ some_link s (suc k) ds ]

place-cons : (p : Description → Bool) (k : ℕ) (d : Description) (ds : List Description) → place p k (d ∷ ds) ≡ cond (p d) (Some k) (place p (suc k) ds)
place-cons p k d ds = at (p d) refl where
  at : (b : Bool) → p d ≡ b → place p k (d ∷ ds) ≡ cond b (Some k) (place p (suc k) ds)
  at true e =
      let first : position_or_len p (d ∷ ds) ≡ 0 = rw e refl in
      let within : nat_lt 0 (length (d ∷ ds)) ≡ true = grind (arith, nat_tests) in
      rw (first, within) (ap Some (omega arith))
  at false e =
      let later : position_or_len p (d ∷ ds) ≡ 1 + position_or_len p ds = rw e refl in
      let same : nat_lt (1 + position_or_len p ds) (length (d ∷ ds)) ≡ nat_lt (position_or_len p ds) (length ds) = grind (arith, nat_tests) in
      rw (later, same) (ap (λ n. cond (nat_lt (position_or_len p ds) (length ds)) (Some n) None) (omega arith))

link_place : (s : List ℕ) (k : ℕ) (ds : List Description) → slot_at (links_from k ds) s ≡ place (exports_symbol s) k ds
link_place s k [] = refl
link_place s k (d ∷ ds) =
    slot_at-own s k d.exports (links_from (suc k) ds)
    ∙ ap (λ o. cond (exports_symbol s d) (Some k) o) (link_place s (suc k) ds)
    ∙ sym (place-cons (exports_symbol s) k d ds)

-- the slot of a link is that of the exporter
pub link_exporter : (ds : List Description) (s : List ℕ) → slot_at (links_of ds) s ≡ exporter ds s
link_exporter ds s = link_place s 0 ds ∙ ap (λ n. cond (nat_lt (position_or_len (exports_symbol s) ds) (length ds)) (Some n) None) (omega arith)

pub link_exported : (ds : List Description) (s : List ℕ) → is_some (slot_at (links_of ds) s) ≡ is_exported ds s
link_exported ds s = some_link s 0 ds

links_from-last : (k : ℕ) (earlier : List Description) (d : Description) → links_from k (earlier ++ d ∷ []) ≡ links_from k earlier ++ map (λ s. (s, k + length earlier)) d.exports
links_from-last k [] d = append-nil _ ∙ ap (λ n. map (λ s. (s, n)) d.exports) (omega arith)
links_from-last k (e ∷ es) d =
    ap (λ ls. map (λ s. (s, k)) e.exports ++ ls) (links_from-last (suc k) es d)
    ∙ sym (append_assoc (map (λ s. (s, k)) e.exports) (links_from (suc k) es) _)
    ∙ ap (λ n. (map (λ s. (s, k)) e.exports ++ links_from (suc k) es) ++ map (λ s. (s, n)) d.exports) (omega arith)

-- the last module's links are the last
pub links_of-last : (earlier : List Description) (d : Description) → links_of (earlier ++ d ∷ []) ≡ links_of earlier ++ map (λ s. (s, length earlier)) d.exports
links_of-last earlier d = links_from-last 0 earlier d ∙ ap (λ n. links_of earlier ++ map (λ s. (s, n)) d.exports) (omega arith)

pub links_same : (earlier : List Description) (d d' : Description) → d.exports ≡ d'.exports → links_of (earlier ++ d ∷ []) ≡ links_of (earlier ++ d' ∷ [])
links_same earlier d d' e = links_of-last earlier d ∙ ap (λ es. links_of earlier ++ map (λ s. (s, length earlier)) es) e ∙ sym (links_of-last earlier d')

-- one more export of the last module
links_more : (earlier : List Description) (d : Description) (s : List ℕ) → links_of (earlier ++ d ∷ []) ++ (s, length earlier) ∷ [] ≡ links_of (earlier ++ record d { exports = d.exports ++ (s ∷ []) } ∷ [])
links_more earlier d s =
    ap (λ ls. ls ++ (s, length earlier) ∷ []) (links_of-last earlier d)
    ∙ append_assoc (links_of earlier) (map (λ x. (x, length earlier)) d.exports) ((s, length earlier) ∷ [])
    ∙ ap (λ ls. links_of earlier ++ ls) (sym (map-append (λ x. (x, length earlier)) d.exports (s ∷ [])))
    ∙ sym (links_of-last earlier (record d { exports = d.exports ++ (s ∷ []) }))

-- what a line makes of the last module, and the links with it
abbrev pub linked : List Description → Result Description Refusal → Result (Description × List Link) Refusal
linked earlier (Ok last) = Ok (last, links_of (earlier ++ last ∷ []))
linked earlier (Err e) = Err e

last_exported : (earlier : List Description) (d : Description) (s : List ℕ) → is_some (slot_at (links_of (earlier ++ d ∷ [])) s) ≡ (is_exported earlier s || exports_symbol s d)
last_exported earlier d s =
    link_exported (earlier ++ d ∷ []) s ∙ list_any-append (exports_symbol s) earlier (d ∷ [])
    ∙ ap (λ t. is_exported earlier s || t) (elim (exports_symbol s d) as (λ t. (t || false) ≡ t) [ true ↦ refl | false ↦ refl ])

export_at : (earlier : List Description) (last : Description) (s : List ℕ) (ss : List (List ℕ)) (b : Bool)
    → export_links (links_of (earlier ++ last ∷ []) ++ (s, length earlier) ∷ []) (length earlier) (record last { exports = last.exports ++ (s ∷ []) }) ss ≡ linked earlier (export_each (record last { exports = last.exports ++ (s ∷ []) }) earlier ss)
    → cond b (Err twice_exported) (export_links (links_of (earlier ++ last ∷ []) ++ (s, length earlier) ∷ []) (length earlier) (record last { exports = last.exports ++ (s ∷ []) }) ss)
    ≡ linked earlier (cond b (Err twice_exported) (export_each (record last { exports = last.exports ++ (s ∷ []) }) earlier ss))
export_at earlier last s ss true rest = refl
export_at earlier last s ss false rest = rest

export_linked : (earlier : List Description) (last : Description) (ss : List (List ℕ)) → export_links (links_of (earlier ++ last ∷ [])) (length earlier) last ss ≡ linked earlier (export_each last earlier ss)
export_linked earlier last [] = refl
export_linked earlier last (s ∷ ss) =
    ap (λ t. cond t (Err twice_exported) (export_links (links_of (earlier ++ last ∷ []) ++ (s, length earlier) ∷ []) (length earlier) (record last { exports = last.exports ++ (s ∷ []) }) ss)) (last_exported earlier last s)
    ∙ export_at earlier last s ss (is_exported earlier s || exports_symbol s last)
    (ap (λ ls. export_links ls (length earlier) (record last { exports = last.exports ++ (s ∷ []) }) ss) (links_more earlier last s)
    ∙ export_linked earlier (record last { exports = last.exports ++ (s ∷ []) }) ss)

-- if the exports stay, the links stay
kept : (earlier : List Description) (last last' : Description) → last'.exports ≡ last.exports → with_links (links_of (earlier ++ last ∷ [])) (Ok last') ≡ linked earlier (Ok last')
kept earlier last last' e = ap (λ ls. Ok (last', ls)) (sym (links_same earlier last' last e))

size_linked : (earlier : List Description) (last : Description) (o : Option ℕ) (n : ℕ) → with_links (links_of (earlier ++ last ∷ [])) (sized last o n) ≡ linked earlier (sized last o n)
size_linked earlier last None n = kept earlier last (record last { size = Some n }) refl
size_linked earlier last (Some k) n = refl

-- a line does the same by the links as by the modules
pub change_linked : (v : Version) (earlier : List Description) (last : Description) (d : Directive) → change_links v (links_of (earlier ++ last ∷ [])) (length earlier) last d ≡ linked earlier (change v earlier last d)
change_linked v earlier last (version new) = refl
change_linked v earlier last (begin name) = refl
change_linked v earlier last (size n) = size_linked earlier last last.size n
change_linked v earlier last (exports ss) = export_linked earlier last ss
change_linked v earlier last (needs ss) = kept earlier last (record last { needed_symbols = last.needed_symbols ++ ss }) refl
change_linked text.One earlier last (softneeds ns) = refl
change_linked text.Two earlier last (softneeds ns) = kept earlier last (record last { softneeds = last.softneeds ++ ns }) refl
change_linked text.Three earlier last (softneeds ns) = kept earlier last (record last { softneeds = last.softneeds ++ ns }) refl
change_linked v earlier last (param name kind) =
    elim (not (has_kind v kind) || list_any (λ p. bytes_eq name p.name) last.params) as (λ t. with_links (links_of (earlier ++ last ∷ [])) (cond t (Err bad) (Ok (record last { params = last.params ++ (defined v name kind ∷ []) })))
    ≡ linked earlier (cond t (Err bad) (Ok (record last { params = last.params ++ (defined v name kind ∷ []) })))) [
      | true ↦ refl
      | false ↦ kept earlier last (record last { params = last.params ++ (defined v name kind ∷ []) }) refl
    ]
change_linked v earlier last (end n) = refl
change_linked v earlier last permanent = kept earlier last (record last { permanent = true }) refl
