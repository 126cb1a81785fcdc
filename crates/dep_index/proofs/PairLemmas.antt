-- A hashed index of names answers as a walk over its pairs does.
use Rattle.std.proofs.Common.{◌≡◌, ℕ, suc, List, [], ◌∷◌, ◌++◌, Some, None, Result, Ok, cond, is_some, map, length, nat_lt, Vec, refl, sym, ap, ◌∙◌, arith}
use Rattle.std.proofs.lemmas.Bool.{ltb-false}
use Rattle.std.specs.declared.alloc.Global.{Global}
use Rattle.std.specs.Map.{lookup}
use Rattle.std.specs.Option.{option_map}
use Rattle.std.specs.Prelude.{Bool, true, false, Option}
use Rattle.std.specs.List.{list_any}
use Rattle.std.proofs.lemmas.List.{map-append}
use Rattle.std.proofs.lemmas.Map.Made.{is_some-lookup}
use Rattle.std.specs.HashMap.{HashMap}
use Rattle.indexmap.specs.IndexMap.{insert_entry}
use Rattle.indexmap.proofs.CallerLemmas.{insert_entry-new}
use Rattle.text_parts.specs.Text.{words, has_word, is_comment}
use Rattle.std.specs.Str.{bytes_eq}
use Rattle.dep_index.specs.Dependencies.{Pair, deps, is_empty, with_pair, dep_line, dep_words, dep_split, DepRefusal, at_colon, name_of, trim}
use Rattle.dep_index.specs.Dependencies.Pairs.{pair_of, pairs_in}
use Rattle.dep_index.proofs.DraftLemmas.{list_any-map, none_from}

abbrev Names : Type 0
Names = Vec (List ℕ) Global

items_if : (b : Bool) (v : Names) (o : Option Names) → option_map (λ (n : Names). n.items) (cond b (Some v) o) ≡ cond b (Some v.items) (option_map (λ (n : Names). n.items) o)
items_if true v o = refl
items_if false v o = refl

pub lookup-pairs : (name : List ℕ) (entries : List (Vec ℕ Global × Names)) → option_map (λ (n : Names). n.items) (lookup (λ (k : Vec ℕ Global). bytes_eq name k.items) entries) ≡ deps (map pair_of entries) name
lookup-pairs name [] = refl
lookup-pairs name (e ∷ es) =
    items_if (bytes_eq name e.0.items) e.1 (lookup (λ (k : Vec ℕ Global). bytes_eq name k.items) es)
    ∙ ap (λ o. cond (bytes_eq name e.0.items) (Some e.1.items) o) (lookup-pairs name es)

abbrev IsSame : Vec ℕ Global → Vec ℕ Global → Bool
IsSame a b = bytes_eq a.items b.items

-- the index has a name if a pair has
pub name_paired : (name : List ℕ) (entries : List (Vec ℕ Global × Names)) → is_some (lookup (λ (k : Vec ℕ Global). bytes_eq name k.items) entries) ≡ list_any (λ p. bytes_eq name p.0) (pairs_in entries)
name_paired name entries =
    is_some-lookup (λ (k : Vec ℕ Global). bytes_eq name k.items) entries
    ∙ list_any-map (λ (k : Vec ℕ Global). bytes_eq name k.items) (λ e. e.0) entries
    ∙ sym (list_any-map (λ (p : Pair). bytes_eq name p.0) pair_of entries)

-- a new name's line comes last
pub pair_added : {S : Type 0} (index : HashMap (Vec ℕ Global) Names S) (key : Vec ℕ Global) (names : Names) (entries : List (Vec ℕ Global × Names)) → is_empty key.items ≡ false → list_any is_empty names.items ≡ false
    → list_any (λ p. bytes_eq key.items p.0) (pairs_in index.entries) ≡ false → entries ≡ insert_entry IsSame index.entries key names
    → with_pair (pairs_in index.entries) (key.items, names.items) ≡ Ok (pairs_in entries)
pair_added index key names entries filled all_filled other after =
    let absent : lookup (λ (k : Vec ℕ Global). bytes_eq key.items k.items) index.entries ≡ None = none_from _ (name_paired key.items index.entries ∙ other) in
    let last : pairs_in entries ≡ pairs_in index.entries ++ (key.items, names.items) ∷ [] =
    ap pairs_in (after ∙ insert_entry-new IsSame index key names absent) ∙ map-append pair_of index.entries ((key, names) ∷ []) in
    rw (filled, all_filled, other) (ap Ok (sym last))

some_words : (pairs : List Pair) (line : List ℕ) (found : List (List ℕ)) → nat_lt 0 (length found) ≡ true → dep_words pairs line found ≡ dep_split pairs (at_colon line)
some_words pairs line [] some = absurd (cc)
some_words pairs line (w ∷ ws) some = refl

no_words : (pairs : List Pair) (line : List ℕ) (found : List (List ℕ)) → nat_lt 0 (length found) ≡ false → dep_words pairs line found ≡ Ok pairs
no_words pairs line [] none = refl
no_words pairs line (w ∷ ws) none = absurd (omega (arith, ltb-false 0 (suc (length ws)) none))

-- a line that says nothing
pub line_empty : (pairs : List Pair) (line : List ℕ) → has_word line ≡ false → dep_line pairs line ≡ Ok pairs
line_empty pairs line none =
    ap (λ r. cond (is_comment line) (Ok pairs) r) (no_words pairs line (words line) none)
    ∙ elim (is_comment line) as (λ t. (let read : Result (List Pair) DepRefusal = cond t (Ok pairs) (Ok pairs) in read) ≡ Ok pairs) [ true ↦ refl | false ↦ refl ]

-- what a line with words and a colon says
pub line_paired : (pairs : List Pair) (line path rest name : List ℕ) (names : List (List ℕ)) → is_comment line ≡ false → has_word line ≡ true → at_colon line ≡ Some (path, rest) → name ≡ name_of (trim path) → names ≡ map name_of (words rest) → dep_line pairs line ≡ with_pair pairs (name, names)
line_paired pairs line path rest name names plain some cut own others =
    ap (λ t. cond t (Ok pairs) (dep_words pairs line (words line))) plain
    ∙ some_words pairs line (words line) some
    ∙ ap (dep_split pairs) cut
    ∙ ap (λ n. with_pair pairs (n, map name_of (words rest))) (sym own)
    ∙ ap (λ ns. with_pair pairs (name, ns)) (sym others)
