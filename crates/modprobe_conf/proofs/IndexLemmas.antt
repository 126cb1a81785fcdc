-- A hashed index of settings answers as a walk over its pairs does.
use Rattle.std.proofs.Common.{◌≡◌, ℕ, List, [], ◌∷◌, Bool, true, false, cond, map, Option, Some, None, Vec, MatchOption, Result, Ok, Err, OnOk, refl, sym, ◌∙◌, ap}
use Rattle.std.specs.Global.{Global}
use Rattle.std.specs.Borrow.{Bor}
use Rattle.std.specs.declared.alloc.AllocError.{AllocError}
use Rattle.std.specs.Option.{unwrap_or, option_copied}
use Rattle.std.specs.Str.{bytes_eq}
use Rattle.std.specs.Map.{lookup}
use Rattle.indexmap.specs.IndexMap.{insert_entry}
use Rattle.modprobe_conf.specs.Configuration.{ModuleSettings, Line, settings_by, settings_in, with_line, with_named}

abbrev pub Pair : Type 0
Pair = Vec ℕ Global × ModuleSettings

abbrev pub pair_of : Pair → List ℕ × ModuleSettings
pair_of entry = (entry.0.items, entry.1)

pub settings_in-pairs : (entries : List Pair) (name : List ℕ) → settings_in (map pair_of entries) name ≡ unwrap_or (lookup (λ k. bytes_eq name k.items) entries) (settings_by [])
settings_in-pairs [] name = refl
settings_in-pairs (entry ∷ entries) name = next (bytes_eq name entry.0.items) (settings_in-pairs entries name)
  where
    next : (is_own : Bool) → settings_in (map pair_of entries) name ≡ unwrap_or (lookup (λ k. bytes_eq name k.items) entries) (settings_by []) → cond is_own entry.1 (settings_in (map pair_of entries) name) ≡ unwrap_or (cond is_own (Some entry.1) (lookup (λ k. bytes_eq name k.items) entries)) (settings_by [])
    next true h = refl
    next false h = h

-- what a look-up by a name found
pub found_settings : (found : Option (Bor ModuleSettings)) (entries : List Pair) (name : List ℕ) → option_copied found ≡ lookup (λ k. bytes_eq name k.items) entries → MatchOption found (settings_in (map pair_of entries) name ≡ settings_by []) (λ settings. settings_in (map pair_of entries) name ≡ settings.now)
found_settings None entries name h = settings_in-pairs entries name ∙ ap (λ o. unwrap_or o (settings_by [])) (sym h)
found_settings (Some settings) entries name h = settings_in-pairs entries name ∙ ap (λ o. unwrap_or o (settings_by [])) (sym h)

pub with_named-pairs : (entries : List Pair) (key : Vec ℕ Global) (line : Line) → map pair_of (insert_entry (λ a b. bytes_eq a.items b.items) entries key (with_line (unwrap_or (lookup (λ k. bytes_eq key.items k.items) entries) (settings_by [])) line)) ≡ with_named (map pair_of entries) key.items line
with_named-pairs [] key line = refl
with_named-pairs (entry ∷ entries) key line = next (bytes_eq key.items entry.0.items) (with_named-pairs entries key line)
  where
    next : (is_own : Bool)
        → map pair_of (insert_entry (λ a b. bytes_eq a.items b.items) entries key (with_line (unwrap_or (lookup (λ k. bytes_eq key.items k.items) entries) (settings_by [])) line)) ≡ with_named (map pair_of entries) key.items line
        → map pair_of (cond is_own ((entry.0, with_line (unwrap_or (cond is_own (Some entry.1) (lookup (λ k. bytes_eq key.items k.items) entries)) (settings_by [])) line) ∷ entries) (entry ∷ insert_entry (λ a b. bytes_eq a.items b.items) entries key (with_line (unwrap_or (cond is_own (Some entry.1) (lookup (λ k. bytes_eq key.items k.items) entries)) (settings_by [])) line)))
        ≡ cond is_own ((entry.0.items, with_line entry.1 line) ∷ map pair_of entries) (pair_of entry ∷ with_named (map pair_of entries) key.items line)
    next true h = refl
    next false h = ap (λ l. pair_of entry ∷ l) h

-- the settings of a name took a line, and stand in the map again
pub index_added : (result : Result (Unit {0}) AllocError) (grown entries : List Pair) (key : Vec ℕ Global) (name : List ℕ) (line : Line) (was is : ModuleSettings)
    → OnOk result (is ≡ with_line was line)
    → was ≡ unwrap_or (lookup (λ k. bytes_eq key.items k.items) entries) (settings_by [])
    → key.items ≡ name
    → grown ≡ insert_entry (λ a b. bytes_eq a.items b.items) entries key is
    → OnOk result (map pair_of grown ≡ with_named (map pair_of entries) name line)
index_added (Err e) grown entries key name line was is added found named put = tt
index_added (Ok x) grown entries key name line was is added found named put =
    ap (map pair_of) put
    ∙ ap (λ s. map pair_of (insert_entry (λ a b. bytes_eq a.items b.items) entries key s)) (added ∙ ap (λ s. with_line s line) found)
    ∙ with_named-pairs entries key line
    ∙ ap (λ n. with_named (map pair_of entries) n line) named
