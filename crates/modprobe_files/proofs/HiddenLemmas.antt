-- A file that stands behind one of its name has no influence.
use Rattle.std.proofs.Common.{◌≡◌, ℕ, Bool, true, false, true≢false, cond, ◌&&◌, ◌||◌, List, [], ◌∷◌, ◌++◌, map, fold, take, drop, refl, sym, ◌∙◌, ap, append_assoc, take-append-drop}
use Rattle.std.specs.Prelude.{filter, insert}
use Rattle.std.specs.List.{flat_map, list_any, position_or_len}
use Rattle.std.proofs.lemmas.Grind.{flat_map-append}
use Rattle.std.proofs.lemmas.List.{map-append}
use Rattle.std.proofs.lemmas.List.Elements.{filter-append}
use Rattle.std.proofs.lemmas.List.Folds.{list_any-append}
use Rattle.std.proofs.lemmas.List.Sums.{fold-append}
use Rattle.std.proofs.lemmas.Slice.Eq.{bytes_eq-Decides}
use Rattle.kmod_version.specs.declared.kmod.Kmod.{Kmod}
use Rattle.modprobe_files.specs.Files.{File, Name, Source, candidates, counted, counted_files, file_in, folder, has_name, in_order, is_before, is_counted, is_file, is_named, is_read, with_file}

-- ---- lists

or-last : (a : Bool) → (a || true) ≡ true
or-last true = refl
or-last false = refl

or-between : (a b c : Bool) → (a || c) ≡ true → (a || (b || c)) ≡ true
or-between true b c h = refl
or-between false true c h = refl
or-between false false c h = h

any-new : {X : Type 0} (p : X → Bool) (xs : List X) (i : ℕ) (x : X) → p x ≡ true → list_any p (insert xs i x) ≡ true
any-new p xs i x h =
    list_any-append p (take i xs) (x ∷ drop i xs)
    ∙ ap (λ b. list_any p (take i xs) || (b || list_any p (drop i xs))) h
    ∙ or-last (list_any p (take i xs))

any-old : {X : Type 0} (p : X → Bool) (xs : List X) (i : ℕ) (x : X) → list_any p xs ≡ true → list_any p (insert xs i x) ≡ true
any-old p xs i x h =
    list_any-append p (take i xs) (x ∷ drop i xs)
    ∙ or-between (list_any p (take i xs)) (p x) (list_any p (drop i xs))
    (sym (list_any-append p (take i xs) (drop i xs)) ∙ ap (list_any p) (take-append-drop i xs) ∙ h)

-- ---- names

abbrev place : List File → File → ℕ
place files file = position_or_len (λ other. is_before file.name other.name) files

-- a name that is there stays
kept : (files : List File) (file : File) (name : List ℕ) → has_name files name ≡ true → has_name (with_file files file) name ≡ true
kept files file name h = at (has_name files file.name)
  where
    at : (b : Bool) → has_name (cond b files (in_order files file)) name ≡ true
    at true = h
    at false = any-old (is_named name) files (place files file) file h

-- the name of a file that was added is there
added : (files : List File) (file : File) → has_name (with_file files file) file.name ≡ true
added files file = at (has_name files file.name) refl
  where
    at : (b : Bool) → has_name files file.name ≡ b → has_name (cond b files (in_order files file)) file.name ≡ true
    at true h = h
    at false h = any-new (is_named file.name) files (place files file) file ((bytes_eq-Decides file.name file.name).1 refl)

all_kept : (files later : List File) (name : List ℕ) → has_name files name ≡ true → has_name (fold with_file files later) name ≡ true
all_kept files [] name h = h
all_kept files (file ∷ later) name h = all_kept (with_file files file) later name (kept files file name h)

-- a name that one of the files has is there, once all are added
all_added : (files later : List File) (name : List ℕ) → has_name later name ≡ true → has_name (fold with_file files later) name ≡ true
all_added files [] name h = absurd (true≢false (sym h))
all_added files (file ∷ later) name h = at (is_named name file) refl h (all_added (with_file files file) later name)
  where
    at : (b : Bool) → is_named name file ≡ b → (b || has_name later name) ≡ true
        → (has_name later name ≡ true → has_name (fold with_file (with_file files file) later) name ≡ true)
        → has_name (fold with_file (with_file files file) later) name ≡ true
    at true is k go =
        all_kept (with_file files file) later name
        (sym (ap (has_name (with_file files file)) ((bytes_eq-Decides file.name name).0 is)) ∙ added files file)
    at false is k go = go k

-- ---- the law

pub hidden-file : (before after : List File) (file : File) → has_name before file.name ≡ true → counted (before ++ file ∷ after) ≡ counted (before ++ after)
hidden-file before after file h =
    fold-append with_file [] before (file ∷ after)
    ∙ ap (λ files. fold with_file files after) same
    ∙ sym (fold-append with_file [] before after)
  where
    same : with_file (counted before) file ≡ counted before
    same = ap (λ b. cond b (counted before) (in_order (counted before) file)) (all_added [] before file.name h)

-- the files of a folder's names
abbrev files_in : Kmod → List ℕ → List Name → List File
files_in kmod path names = map (file_in path) (filter (is_counted kmod) names)

files_in-append : (kmod : Kmod) (path : List ℕ) (names others : List Name) → files_in kmod path (names ++ others) ≡ files_in kmod path names ++ files_in kmod path others
files_in-append kmod path names others =
    ap (map (file_in path)) (filter-append (is_counted kmod) names others) ∙ map-append (file_in path) (filter (is_counted kmod) names) (filter (is_counted kmod) others)

regroup : (before names some after : List File) → before ++ ((names ++ some) ++ after) ≡ (before ++ names) ++ (some ++ after)
regroup before names some after = ap (λ l. before ++ l) (append_assoc names some after) ∙ sym (append_assoc before names (some ++ after))

-- what counts of a folder between other sources, by the files that it adds
counted-folder : (kmod : Kmod) (before after : List Source) (path : List ℕ) (names others : List Name)
    → counted_files kmod (before ++ folder path (names ++ others) ∷ after)
    ≡ counted ((flat_map (candidates kmod) before ++ files_in kmod path names) ++ (files_in kmod path others ++ flat_map (candidates kmod) after))
counted-folder kmod before after path names others =
    ap counted (flat_map-append (candidates kmod) before (folder path (names ++ others) ∷ after))
    ∙ ap (λ files. counted (flat_map (candidates kmod) before ++ (files ++ flat_map (candidates kmod) after))) (files_in-append kmod path names others)
    ∙ ap counted (regroup (flat_map (candidates kmod) before) (files_in kmod path names) (files_in kmod path others) (flat_map (candidates kmod) after))

pub hidden-name : (kmod : Kmod) (before after : List Source) (path : List ℕ) (name : Name) (names others : List Name)
    → has_name (flat_map (candidates kmod) before) name.text ≡ true
    → counted_files kmod (before ++ folder path (names ++ name ∷ others) ∷ after) ≡ counted_files kmod (before ++ folder path (names ++ others) ∷ after)
hidden-name kmod before after path name names others h =
    counted-folder kmod before after path names (name ∷ others) ∙ at (is_counted kmod name) ∙ sym (counted-folder kmod before after path names others)
  where
    earlier : List File
    earlier = flat_map (candidates kmod) before ++ files_in kmod path names

    is_there : has_name earlier name.text ≡ true
    is_there =
        list_any-append (is_named name.text) (flat_map (candidates kmod) before) (files_in kmod path names)
        ∙ ap (λ b. b || has_name (files_in kmod path names) name.text) h

    at : (b : Bool)
        → counted (earlier ++ (map (file_in path) (cond b (name ∷ filter (is_counted kmod) others) (filter (is_counted kmod) others)) ++ flat_map (candidates kmod) after))
        ≡ counted (earlier ++ (files_in kmod path others ++ flat_map (candidates kmod) after))
    at true = hidden-file earlier (files_in kmod path others ++ flat_map (candidates kmod) after) (file_in path name) is_there
    at false = refl

-- a name of a folder that is none of a file has no influence
pub no-file : (kmod : Kmod) (before after : List Source) (path : List ℕ) (name : Name) (names others : List Name)
    → is_file kmod name.leads_to ≡ false
    → counted_files kmod (before ++ folder path (names ++ name ∷ others) ∷ after) ≡ counted_files kmod (before ++ folder path (names ++ others) ∷ after)
no-file kmod before after path name names others h =
    counted-folder kmod before after path names (name ∷ others)
    ∙ ap (λ left. counted ((flat_map (candidates kmod) before ++ files_in kmod path names) ++ (map (file_in path) left ++ flat_map (candidates kmod) after))) passed
    ∙ sym (counted-folder kmod before after path names others)
  where
    and-last : (a : Bool) → (a && false) ≡ false
    and-last true = refl
    and-last false = refl

    passed : filter (is_counted kmod) (name ∷ others) ≡ filter (is_counted kmod) others
    passed =
        ap (λ b. cond b (name ∷ filter (is_counted kmod) others) (filter (is_counted kmod) others))
        (ap (λ b. is_read kmod name.text && b) h ∙ and-last (is_read kmod name.text))
