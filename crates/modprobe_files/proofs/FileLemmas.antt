-- Lists of files, as the code has them and as contracts see them.
use Rattle.std.proofs.Common.{◌≡◌, ℕ, ◌≤◌, ◌+◌, Bool, true, false, cond, not, List, [], ◌∷◌, ◌++◌, map, length, take, drop, Option, Some, None, refl, sym, ◌∙◌, ap, arith, ltb, ◌||◌, unwrap_or}
use Rattle.std.proofs.lemmas.Bool.{ltb-false}
use Rattle.modprobe_files.specs.declared.files.File.{File as CodeFile}
use Rattle.modprobe_files.specs.Files.{file_of, files_of, has_name, in_order, is_before, with_file}
use Rattle.std.specs.Prelude.{insert}
use Rattle.std.specs.List.{list_any, position_or_len, prefix_len}
use Rattle.std.proofs.lemmas.List.{take-map, drop-map, map-append}
use Rattle.std.proofs.lemmas.List.Sums.{prefix_len-le-length}

pub list_any-map : {X Y : Type 0} (p : Y → Bool) (f : X → Y) (xs : List X) → list_any p (map f xs) ≡ list_any (λ x. p (f x)) xs
list_any-map p f [] = refl
list_any-map p f (x ∷ xs) = ap (λ b. p (f x) || b) (list_any-map p f xs)

pub prefix_len-map : {X Y : Type 0} (p : Y → Bool) (f : X → Y) (xs : List X) → prefix_len p (map f xs) ≡ prefix_len (λ x. p (f x)) xs
prefix_len-map p f [] = refl
prefix_len-map p f (x ∷ xs) = ap (λ n. cond (p (f x)) (1 + n) 0) (prefix_len-map p f xs)

pub map-insert : {X Y : Type 0} (f : X → Y) (xs : List X) (i : ℕ) (x : X) → map f (insert xs i x) ≡ insert (map f xs) i (f x)
map-insert f xs i x =
    map-append f (take i xs) (x ∷ drop i xs)
    ∙ ap (λ l. l ++ f x ∷ map f (drop i xs)) (sym (take-map f i xs))
    ∙ ap (λ l. take i (map f xs) ++ f x ∷ l) (sym (drop-map f i xs))

pub place_of-position : {X Y : Type 0} (p : Y → Bool) (f : X → Y) (xs : List X) (r : Option ℕ)
    → r ≡ cond (ltb (position_or_len (λ x. p (f x)) xs) (length xs)) (Some (position_or_len (λ x. p (f x)) xs)) None
    → unwrap_or r (length xs) ≡ position_or_len p (map f xs)
place_of-position p f xs r e =
    ap (λ o. unwrap_or o (length xs)) e
    ∙ found (ltb (position_or_len (λ x. p (f x)) xs) (length xs)) refl
    ∙ sym (prefix_len-map (λ y. not (p y)) f xs)
  where
    found : (b : Bool) → ltb (position_or_len (λ x. p (f x)) xs) (length xs) ≡ b → unwrap_or (cond b (Some (position_or_len (λ x. p (f x)) xs)) None) (length xs) ≡ position_or_len (λ x. p (f x)) xs
    found true h = refl
    found false h =
        let most : prefix_len (λ x. not (p (f x))) xs ≤ length xs = prefix_len-le-length (λ x. not (p (f x))) xs in
        let least : length xs ≤ position_or_len (λ x. p (f x)) xs = ltb-false (position_or_len (λ x. p (f x)) xs) (length xs) h in
        omega arith

-- a file of a new name stands at its place
pub with_file-new : (files new : List CodeFile) (file : CodeFile) (at : ℕ) (has : Bool)
    → has ≡ has_name (files_of files) file.name.items → has ≡ false
    → at ≡ position_or_len (λ other. is_before file.name.items other.name) (files_of files)
    → new ≡ insert files at file
    → files_of new ≡ with_file (files_of files) (file_of file)
with_file-new files new file at has e absent here is =
    ap files_of is ∙ map-insert file_of files at file
    ∙ ap (λ i. insert (files_of files) i (file_of file)) here
    ∙ sym (ap (λ b. cond b (files_of files) (in_order (files_of files) (file_of file))) (sym e ∙ absent))

pub with_file-known : (files : List CodeFile) (file : CodeFile) (has : Bool)
    → has ≡ has_name (files_of files) file.name.items → has ≡ true
    → files_of files ≡ with_file (files_of files) (file_of file)
with_file-known files file has e present =
    sym (ap (λ b. cond b (files_of files) (in_order (files_of files) (file_of file))) (sym e ∙ present))
