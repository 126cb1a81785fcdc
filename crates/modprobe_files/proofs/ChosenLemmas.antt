-- What is printed of paths, and which files are read.
use Rattle.std.proofs.Common.{◌≡◌, ℕ, ◌+◌, ◌<◌, Bool, false, true≢false, List, [], ◌∷◌, ◌++◌, map, length, take, get_or, Option, Some, refl, sym, ◌∙◌, ap, subst, append_assoc, Bor}
use Rattle.std.specs.Prelude.{codes, unwrap_or, IfSome}
use Rattle.std.proofs.lemmas.List.{append-nil, map-append, take_more}
use Rattle.text_parts.specs.Text.{texts_of}
use Rattle.modprobe_files.specs.declared.files.File.{File as CodeFile}
use Rattle.modprobe_files.specs.declared.files.Source.{Source as CodeSource}
use Rattle.modprobe_files.specs.declared.texts.TextFile.{TextFile}
use Rattle.modprobe_files.specs.Chosen.{AreSomeOf, IsDirectory, IsPrinted, is_whole, left_out, paths_of_files, taken}
use Rattle.modprobe_files.specs.Files.{File, Source, file_of, files_of, path_of, source_of, sources_of}
use Rattle.modprobe_files.specs.Paths.{path_in}

-- ---- paths

-- a path below `/`
pub printed-at-root : (is_rooted : Bool) (path printed : List ℕ) → is_whole path ≡ false
    → printed ≡ codes "//" ++ path ++ [] → IsPrinted is_rooted path printed
printed-at-root is_rooted path printed h is =
    record {
      whole = λ t. absurd (true≢false (sym t ∙ h));
      below = λ f. (codes "/", is ∙ ap (λ l. codes "//" ++ l) (append-nil path), λ r. refl);
    }

-- below the folder of all releases
pub directory-is : (is_rooted : Bool) (directory release : Option (List ℕ)) (path parent own folder whole : List ℕ)
    → path ≡ unwrap_or directory [] → IsPrinted is_rooted path parent
    → folder ≡ parent ++ codes "/lib/modules" ++ [] → whole ≡ folder ++ codes "/" ++ own
    → ((asked : List ℕ) → release ≡ Some asked → own ≡ asked)
    → IsDirectory is_rooted directory release whole
directory-is is_rooted directory release path parent own folder whole at p is all asked = (
  parent,
  own,
  all ∙ ap (λ l. (l ++ codes "/") ++ own) (is ∙ append-nil (parent ++ codes "/lib/modules"))
      ∙ ap (λ l. l ++ own) (append_assoc parent (codes "/lib/modules") (codes "/")),
  subst (λ l. IsPrinted is_rooted l parent) at p,
  asked,
)

-- ---- some of a list

same_some : (some other all more : List (List ℕ)) → some ≡ other → all ≡ more → AreSomeOf other more → AreSomeOf some all
same_some some other all more e f h = subst (λ l. AreSomeOf l all) (sym e) (subst (λ l. AreSomeOf other l) (sym f) h)

paths-more : (files : List CodeFile) (file : CodeFile)
    → paths_of_files (files_of (files ++ file ∷ [])) ≡ paths_of_files (files_of files) ++ file.path.items ∷ []
paths-more files file = ap paths_of_files (map-append file_of files (file ∷ [])) ∙ map-append (λ (f : File). f.path) (files_of files) (file_of file ∷ [])

-- a file more that is read
pub read-more : (texts : List TextFile) (files : List CodeFile) (text : TextFile) (file : CodeFile) → text.path.items ≡ file.path.items
    → AreSomeOf (map path_in texts) (paths_of_files (files_of files))
    → AreSomeOf (map path_in (texts ++ text ∷ [])) (paths_of_files (files_of (files ++ file ∷ [])))
read-more texts files text file same h =
    same_some _ _ _ _
    (map-append path_in texts (text ∷ []) ∙ ap (λ p. map path_in texts ++ p ∷ []) same)
    (paths-more files file)
    (taken (map path_in texts) (paths_of_files (files_of files)) file.path.items h)

-- one that is not
pub unread-more : (texts : List TextFile) (files : List CodeFile) (file : CodeFile)
    → AreSomeOf (map path_in texts) (paths_of_files (files_of files))
    → AreSomeOf (map path_in texts) (paths_of_files (files_of (files ++ file ∷ [])))
unread-more texts files file h =
    same_some _ _ _ _ refl (paths-more files file) (left_out (map path_in texts) (paths_of_files (files_of files)) file.path.items h)

paths-next : (paths : List (Bor (List ℕ))) (i : ℕ) (other : Bor (List ℕ)) → i < length paths
    → texts_of (take (i + 1) paths) ≡ texts_of (take i paths) ++ (get_or paths i other).now ∷ []
paths-next paths i other within =
    ap texts_of (take_more paths i other within) ∙ map-append (λ (t : Bor (List ℕ)). t.now) (take i paths) (get_or paths i other ∷ [])

-- what stands at some of the paths, behind other sources
abbrev pub AreFound : List Source → List (Bor (List ℕ)) → List CodeSource → Type 0
AreFound own paths sources = (found : List Source) × (sources_of sources ≡ own ++ found) × AreSomeOf (map path_of found) (texts_of paths)

-- a path more where a source is
pub found-more : (own : List Source) (paths : List (Bor (List ℕ))) (i : ℕ) (other : Bor (List ℕ)) (sources : List CodeSource) (source : CodeSource)
    → i < length paths → path_of (source_of source) ≡ (get_or paths i other).now
    → AreFound own (take i paths) sources → AreFound own (take (i + 1) paths) (sources ++ source ∷ [])
found-more own paths i other sources source within same f = (
  f.0 ++ source_of source ∷ [],
  map-append source_of sources (source ∷ []) ∙ ap (λ l. l ++ source_of source ∷ []) f.1 ∙ append_assoc own f.0 (source_of source ∷ []),
  same_some _ _ _ _
      (map-append path_of f.0 (source_of source ∷ []) ∙ ap (λ p. map path_of f.0 ++ p ∷ []) same)
      (paths-next paths i other within)
      (taken (map path_of f.0) (texts_of (take i paths)) (get_or paths i other).now f.2),
)

-- one where none is
pub unfound-more : (own : List Source) (paths : List (Bor (List ℕ))) (i : ℕ) (other : Bor (List ℕ)) (sources : List CodeSource)
    → i < length paths → AreFound own (take i paths) sources → AreFound own (take (i + 1) paths) sources
unfound-more own paths i other sources within f = (
  f.0,
  f.1,
  same_some _ _ _ _ refl (paths-next paths i other within)
      (left_out (map path_of f.0) (texts_of (take i paths)) (get_or paths i other).now f.2),
)

-- a fact of the value that is there
pub IfSome-at : {X : Type 0} (P : X → Type 0) (found : Option X) (x : X) → found ≡ Some x → IfSome found P → P x
IfSome-at P found x is h = subst (λ o. IfSome o P) is h
