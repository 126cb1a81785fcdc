-- What a lint of a machine's configuration finds.
use Rattle.std.specs.Prelude.{◌≡◌, ℕ, Bool, true, false, if◌then◌else◌, List, [], ◌++◌, length, map, Option, IsPermutation, IsSome}
use Rattle.std.specs.List.{list_any}
use Rattle.kmod_version.specs.declared.kmod.Kmod.{Kmod}
use Rattle.machine_lint.specs.declared.known.Known.{Known}
use Rattle.machine_lint.specs.declared.known.Origin.{Origin}
use Rattle.machine_lint.specs.declared.known.Origin.TheVariants.{Own, Package, Depmod}
use Rattle.machine_lint.specs.declared.note.Note.{Note}
use Rattle.machine_lint.specs.Notes.{notes_of}
use Rattle.machine_lint.specs.Unchecked.{unchecked}
use Rattle.modprobe_files.specs.declared.texts.TextFile.{TextFile}
use Rattle.modprobe_files.specs.declared.texts.ConfTexts.{ConfTexts}
use Rattle.modprobe_files.specs.declared.texts.LaterTexts.{LaterTexts}
use Rattle.modprobe_files.specs.declared.texts.ModuleTexts.{ModuleTexts}
use Rattle.answer_facts.specs.declared.fact.Fact.{Fact}
use Rattle.lint_ignores.specs.declared.ignore.Ignore.{Ignore}
use Rattle.lint_ignores.specs.Ignores.{left_notes}
use Rattle.modprobe_files.specs.Beside.{is_of_folder}
use Rattle.modprobe_files.specs.Paths.{paths_of}
use Rattle.gz_modprobe_drive.specs.Absences.{certain_notes}
use Rattle.gz_modprobe_drive.specs.Counted.{is_counted}
use Rattle.gz_modprobe_drive.specs.Ignored.{ignores_of, unknown_of}
use Rattle.gz_modprobe_drive.specs.Masks.{hidden_notes}
use Rattle.gz_modprobe_drive.specs.Origins.{is_of_package}
use Rattle.gz_modprobe_drive.specs.Texts.{conf_of, index_of}
use Rattle.gz_modprobe_drive.specs.Tree.{AreUncut}

-- depmod(8) writes files into the folder of modules, and packages into folders of their own
abbrev pub origin_by : List ℕ → List ℕ → Origin
origin_by directory path = if is_of_folder directory path then Depmod else (if is_of_package path then Package else Own)

abbrev pub origin_of : List ℕ → TextFile → Origin
origin_of directory file = origin_by directory file.path.items

-- who wrote the files of a configuration
abbrev pub origins_of : List ℕ → List TextFile → List Origin
origins_of directory files = map (origin_of directory) files

-- without a fact nothing is written
abbrev pub IsSilent : List Fact → Option (List ℕ) → Option (List ℕ) → Type 0
IsSilent facts before after = facts ≡ [] → after ≡ before

-- What a lint tells of the lines of a configuration: each note of a line, as far as it holds whatever texts lack, and each comment
-- that names what is no kind, if no ignore names it; each once, in some order.
pub record AreTold (whole : Bool) (texts : ConfTexts) (known : Known) (ignores : List Ignore) (notes : List Note) : Type 0 where
  pub all : List Note
  pub noted : IsPermutation (notes_of known) all
  pub left : IsPermutation (left_notes (paths_of texts) ignores (certain_notes whole all ++ unknown_of texts.files.items)) notes

-- Nothing was found that counts: no note that is told, and no hidden file. If there is no note at all, nothing was written.
pub record FoundNothing (whole strict : Bool) (texts : ConfTexts) (known : Known) (ignores : List Ignore) (before after : Option (List ℕ)) : Type 0 where
  pub notes : List Note
  pub told : AreTold whole texts known ignores notes
  pub none : list_any (is_counted strict) notes ≡ false
  pub read : hidden_notes texts ignores ≡ []
  pub kept : notes ≡ [] → after ≡ before

-- What is known of a machine is what its texts say, all of which were read, and who wrote the files of its configuration.
pub record IsOfTexts (texts : ConfTexts) (modules : ModuleTexts) (later : LaterTexts) (directory : List ℕ) (known : Known) : Type 0 where
  pub conf : known.conf.now ≡ conf_of texts
  pub index : known.index.now ≡ index_of modules later
  pub files : known.files.now ≡ origins_of directory texts.files.items
  pub alias : IsSome later.alias
  pub symbols : IsSome later.symbols

-- nothing was found in what texts say that counts, but for what they and files of ignores say; of so many lines it was not checked
-- what they set
pub record IsUnnoted (whole strict : Bool) (count : ℕ) (texts : ConfTexts) (modules : ModuleTexts) (later : LaterTexts) (before after : Option (List ℕ)) : Type 0 where
  pub directory : List ℕ
  pub known : Known
  pub files : List (List ℕ)
  pub ignores : List Ignore
  pub is : IsOfTexts texts modules later directory known
  pub ignored : ignores ≡ ignores_of texts files
  pub nothing : FoundNothing whole strict texts known ignores before after
  pub checked : count ≡ length (unchecked known)

-- A lint has found nothing that counts: of a machine whose configuration is what texts say to this version of kmod, and whose
-- texts of modules do not end within a line, each note that no comment and no file of ignores names is one that does not count;
-- the parameters of each line were checked; no file of it is hidden unless it is masked or ignored; and if there is no such
-- note, nothing was written to standard output.
pub record WasLinted (kmod : Kmod) (strict : Bool) (before after : Option (List ℕ)) : Type 0 where
  pub texts : ConfTexts
  pub modules : ModuleTexts
  pub later : LaterTexts
  pub directory : List ℕ
  pub known : Known
  pub files : List (List ℕ)
  pub ignores : List Ignore
  pub version : texts.kmod ≡ kmod
  pub is : IsOfTexts texts modules later directory known
  pub uncut : AreUncut modules later
  pub ignored : ignores ≡ ignores_of texts files
  pub nothing : FoundNothing true strict texts known ignores before after
  pub checked : unchecked known ≡ []
