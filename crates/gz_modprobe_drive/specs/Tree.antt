-- What was found of a folder of modules, and what is told of it.
use Rattle.std.specs.Prelude.{◌≡◌, ℕ, Bool, true, false, ◌&&◌, if◌then◌else◌, List, [], ◌++◌, codes}
use Rattle.modprobe_files.specs.Texts.{is_cut}
use Rattle.modprobe_files.specs.declared.texts.LaterTexts.{LaterTexts}
use Rattle.modprobe_files.specs.declared.texts.ModuleTexts.{ModuleTexts}
use Rattle.gz_modprobe_drive.specs.declared.tree.Found.{Found}
use Rattle.gz_modprobe_drive.specs.declared.tree.Found.TheVariants.{Whole, Cut, Missing, Unread}
use Rattle.gz_modprobe_drive.specs.declared.tree.Tree.{Tree}
use Rattle.gz_modprobe_drive.specs.Texts.{text_or_empty}

-- a text by which can be judged: it was read, and does not end within a line
abbrev pub is_sound : Found → Bool
is_sound Whole = true
is_sound Cut = false
is_sound Missing = false
is_sound Unread = false

-- all texts are such without which names are not found
abbrev pub is_whole : Tree → Bool
is_whole tree = is_sound tree.dep && is_sound tree.alias && is_sound tree.symbols && is_sound tree.builtin

-- what was found of a text, by what was read of it
abbrev pub found_by : List ℕ → Found
found_by text = if is_cut text then Cut else Whole

-- no text that was read of a folder of modules ends within a line
pub record AreUncut (modules : ModuleTexts) (later : LaterTexts) : Type 0 where
  pub dep : is_cut modules.dep.items ≡ false
  pub alias : is_cut (text_or_empty later.alias) ≡ false
  pub symbols : is_cut (text_or_empty later.symbols) ≡ false
  pub builtin : is_cut modules.builtin.items ≡ false

-- a line on standard error
abbrev pub notice : List ℕ → List ℕ → List ℕ → List ℕ
notice what path more = codes "gz-modprobe: NOTICE: " ++ what ++ path ++ more ++ codes "\n"

-- what is told of a text, by its path and who writes it; of one that could not be read that has been told
abbrev pub text_notice : List ℕ → List ℕ → Found → List ℕ
text_notice path who Whole = []
text_notice path who Cut = notice [] path (codes " ends within a line")
text_notice path who Missing = notice (codes "there is no file ") path who
text_notice path who Unread = []

abbrev pub by_depmod : List ℕ
by_depmod = codes ", which depmod(8) writes"

abbrev pub by_build : List ℕ
by_build = codes ", which the kernel's build writes"

-- what is told of each text of a folder
abbrev pub text_notices : Tree → List ℕ
text_notices tree =
    text_notice (tree.directory.now ++ codes "/" ++ codes "modules.dep") by_depmod tree.dep
    ++ text_notice (tree.directory.now ++ codes "/" ++ codes "modules.alias") by_depmod tree.alias
    ++ text_notice (tree.directory.now ++ codes "/" ++ codes "modules.symbols") by_depmod tree.symbols
    ++ text_notice (tree.directory.now ++ codes "/" ++ codes "modules.builtin") by_build tree.builtin

-- all that is told of a folder
abbrev pub notices_of : Tree → List ℕ
notices_of tree =
    if tree.is_there then text_notices tree else notice (codes "there is no folder ") tree.directory.now []
