-- What the texts of a machine say.
use Rattle.std.specs.Prelude.{◌≡◌, ℕ, ◌+◌, List, [], ◌∷◌, length, map, Option, Some, None, option_map, Vec}
use Rattle.std.specs.Global.{Global}
use Rattle.kmod_version.specs.declared.kmod.Kmod.{Kmod}
use Rattle.kmod_conf.specs.CommandLine.{conf_with_command_line}
use Rattle.kmod_conf.specs.Configuration.{Configuration, conf_with_text, no_lines}
use Rattle.kmod_index.specs.Index.{Texts, indexes_of}
use Rattle.kmod_index.specs.Indexes.{Indexes}
use Rattle.modprobe_files.specs.declared.texts.TextFile.{TextFile}
use Rattle.modprobe_files.specs.declared.texts.ConfTexts.{ConfTexts}
use Rattle.modprobe_files.specs.declared.texts.LaterTexts.{LaterTexts}
use Rattle.modprobe_files.specs.declared.texts.ModuleTexts.{ModuleTexts}

abbrev pub text_in : TextFile → List ℕ
text_in file = file.text.items

abbrev pub texts_in : List TextFile → List (List ℕ)
texts_in files = map text_in files

-- files after what is there, each with its number
abbrev pub conf_from : Kmod → ℕ → Configuration → List (List ℕ) → Configuration
conf_from kmod source conf [] = conf
conf_from kmod source conf (text ∷ texts) = conf_from kmod (source + 1) (conf_with_text kmod conf source text) texts

-- the kernel's command line, if there is one, after what is there
unfoldable pub with_command_line : Configuration → ℕ → Option (List ℕ) → Configuration
with_command_line conf source None = conf
with_command_line conf source (Some text) = conf_with_command_line conf source text

-- what the files say, and then the kernel's command line, after what is there
unfoldable pub with_texts : Configuration → ConfTexts → Configuration
with_texts conf texts =
    with_command_line (conf_from texts.kmod 0 conf (texts_in texts.files.items)) (length texts.files.items)
    (option_map (λ text. text.items) texts.command_line)

-- the configuration
unfoldable pub conf_of : ConfTexts → Configuration
conf_of texts = with_texts no_lines texts

-- a configuration is what these texts say
pub record IsConfOf (texts : ConfTexts) (conf : Configuration) : Type 0 where
  pub is : conf ≡ conf_of texts

-- a text, if it was read
abbrev pub read_text : Option (Vec ℕ Global) → Option (List ℕ)
read_text text = option_map (λ text. text.items) text

abbrev pub or_empty : Option (List ℕ) → List ℕ
or_empty None = []
or_empty (Some text) = text

abbrev pub text_or_empty : Option (Vec ℕ Global) → List ℕ
text_or_empty text = or_empty (read_text text)

-- what was read of modules.alias and modules.symbols
pub record Large : Type 0 where
  pub alias : Option (List ℕ)
  pub symbols : Option (List ℕ)

abbrev pub large_texts : LaterTexts → Large
large_texts later = record { alias = read_text later.alias; symbols = read_text later.symbols }

-- the texts of a folder of modules, empty if they were not read
abbrev pub texts_with : ModuleTexts → Large → Texts
texts_with texts large =
    record {
      dep = texts.dep.items;
      alias = or_empty large.alias;
      symbols = or_empty large.symbols;
      builtin = texts.builtin.items;
      builtin_modinfo = texts.builtin_modinfo.items;
    }

abbrev pub folder_texts : ModuleTexts → LaterTexts → Texts
folder_texts texts later = texts_with texts (large_texts later)

-- what the texts of a folder of modules say, as far as they were read
abbrev pub index_of : ModuleTexts → LaterTexts → Indexes
index_of texts later = indexes_of (folder_texts texts later)

-- a text, if it was read, is this one
abbrev pub IsThis : Option (List ℕ) → List ℕ → Type 0
IsThis None whole = Unit {0}
IsThis (Some text) whole = whole ≡ text

-- all texts of a folder, of which these were read
pub record AreRead (texts : ModuleTexts) (large : Large) (whole : Texts) : Type 0 where
  pub dep : whole.dep ≡ texts.dep.items
  pub builtin : whole.builtin ≡ texts.builtin.items
  pub builtin_modinfo : whole.builtin_modinfo ≡ texts.builtin_modinfo.items
  pub alias : IsThis large.alias whole.alias
  pub symbols : IsThis large.symbols whole.symbols
