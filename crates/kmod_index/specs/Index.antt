-- What the texts of a folder of modules say.
use Rattle.std.specs.Prelude.{ℕ, List}
use Rattle.kmod_index.specs.declared.index.IndexTexts.{IndexTexts}
use Rattle.kmod_index.specs.Aliases.{aliases_of}
use Rattle.kmod_index.specs.Builtins.{builtin_aliases, builtin_names}
use Rattle.kmod_index.specs.Indexes.{Indexes}
use Rattle.kmod_index.specs.Dependencies.{dependencies_of}
use Rattle.kmod_index.specs.Lines.{keyed_lines}

-- the texts themselves
pub record Texts : Type 0 where
  pub dep : List ℕ
  pub alias : List ℕ
  pub symbols : List ℕ
  pub builtin : List ℕ
  pub builtin_modinfo : List ℕ

abbrev pub texts_in : IndexTexts → Texts
texts_in own =
    record {
      dep = own.dep.now;
      alias = own.alias.now;
      symbols = own.symbols.now;
      builtin = own.builtin.now;
      builtin_modinfo = own.builtin_modinfo.now;
    }

-- what all the texts say
unfoldable pub indexes_of : Texts → Indexes
indexes_of texts =
    record {
      dependencies = dependencies_of texts.dep;
      aliases = aliases_of texts.alias;
      symbols = keyed_lines texts.symbols;
      builtin_names = builtin_names texts.builtin;
      builtin_aliases = builtin_aliases texts.builtin_modinfo;
    }
