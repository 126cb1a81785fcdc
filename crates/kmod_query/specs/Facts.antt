-- What a query asks of the machine: of the texts of a folder of modules and of a configuration, and of /sys/module.
use Rattle.std.specs.Prelude.{ℕ, Bool, List, Option, Some}
use Rattle.kmod_query.specs.declared.paths.AtPath.{AtPath}
use Rattle.kmod_query.specs.declared.states.ModuleStatus.{ModuleStatus}

-- A name that is asked for is in normal form. Modules that lines and files name stand as they were read, and so do words of
-- softdep lines.
pub record Facts : Type 0 where
  -- the normal form of a word, None if its brackets do not match
  pub normal : List ℕ → Option (List ℕ)
  -- the configuration's aliases that match a name: pattern and module (modprobe.d(5))
  pub configured : List ℕ → List (List ℕ × List ℕ)
  -- whether modules.dep has the module
  pub is_loadable : List ℕ → Bool
  -- the modules that export the symbol of a name `symbol:NAME`
  pub exporters : List ℕ → List (List ℕ)
  -- whether an install or a remove line has this very name
  pub is_commanded : List ℕ → Bool
  -- the modules of modules.alias whose pattern matches
  pub aliased : List ℕ → List (List ℕ)
  -- whether the module is built in
  pub is_builtin : List ℕ → Bool
  -- the built-in modules one of whose aliases matches
  pub builtin_aliased : List ℕ → List (List ℕ)
  -- the words before and after a module in its softdep line
  pub pre : List ℕ → List (List ℕ)
  pub post : List ℕ → List (List ℕ)
  -- the command of the first install line, and of the first remove line, whose name matches
  pub install : List ℕ → Option (List ℕ)
  pub remove : List ℕ → Option (List ℕ)
  -- the command of the first install line, and of the first remove line, that has this very name
  pub install_named : List ℕ → Option (List ℕ)
  pub remove_named : List ℕ → Option (List ℕ)
  -- the texts of the options lines of a module or of the alias by which it came
  pub options : List ℕ → Option (List ℕ) → List (List ℕ)
  pub is_blacklisted : List ℕ → Bool
  -- the file of a module, as it is printed
  pub path : List ℕ → Option (List ℕ)
  -- what a module needs, in the order in which it is loaded
  pub needs : List ℕ → List (List ℕ)
  -- what /sys/module says of a module
  pub status : List ℕ → Option ModuleStatus
  -- what stands at a word, if it is the path of a module's file
  pub at_path : List ℕ → Option AtPath
  -- a module, and the file that stands for the one of modules.dep
  pub own : Option (List ℕ × List ℕ)

-- the same, with this file for a module
abbrev pub with_own : Facts → List ℕ → List ℕ → Facts
with_own facts name file = record facts { own = Some (name, file) }
