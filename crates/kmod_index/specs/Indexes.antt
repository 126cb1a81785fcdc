-- All that the texts of a folder of modules say.
use Rattle.std.specs.Prelude.{ℕ, List}
use Rattle.kmod_index.specs.Dependencies.{Dependencies}
use Rattle.kmod_index.specs.Lines.{Keyed}

-- the lines of modules.dep, modules.alias and modules.symbols, the names of the built-in modules, and their aliases
pub record Indexes : Type 0 where
  pub dependencies : List Dependencies
  pub aliases : List Keyed
  pub symbols : List Keyed
  pub builtin_names : List (List ℕ)
  pub builtin_aliases : List Keyed
