-- What a session knows besides its table.
use Rattle.std.specs.Prelude.{ℕ, List}
use Rattle.dep_index.specs.Catalogue.{Description, description_at}
use Rattle.dep_index.specs.Dependencies.{Pair}
use Rattle.alias_match.specs.declared.alias.Alias.{Alias}
use Rattle.alias_match.specs.Aliases.{Entries}
use Rattle.modprobe_conf.specs.Configuration.{Configuration}

-- the catalogue, and what the texts of modules.dep(5), modules.alias and modprobe.d(5) say
pub record Setup : Type 0 where
  pub catalogue : List Description
  pub dependencies : List Pair
  pub aliases : Entries Alias
  pub configuration : Configuration

abbrev pub name_at : Setup → ℕ → List ℕ
name_at s slot = (description_at s.catalogue slot).name
