-- Sources of a configuration that differ in a file which is hidden.
use Rattle.std.specs.Prelude.{◌≡◌, ℕ, true, List, ◌∷◌, ◌++◌}
use Rattle.std.specs.List.{flat_map, list_any}
use Rattle.std.specs.Str.{bytes_eq}
use Rattle.kmod_version.specs.declared.kmod.Kmod.{Kmod}
use Rattle.modprobe_files.specs.Files.{Name, Source, candidates, folder}

-- some folder of the first has one name more, which a file of an earlier source has
pub record HasOneHiddenMore (kmod : Kmod) (sources others : List Source) : Type 0 where
  pub before : List Source
  pub after : List Source
  pub path : List ℕ
  pub name : Name
  pub names : List Name
  pub later : List Name
  pub hidden : list_any (λ file. bytes_eq file.name name.text) (flat_map (candidates kmod) before) ≡ true
  pub has_it : sources ≡ before ++ folder path (names ++ name ∷ later) ∷ after
  pub has_not : others ≡ before ++ folder path (names ++ later) ∷ after
