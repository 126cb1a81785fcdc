-- What the machine's texts and states say.
use Rattle.std.specs.Prelude.{ℕ, if◌then◌else◌, ◌==◌, ◌||◌, List, [], ◌∷◌, ◌++◌, map, slice_index, Option, Some, None, option_map, is_some}
use Rattle.kmod_names.specs.declared.alias_table.AliasEntry.{AliasEntry}
use Rattle.kmod_names.specs.Names.{normal_alias}
use Rattle.kmod_conf.specs.declared.line.SoftdepLine.{SoftdepLine}
use Rattle.kmod_conf.specs.declared.line.TextLine.{TextLine}
use Rattle.kmod_conf.specs.LookUps.{has_install_named, has_remove_named, install_named, install_of, is_blacklisted, matching_aliases, options_of, remove_named, remove_of, softdep_of}
use Rattle.kmod_index.specs.Builtins.{is_among}
use Rattle.kmod_index.specs.Dependencies.{hard_needs, line_of}
use Rattle.kmod_index.specs.Lines.{Keyed, lines_of_key}
use Rattle.kmod_index.specs.Tries.{in_order, matching_lines}
use Rattle.kmod_query.specs.declared.world.World.{World}
use Rattle.kmod_query.specs.Facts.{Facts}
use Rattle.kmod_query.specs.Paths.{at_path_of, own_of}
use Rattle.kmod_query.specs.States.{status_in}

abbrev pub pair_of : AliasEntry → List ℕ × List ℕ
pair_of entry = (entry.pattern, entry.target)

abbrev pub name_of : Keyed → List ℕ
name_of line = line.name

abbrev pub text_of : TextLine → List ℕ
text_of line = line.text

abbrev pub pre_of : Option SoftdepLine → List (List ℕ)
pre_of None = []
pre_of (Some line) = line.items.pre

abbrev pub post_of : Option SoftdepLine → List (List ℕ)
post_of None = []
post_of (Some line) = line.items.post

-- the file of a path of modules.dep: below the folder, if the path does not begin with a slash
abbrev pub file_of : List ℕ → List ℕ → List ℕ
file_of directory path = if slice_index path 0 == 47 then path else directory ++ (47 ∷ path)

-- what a query asks, as the texts and states answer it
unfoldable pub facts_of : World → Facts
facts_of world =
    record {
      normal = normal_alias;
      configured = λ name. map pair_of (matching_aliases world.conf.now name);
      is_loadable = λ name. is_some (line_of world.index.now.dependencies name);
      exporters = λ name. map name_of (lines_of_key world.index.now.symbols name);
      is_commanded = λ name. has_install_named world.conf.now name || has_remove_named world.conf.now name;
      aliased = λ name. map name_of (matching_lines world.index.now.aliases name);
      is_builtin = λ name. is_among world.index.now.builtin_names name;
      builtin_aliased = λ name. map name_of (in_order (matching_lines world.index.now.builtin_aliases name));
      pre = λ name. pre_of (softdep_of world.conf.now name);
      post = λ name. post_of (softdep_of world.conf.now name);
      install = λ name. option_map text_of (install_of world.conf.now name);
      remove = λ name. option_map text_of (remove_of world.conf.now name);
      install_named = λ name. option_map text_of (install_named world.conf.now name);
      remove_named = λ name. option_map text_of (remove_named world.conf.now name);
      options = λ name alias. map text_of (options_of world.conf.now name alias);
      is_blacklisted = is_blacklisted world.conf.now;
      path = λ name. option_map (λ line. file_of world.directory.now line.path) (line_of world.index.now.dependencies name);
      needs = hard_needs world.index.now.dependencies;
      status = status_in world.states.now;
      at_path = at_path_of world.paths.now;
      own = own_of world.own;
    }
