use Rattle.std.proofs.Common.{◌≡◌, ◌++◌, length}
use Rattle.std.specs.List.{filter_map}
use Rattle.kmod_index.specs.Builtins.{builtin_name, builtin_names}
use Rattle.kmod_names.specs.Places.{ArePlaces}
use Rattle.kmod_index.proofs.builtins.read_builtins.Given as goal

abbrev pub invariant-lines : goal.invariant-lines
invariant-lines l =
    record {
      said : l.names.items ++ filter_map builtin_name l.lines ≡ builtin_names l.fn.text;
      kept : ArePlaces l.places l.names.items;
    }

abbrev pub decreases-lines : goal.decreases-lines
decreases-lines l = length l.lines
