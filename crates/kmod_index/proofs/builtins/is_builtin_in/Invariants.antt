use Rattle.std.proofs.Common.{◌≡◌, length}
use Rattle.std.specs.List.{filter_map}
use Rattle.kmod_index.specs.Builtins.{builtin_name, builtin_names, is_among}
use Rattle.kmod_index.proofs.builtins.is_builtin_in.Given as goal

abbrev pub invariant-lines : goal.invariant-lines
invariant-lines l =
    is_among (filter_map builtin_name l.lines) l.name ≡ is_among (builtin_names l.fn.text) l.name

abbrev pub decreases-lines : goal.decreases-lines
decreases-lines l = length l.lines
