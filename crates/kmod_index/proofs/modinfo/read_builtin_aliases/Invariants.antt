use Rattle.std.proofs.Common.{◌≡◌, ◌≤◌, ◌+◌, ◌++◌, length}
use Rattle.std.specs.Prelude.{◌==◌}
use Rattle.std.specs.List.{enumerate_from, filter_map, slice_split}
use Rattle.kmod_index.specs.Builtins.{alias_of_entry, builtin_aliases}
use Rattle.kmod_index.proofs.modinfo.read_builtin_aliases.Given as goal

abbrev pub invariant-entries : goal.invariant-entries
invariant-entries l =
    record {
      said : l.aliases ++ filter_map alias_of_entry (enumerate_from l.number (slice_split (λ byte. byte == 0) l.rest)) ≡ builtin_aliases l.fn.text;
      few : l.number + length l.rest ≤ length l.fn.text + 1;
    }

abbrev pub decreases-entries : goal.decreases-entries
decreases-entries l = length l.rest
