use Rattle.std.proofs.Common.{◌∙◌, ◌+◌, ◌++◌, ap, arith}
use Rattle.std.specs.Prelude.{◌==◌}
use Rattle.std.specs.List.{enumerate_from, filter_map, slice_split}
use Rattle.kmod_index.specs.Builtins.{alias_of_entry}
use Rattle.kmod_index.proofs.ModinfoLemmas.{entry_more, entry_last}
use Rattle.kmod_index.proofs.modinfo.read_builtin_aliases.Goals as goal

pub entries-preserved : goal.entries-preserved
entries-preserved c = record {
  said =
      ap (λ l. l ++ filter_map alias_of_entry (enumerate_from (c.entries.number + 1) (slice_split (λ byte. byte == 0) c.in-Some.later.now))) c.in_ok-add_entry-in-Some.ensures
      ∙ entry_more c.entries.aliases c.entries.number c.entries.rest.now c.in-Some.entry.now c.in-Some.later.now c.in-Some.ensures.value
      ∙ c.entries.invariant.said;
  few = omega (arith, c.in-Some.ensures.shorter);
}

pub returns-in-None : goal.returns-in-None
returns-in-None c =
    c.in_ok-add_entry-in-None.ensures
    ∙ entry_last c.entries.aliases c.entries.number c.entries.rest.now c.in-None.ensures.value
    ∙ c.entries.invariant.said
