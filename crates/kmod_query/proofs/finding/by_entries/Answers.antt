use Rattle.std.proofs.Common.{◌≤◌, ◌∙◌, arith, length, ℕ, List, false}
use Rattle.std.specs.Borrow.{Bor}
use Rattle.kmod_names.specs.declared.alias_table.AliasEntry.{AliasEntry}
use Rattle.kmod_query.specs.LookUp.{by_one_alias}
use Rattle.kmod_query.specs.World.{pair_of}
use Rattle.kmod_query.proofs.TextLemmas.{map-all}
use Rattle.std.proofs.lemmas.Grind.{common_steps}
use Rattle.kmod_query.proofs.finding.by_entries.Goals as goal

pub returns : goal.returns
returns c =
    let over : length c.args.entries.now ≤ c.entries.entry-index = omega arith in
    c.entries.invariant ∙ map-all (λ (entry : Bor AliasEntry). entry.now) pair_of (λ (pair : List ℕ × List ℕ). by_one_alias pair.0 false pair.1) c.entries.entry-index c.args.entries.now over

pub entries-preserved : goal.entries-preserved
entries-preserved c = grind (arith, common_steps)
