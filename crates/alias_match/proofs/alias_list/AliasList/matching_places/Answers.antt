use Rattle.std.proofs.Common.{◌↔◌, ◌≡◌, ℕ, Contains, true, nat_eq, suc, length, subst, sym, ap, ◌∙◌}
use Rattle.std.specs.List.Sorted.{IsStrictlyIncreasing}
use Rattle.std.proofs.lemmas.List.Filters.{dedup_is}
use Rattle.std.proofs.lemmas.Map.Keys.{IsStrictlyIncreasing-dedup}
use Rattle.alias_match.specs.ForProofs.{is_match_at, matches_below}
use Rattle.alias_match.proofs.Listed.{sorted_each}
use Rattle.alias_match.proofs.Rising.{rising_places}
use Rattle.alias_match.proofs.alias_list.AliasList.matching_places.Goals as goal

pub returns : goal.returns
returns c =
    let rising : IsStrictlyIncreasing c.dedup.new.self.items = subst IsStrictlyIncreasing (sym (dedup_is nat_eq c.sort_unstable.new.self.items c.dedup.new.self.items c.dedup.ensures.filtered)) (IsStrictlyIncreasing-dedup c.sort_unstable.new.self.items c.sort_unstable.ensures.sorted) in
    let each : (i : ℕ) → Contains c.dedup.new.self.items i ↔ (is_match_at c.args.self.now c.args.text.now i ≡ true) =
    rw (sym c.self.view_is)
    (sorted_each c.self.inside.table c.self.inside.fronts.items c.self.inside.entries.items c.args.text.now c.in_ok-places.places.items c.sort_unstable.new.self.items c.dedup.new.self.items c.self.invariant
    (c.in_ok-places.ensures ∙ ap (λ l. matches_below l c.self.inside.table c.args.text.now (suc (length c.args.text.now))) c.deref.ensures.value)
    c.sort_unstable.ensures.permutation (dedup_is nat_eq c.sort_unstable.new.self.items c.dedup.new.self.items c.dedup.ensures.filtered)) in
    rising_places c.args.self.now c.args.text.now c.dedup.new.self.items rising each
