use Rattle.std.proofs.Common.{◌≡◌, ◌∙◌, arith, rules, ap, sym, subst, true, false, refl, ◌-◌, length, map, take, drop}
use Rattle.line_journal.specs.Lines.{bytes_of, AreLines}
use Rattle.held_table.specs.Held.{Held}
use Rattle.held_lines.specs.Outcomes.{after}
use Rattle.durable_table.specs.Compacting.{journal_of, compacted}
use Rattle.durable_table.proofs.CompactLemmas.{second_table, remade_by, other_is_same}
use Rattle.durable_table.proofs.compaction.remake.Goals as goal

pub returns-then-not-are_lines-clause-none : goal.returns-then-not-are_lines-clause-none
returns-then-not-are_lines-clause-none c =
    let s = c.args.session.now.setup.now in
    let h : Held = c.args.session.now.holders.held in
    let lines = c.in_ok-lines.lines.items in
    let is : bytes_of lines ≡ compacted c.args.name.now s h = c.in_ok-lines.ensures ∙ ap (journal_of c.args.name.now) (ap bytes_of c.deref.ensures.value ∙ c.in_ok-snapshot.ensures) in
    let no_lines : c.are_lines.result ≡ false = search rules in
    λ can. absurd (grind (arith, no_lines, c.are_lines.ensures.1 (subst AreLines (sym is ∙ ap bytes_of (sym c.deref-3.ensures.value)) can.are_lines)))

pub returns-then-not-branch-clause-none : goal.returns-then-not-branch-clause-none
returns-then-not-branch-clause-none c =
    let s = c.args.session.now.setup.now in
    let h : Held = c.args.session.now.holders.held in
    let other : Held = c.replay.new.session.holders.held in
    let fresh : Held = c.args.fresh.held in
    let lines = c.in_ok-lines.lines.items in
    let is : bytes_of lines ≡ compacted c.args.name.now s h = c.in_ok-lines.ensures ∙ ap (journal_of c.args.name.now) (ap bytes_of c.deref.ensures.value ∙ c.in_ok-snapshot.ensures) in
    let from : other ≡ after s fresh (map (drop 17) (bytes_of (take (length lines - 1) (drop 1 lines)))) =
    rw (c.new-other.ensures.setup, c.new-other.ensures.holders, c.setup.ensures, c.deref-2.ensures.value) at c.in_ok-replay.ensures.after in
    let is_other : c.in_ok-is_same.field-0 ≡ false = search rules in
    λ can. absurd (grind (arith, is_other, c.in_ok-is_same.ensures.all (other_is_same c.args.name.now s h other lines (drop 1 lines) is refl (second_table s fresh other lines c.requires.opening from) can)))

pub returns-clause-made : goal.returns-clause-made
returns-clause-made c =
    let s = c.args.session.now.setup.now in
    let h : Held = c.args.session.now.holders.held in
    let other : Held = c.replay.new.session.holders.held in
    let fresh : Held = c.args.fresh.held in
    let lines = c.in_ok-lines.lines.items in
    let is : bytes_of lines ≡ compacted c.args.name.now s h = c.in_ok-lines.ensures ∙ ap (journal_of c.args.name.now) (ap bytes_of c.deref.ensures.value ∙ c.in_ok-snapshot.ensures) in
    let from : other ≡ after s fresh (map (drop 17) (bytes_of (take (length lines - 1) (drop 1 lines)))) =
    rw (c.new-other.ensures.setup, c.new-other.ensures.holders, c.setup.ensures, c.deref-2.ensures.value) at c.in_ok-replay.ensures.after in
    let is_lines : c.are_lines.result ≡ true = search rules in
    let is_same : c.in_ok-is_same.field-0 ≡ true = search rules in
    let are : AreLines (bytes_of lines) = subst (λ l. AreLines (bytes_of l)) c.deref-3.ensures.value (c.are_lines.ensures.0 is_lines) in
    remade_by c.args.name.now s h other lines (drop 1 lines) is refl are (second_table s fresh other lines c.requires.opening from) (c.in_ok-is_same.ensures.is is_same)
