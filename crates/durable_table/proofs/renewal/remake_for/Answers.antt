use Rattle.std.proofs.Common.{◌≡◌, ◌∙◌, arith, rules, ap, sym, subst, true, false, refl, ◌-◌, length, map, take, drop}
use Rattle.std.proofs.lemmas.List.{take_rest}
use Rattle.line_journal.specs.Lines.{bytes_of, AreLines}
use Rattle.held_table.specs.Held.{Held}
use Rattle.held_lines.specs.Outcomes.{after}
use Rattle.held_lines.specs.Snapshots.{snapshot_of}
use Rattle.durable_table.specs.Compacting.{journal_of, compacted}
use Rattle.durable_table.proofs.RenewLemmas.{can_be_renewed, renewed_shown}
use Rattle.durable_table.proofs.renewal.remake_for.Goals as goal

pub returns-then-not-are_lines-clause-none : goal.returns-then-not-are_lines-clause-none
returns-then-not-are_lines-clause-none c =
    let s = c.args.session.now.setup.now in
    let h : Held = c.args.session.now.holders.held in
    let lines = c.in_ok-lines.lines.items in
    let is : bytes_of lines ≡ compacted c.args.name.now s h = c.in_ok-lines.ensures ∙ ap (journal_of c.args.name.now) (ap bytes_of c.deref.ensures.value ∙ c.in_ok-commands.ensures) in
    let no_lines : c.are_lines.result ≡ false = search rules in
    λ can. absurd (grind (arith, no_lines, c.are_lines.ensures.1 (subst AreLines (sym is ∙ ap bytes_of (sym c.deref-5.ensures.value)) can.are_lines)))

pub returns-then-not-are_same-clause-none : goal.returns-then-not-are_same-clause-none
returns-then-not-are_same-clause-none c = λ can.
    let s = c.args.session.now.setup.now in
    let h : Held = c.args.session.now.holders.held in
    let next = c.args.next.now in
    let fresh : Held = c.args.fresh.held in
    let lines = c.in_ok-lines.lines.items in
    let others = c.in_ok-others.others.items in
    let is : bytes_of lines ≡ compacted c.args.name.now s h = c.in_ok-lines.ensures ∙ ap (journal_of c.args.name.now) (ap bytes_of c.deref.ensures.value ∙ c.in_ok-commands.ensures) in
    let from : bytes_of others ≡ snapshot_of next (after next fresh (map (drop 17) (bytes_of (take (length lines - 1) (drop 1 lines))))) = rw (c.deref-2.ensures.value) at c.in_ok-others.ensures in
    let shown = renewed_shown c.args.name.now s h next fresh lines (drop 1 lines) others is refl c.requires.opening (from ∙ ap (λ l. snapshot_of next (after next fresh (map (drop 17) (bytes_of l)))) (take_rest lines 1)) in
    let same = ap bytes_of c.deref-3.ensures.value ∙ shown ∙ can.same ∙ sym (ap bytes_of c.deref-4.ensures.value ∙ c.in_ok-commands.ensures) in
    let other : c.are_same.result ≡ false = search rules in
    grind (arith, other, c.are_same.ensures.all same)

pub returns-clause-can : goal.returns-clause-can
returns-clause-can c =
    let s = c.args.session.now.setup.now in
    let h : Held = c.args.session.now.holders.held in
    let next = c.args.next.now in
    let fresh : Held = c.args.fresh.held in
    let lines = c.in_ok-lines.lines.items in
    let others = c.in_ok-others.others.items in
    let commands = c.in_ok-commands.commands.items in
    let is : bytes_of lines ≡ compacted c.args.name.now s h = c.in_ok-lines.ensures ∙ ap (journal_of c.args.name.now) (ap bytes_of c.deref.ensures.value ∙ c.in_ok-commands.ensures) in
    let from : bytes_of others ≡ snapshot_of next (after next fresh (map (drop 17) (bytes_of (take (length lines - 1) (drop 1 lines))))) = rw (c.deref-2.ensures.value) at c.in_ok-others.ensures in
    let shown = from ∙ ap (λ l. snapshot_of next (after next fresh (map (drop 17) (bytes_of l)))) (take_rest lines 1) in
    let is_lines : c.are_lines.result ≡ true = search rules in
    let is_same : c.are_same.result ≡ true = search rules in
    let are : AreLines (bytes_of lines) = subst (λ l. AreLines (bytes_of l)) c.deref-5.ensures.value (c.are_lines.ensures.0 is_lines) in
    let same : bytes_of others ≡ bytes_of commands = sym (ap bytes_of c.deref-3.ensures.value) ∙ c.are_same.ensures.is is_same ∙ ap bytes_of c.deref-4.ensures.value in
    can_be_renewed c.args.name.now s h next fresh lines (drop 1 lines) others commands is refl c.requires.opening are shown c.in_ok-commands.ensures same
