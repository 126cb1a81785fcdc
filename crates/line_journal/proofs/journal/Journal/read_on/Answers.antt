use Rattle.std.proofs.Common.{◌≡◌, ◌∷◌, [], ◌∙◌, ap, sym, subst, arith, rules}
use Rattle.line_journal.specs.Lines.{lines_of, behind}
use Rattle.line_journal.specs.Renewed.{ReadsAtRest}
use Rattle.line_journal.proofs.FollowLemmas.{reads_at_rest, not_at_rest}
use Rattle.line_journal.proofs.journal.Journal.read_on.Goals as goal

pub returns-clause-added : goal.returns-clause-added
returns-clause-added g c =
    let old = g.D.Device.content c.args.self.now.device in
    let same = c.peek_from.ensures.content in
    let shut : behind old ≡ 32 ∷ [] = sym c.in_ok-found.ensures.behind ∙ c.is_at_rest.ensures.0 (search rules) in (
      subst (λ f. ReadsAtRest f c.in_ok-found.found.end) (sym same) (reads_at_rest old c.in_ok-found.found.end c.in_ok-found.ensures.end shut c.in_ok-found.ensures.fits),
      ap lines_of same ∙ c.in_ok-found.ensures.lines,
    )

pub returns-then-not-is_at_rest-clause-added : goal.returns-then-not-is_at_rest-clause-added
returns-then-not-is_at_rest-clause-added g c =
    let new = g.D.Device.content c.peek_from.new.device in
    let shut_not : c.in_ok-found.found.behind.items ≡ 32 ∷ [] → ⊥ = λ shut. grind (arith, c.is_at_rest.ensures.1 shut) in
    not_at_rest new c.in_ok-found.found.behind.items (c.in_ok-found.ensures.behind ∙ ap behind (sym c.peek_from.ensures.content)) shut_not
