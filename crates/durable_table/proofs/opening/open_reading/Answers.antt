use Rattle.std.proofs.Common.{◌≡◌, ◌∙◌, ◌∷◌, [], ℕ, List, Some, true, inl, sym, ap, subst, arith, rules, Vec}
use Rattle.std.specs.declared.alloc.Global.{Global}
use Rattle.line_journal.specs.Lines.{bytes_of}
use Rattle.held_table.specs.Held.{Held}
use Rattle.line_journal.proofs.FollowLemmas.{not_at_rest}
use Rattle.durable_table.specs.Commands.{is_of, link_behind}
use Rattle.durable_table.specs.Tables.{table_in}
use Rattle.durable_table.proofs.KeptLemmas.{table_read}
use Rattle.durable_table.proofs.opening.open_reading.Goals as goal

pub returns-in-Ok-Table-clause-read : goal.returns-in-Ok-Table-clause-read
returns-in-Ok-Table-clause-read g c =
    let s = c.args.setup.now in
    let h : Held = c.in-Ok-Table.session.holders.held in
    let file = g.D.Device.content c.args.device in
    let same : g.D.Device.content c.resume-lines.result.device ≡ file = ap g.D.Device.content c.resume-lines.ensures.device ∙ c.in-Ok.ensures.content in
    let shut : c.in-Ok.found.behind.items ≡ 32 ∷ [] = c.is_at_rest.ensures.0 (search rules) in
    let made : table_in s (bytes_of c.deref.result.now) ≡ Some h = search rules in
    let makes = subst (λ (l : List (Vec ℕ Global)). table_in s (bytes_of l) ≡ Some h) c.deref.ensures.value made in
    let name = c.args.name.now in
    let of_name : is_of name (bytes_of c.deref.result.now) ≡ true = search rules in
    let tells : c.in-Ok-Table.link.items ≡ link_behind (bytes_of c.deref.result.now) = search rules in (
      table_read g.D.Device.content s h file c.in-Ok.found (record { lines = c.resume-lines.result; link = c.in-Ok-Table.link }) c.in-Ok.ensures.found shut c.in-Ok.ensures.fits same c.resume-lines.ensures.end makes
          (rw c.deref.ensures.value at tells),
      same,
      search rules,
      sym (ap (is_of name) c.in-Ok.ensures.found.lines) ∙ subst (λ (l : List (Vec ℕ Global)). is_of name (bytes_of l) ≡ true) c.deref.ensures.value of_name,
    )

pub returns-then-not-is_at_rest-clause-read : goal.returns-then-not-is_at_rest-clause-read
returns-then-not-is_at_rest-clause-read g c =
    let shut_not : c.in-Ok.found.behind.items ≡ 32 ∷ [] → ⊥ = λ shut. grind (arith, c.is_at_rest.ensures.1 shut) in
    (c.in-Ok.ensures.content, inl (not_at_rest (g.D.Device.content c.args.device) c.in-Ok.found.behind.items c.in-Ok.ensures.found.rest shut_not))
