use Rattle.std.proofs.Common.{◌≡◌, ◌∙◌, ℕ, List, OnOk, sym, subst}
use Rattle.alias_match.specs.Pattern.{is_match}
use Rattle.alias_match.proofs.Deciding.{decided}
use Rattle.modprobe.proofs.AliasTextLemmas.{free_matched, free_unmatched}
use Rattle.modprobe.proofs.alias_text.add_matching.Goals as goal

pub returns-then-not-matches : goal.returns-then-not-matches
returns-then-not-matches c =
    let is : c.matches.result ≡ is_match c.args.alias.pattern c.args.name.now = decided c.matches.result c.args.alias.pattern c.args.name.now c.matches.ensures in
    free_unmatched c.args.configuration.now c.args.found.now.items c.args.alias c.args.name.now (sym is ∙ c.if-not-matches.true)

pub returns : goal.returns
returns c =
    let is : c.matches.result ≡ is_match c.args.alias.pattern c.args.name.now = decided c.matches.result c.args.alias.pattern c.args.name.now c.matches.ensures in
    subst (λ (l : List (List ℕ)). OnOk c.add_target.result (c.add_target.new.found.items ≡ l))
    (free_matched c.args.configuration.now c.args.found.now.items c.args.alias c.args.name.now (sym is ∙ c.if-not-matches.false)) c.add_target.ensures
