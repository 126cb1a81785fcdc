use Rattle.std.proofs.Common.{◌∙◌, ap}
use Rattle.std.specs.List.{position}
use Rattle.kmod_index.specs.ForProofs.{pointed}
use Rattle.kmod_index.proofs.TrieLemmas.{after, put-some, put-none}
use Rattle.kmod_index.proofs.trie_order.put.Goals as goal

pub returns-in_ok-insert-in-Some : goal.returns-in_ok-insert-in-Some
returns-in_ok-insert-in-Some c =
    ap pointed c.in_ok-insert-in-Some.ensures.items
    ∙ put-some c.args.line c.args.found.now.items c.in-Some.place (c.in-Some.ensures ∙ ap (position (after c.args.line.now)) c.deref.ensures.value)

pub returns-in_ok-push-in-None : goal.returns-in_ok-push-in-None
returns-in_ok-push-in-None c =
    ap pointed c.in_ok-push-in-None.ensures.items
    ∙ put-none c.args.line c.args.found.now.items (c.in-None.ensures ∙ ap (position (after c.args.line.now)) c.deref.ensures.value)
