use Rattle.std.proofs.Common.{◌≡◌, ◌+◌, ◌++◌, ◌∷◌, ◌∙◌, [], ap, cond, drop, map, not, refl, sym}
use Rattle.std.specs.Borrow.{Bor}
use Rattle.std.specs.List.{list_any}
use Rattle.std.specs.Str.{bytes_eq}
use Rattle.text_parts.specs.Text.{texts_of}
use Rattle.alias_match.specs.declared.alias.Alias.{Alias}
use Rattle.load_plan.specs.LookUp.{with_name, with_names}
use Rattle.load_plan.proofs.LookUpLemmas.{any-texts, names-added, names-next, texts-insert_key}
use Rattle.load_plan.proofs.look_up.names_of.Goals as goal
use Rattle.load_plan.proofs.look_up.names_of.Goals.{then-branch+in_ok-copy+in_ok-push, else-branch}

pub loop-alias-preserved : goal.loop-alias-preserved
loop-alias-preserved c =
    let keys = c.loop-alias.seen.keys in
    let names = c.loop-alias.names.items in
    let target = c.alias-item.result.now.target in
    let added : c.in_ok-insert.field-0 ≡ not (list_any (bytes_eq target) names) =
    c.in_ok-insert.ensures.added
    ∙ ap (λ n. not (list_any (λ (own : Bor _). bytes_eq n own.now) keys)) c.as_bytes.ensures
    ∙ ap not (any-texts target keys ∙ ap (list_any (bytes_eq target)) c.loop-alias.invariant.seen) in
    let grown : c.if-branch.names.items ≡ cond c.in_ok-insert.field-0 (names ++ target ∷ []) names = elim c.if-branch.branch [
      | then-branch+in_ok-copy+in_ok-push w ↦ rw (w.names-is, w.if-branch.true) (w.in_ok-push.ensures.items ∙ ap (λ n. names ++ n ∷ []) w.in_ok-copy.ensures)
      | else-branch w ↦ rw (w.names-is, w.if-branch.false) refl
    ] in
    let next : c.if-branch.names.items ≡ with_name names target = grown ∙ names-added names target c.in_ok-insert.field-0 added in
    record {
      left =
          ap (λ ns. with_names ns (map (λ (alias : Bor Alias). alias.now.target) (drop (c.loop-alias.alias-index + 1) c.args.aliases.now))) next
          ∙ names-next names c.args.aliases.now c.loop-alias.alias-index c.alias-item.result c.loop-alias-test.true c.alias-item.is
          ∙ c.loop-alias.invariant.left;
      seen =
          ap texts_of c.in_ok-insert.ensures.keys ∙ texts-insert_key keys c.as_bytes.result
          ∙ ap (λ ns. with_name ns c.as_bytes.result.now) c.loop-alias.invariant.seen ∙ ap (with_name names) c.as_bytes.ensures ∙ sym next;
    }
