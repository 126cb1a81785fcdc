use Rattle.std.proofs.Common.{◌≡◌, ◌∙◌, sym, ap, map}
use Rattle.dep_index.specs.Dependencies.{dep_line, with_pair, name_of}
use Rattle.text_parts.specs.Text.{texts_of}
use Rattle.dep_index.specs.Dependencies.Pairs.{pairs_in}
use Rattle.dep_index.proofs.PairLemmas.{line_paired}
use Rattle.dep_index.proofs.dependencies.text.read_line.Goals as goal

pub returns : goal.returns
returns c =
    let same : dep_line (pairs_in c.args.index.now.entries) c.args.line.now ≡ with_pair (pairs_in c.args.index.now.entries) (c.in_ok-name.name, c.in_ok-names.names.items) =
    line_paired (pairs_in c.args.index.now.entries) c.args.line.now c.in-Some.path.now c.in-Some.rest.now c.in_ok-name.name c.in_ok-names.names.items
    (sym c.is_comment.ensures ∙ c.if-is_comment.false) (sym c.has_word.ensures ∙ c.if-not-has_word.false) c.in-Some.ensures
    (c.in_ok-name.ensures ∙ ap name_of c.trimmed.ensures)
    (c.in_ok-names.ensures ∙ ap (λ paths. map name_of (texts_of paths)) c.deref.ensures.value ∙ ap (map name_of) c.in_ok-find_words.ensures) in
    rw same c.add.ensures
