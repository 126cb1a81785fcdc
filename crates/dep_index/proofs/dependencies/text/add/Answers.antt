use Rattle.std.proofs.Common.{◌≡◌, ◌∙◌, sym, ap, false}
use Rattle.std.specs.List.{list_any}
use Rattle.std.specs.Str.{bytes_eq}
use Rattle.dep_index.specs.Dependencies.{is_empty, with_pair}
use Rattle.dep_index.specs.Dependencies.Pairs.{pairs_in}
use Rattle.dep_index.proofs.PairLemmas.{pair_added}
use Rattle.dep_index.proofs.dependencies.text.add.Goals as goal

pub returns : goal.returns
returns c =
    let key : c.into_bytes.result.items ≡ c.args.name = c.into_bytes.ensures in
    let filled : is_empty c.into_bytes.result.items ≡ false = ap is_empty (key ∙ sym c.as_bytes.ensures) ∙ sym c.has_no_bytes.ensures ∙ c.if-has_no_bytes.false in
    let all_filled : list_any is_empty c.args.names.items ≡ false = ap (list_any is_empty) (sym c.deref.ensures.value) ∙ sym c.has_empty.ensures ∙ c.if-has_empty.false in
    let other : list_any (λ p. bytes_eq c.into_bytes.result.items p.0) (pairs_in c.args.index.now.entries) ≡ false =
    ap (λ n. list_any (λ p. bytes_eq n p.0) (pairs_in c.args.index.now.entries)) (key ∙ sym c.as_bytes-2.ensures) ∙ sym c.is_among.ensures ∙ c.if-is_among.false in
    ap (λ n. with_pair (pairs_in c.args.index.now.entries) (n, c.args.names.items)) (sym key)
    ∙ pair_added c.args.index.now c.into_bytes.result c.args.names c.insert.new.self.entries filled all_filled other c.in_ok-insert.ensures.entries
