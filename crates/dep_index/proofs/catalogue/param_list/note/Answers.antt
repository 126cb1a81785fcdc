use Rattle.std.proofs.Common.{◌≡◌, ◌∷◌, ◌++◌, ◌∙◌, [], true, ap, nat_le}
use Rattle.std.proofs.lemmas.Bool.{le-leb}
use Rattle.std.specs.List.{list_any}
use Rattle.std.specs.Str.{bytes_eq}
use Rattle.dep_index.specs.Catalogue.ParamNames.{names_in}
use Rattle.dep_index.proofs.ParamLemmas.{names-more}
use Rattle.dep_index.proofs.catalogue.param_list.note.Goals as goal

pub returns : goal.returns
returns c =
    let own : c.into_bytes.result.items ≡ c.args.name.now = c.into_bytes.ensures ∙ c.in_ok-own.ensures in
    let many : nat_le 16 c.args.count ≡ true = le-leb 16 c.args.count c.if-count-lt-COMPARED.false in
    rw many
    (ap names_in c.in_ok-insert.ensures.keys
    ∙ names-more c.args.later.now.keys c.into_bytes.result (ap (λ n. list_any (bytes_eq n) (names_in c.args.later.now.keys)) own ∙ c.requires)
    ∙ ap (λ n. names_in c.args.later.now.keys ++ n ∷ []) own)
