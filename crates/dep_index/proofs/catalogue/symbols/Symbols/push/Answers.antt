use Rattle.std.proofs.Common.{◌≡◌, ◌∷◌, ◌++◌, [], ◌∙◌, ap, sym, length, arith}
use Rattle.std.proofs.lemmas.List.{length-append}
use Rattle.dep_index.specs.Catalogue.Pieces.{pieces, total}
use Rattle.dep_index.proofs.PieceLemmas.{pieces_more, total_more}
use Rattle.dep_index.proofs.catalogue.symbols.Symbols.push.Goals as goal

pub invariant_of-self-in-Ok : goal.invariant_of-self-in-Ok
invariant_of-self-in-Ok c =
    ap total c.in_ok-push.ensures.items
    ∙ total_more c.self.inside.lengths.items (length c.args.symbol.now) (length c.self.inside.bytes.items) c.self.invariant
    ∙ sym (length-append c.self.inside.bytes.items c.args.symbol.now)
    ∙ ap length (sym c.in-Ok.ensures.items)

pub returns-in-Ok : goal.returns-in-Ok
returns-in-Ok c =
    ap (λ ns. pieces ns c.extend_from_slice.new.self.items) c.in_ok-push.ensures.items
    ∙ ap (pieces (c.self.inside.lengths.items ++ length c.args.symbol.now ∷ [])) c.in-Ok.ensures.items
    ∙ pieces_more c.self.inside.lengths.items c.self.inside.bytes.items c.args.symbol.now c.self.invariant
    ∙ ap (λ symbols. symbols ++ c.args.symbol.now ∷ []) c.self.view_is
