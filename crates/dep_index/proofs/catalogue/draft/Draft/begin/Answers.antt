use Rattle.std.proofs.Common.{◌≡◌, ◌<◌, ◌∙◌, sym, ap, false, length, arith}
use Rattle.dep_index.specs.Catalogue.{has_name, limit, described}
use Rattle.dep_index.specs.Catalogue.Drafts.{draft_in, modules_read}
use Rattle.dep_index.proofs.DraftLemmas.{begin_done}
use Rattle.dep_index.proofs.catalogue.draft.Draft.begin.Goals as goal

pub returns : goal.returns
returns c =
    let other : has_name (modules_read c.args.self.now) c.args.name ≡ false =
    ap (has_name (modules_read c.args.self.now)) (sym c.into_bytes-name.ensures) ∙ ap (has_name (modules_read c.args.self.now)) (sym c.deref.ensures.value) ∙ sym c.has.ensures ∙ c.if-has.false in
    let room : length (modules_read c.args.self.now) < limit (draft_in c.args.self.now) = omega arith in
    begin_done c.args.self.now c.close.new.self c.new.result c.args.name c.requires.sound c.in_ok-close.ensures.same c.in_ok-close.ensures.closed c.in_ok-close.ensures.exporters
    (c.new.ensures ∙ ap described c.into_bytes-name.ensures) other room
