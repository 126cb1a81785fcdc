use Rattle.std.proofs.Common.{◌≡◌, ◌++◌, ◌∙◌, sym, ap, List}
use Rattle.dep_index.specs.Catalogue as spec
use Rattle.dep_index.specs.Catalogue.{Description}
use Rattle.dep_index.specs.Catalogue.Descriptions.{descriptions_in}
use Rattle.dep_index.specs.Catalogue.Drafts.{last_in, modules_read}
use Rattle.dep_index.proofs.DraftLemmas.{closed_modules}
use Rattle.dep_index.proofs.catalogue.draft.Draft.close.Goals as goal

pub returns-in_ok-insert-clause-same : goal.returns-in_ok-insert-clause-same
returns-in_ok-insert-clause-same c =
    let es = c.insert.new.self.entries in
    let modules : descriptions_in es ++ last_in c.take.new.self ≡ modules_read c.args.self.now =
    ap (λ l. descriptions_in es ++ last_in l) c.take.ensures.after
    ∙ closed_modules c.args.self.now c.in-Some.open c.close-name.result es (sym c.take.ensures.value ∙ c.in-Some.is) c.requires.sound c.close-name.ensures c.in_ok-insert.ensures.entries in
    ap (λ (ms : List Description). let d : spec.Draft = record { begun = c.args.self.now.begun; version = c.args.self.now.version; modules = ms; ended = c.args.self.now.ended } in d) modules
