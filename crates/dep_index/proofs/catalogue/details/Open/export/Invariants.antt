use Rattle.std.proofs.Common.{◌≡◌, drop}
use Rattle.text_parts.specs.Text.{texts_of}
use Rattle.dep_index.specs.Catalogue.Descriptions.{open_in}
use Rattle.dep_index.specs.Catalogue.Exports.{export_links}
use Rattle.dep_index.proofs.catalogue.details.Open.export.Given as goal

-- the symbols from the index on go on from those before it
abbrev pub invariant-loop-symbol : goal.invariant-loop-symbol
invariant-loop-symbol l =
    export_links l.exporters l.slot (open_in l.self) (texts_of (drop l.symbol-index l.symbols))
    ≡ export_links l.initial.exporters l.slot (open_in l.initial.self) (texts_of l.symbols)
