use Rattle.std.proofs.Common.{ap, ◌∙◌}
use Rattle.std.specs.Str.{bytes_eq}
use Rattle.held_table.specs.Names.{name_bytes, place_of}
use Rattle.held_table.proofs.NameLemmas.{place_map}
use Rattle.held_table.proofs.names.Names.number.Goals as goal

pub returns : goal.returns
returns c =
    c.get_index_of.ensures.index
    ∙ place_map name_bytes (bytes_eq (name_bytes c.args.name.now)) c.self.inside.names.keys
    ∙ ap (λ names. place_of names (name_bytes c.args.name.now)) c.self.view_is
