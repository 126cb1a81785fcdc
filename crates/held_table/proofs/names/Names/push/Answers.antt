use Rattle.std.proofs.Common.{ap, ◌∙◌, map, if◌then◌else◌, ◌++◌, ◌∷◌, []}
use Rattle.std.proofs.lemmas.List.{map-append}
use Rattle.std.specs.Str.{bytes_eq}
use Rattle.held_table.specs.Names.{name_bytes, place_of}
use Rattle.held_table.proofs.NameLemmas.{place_map, none_placed}
use Rattle.held_table.proofs.names.Names.push.Goals as goal

pub returns-clause-added : goal.returns-clause-added
returns-clause-added c =
    let keys = c.self.inside.names.keys in
    let absent = none_placed (λ k. bytes_eq (name_bytes c.args.name) (name_bytes k)) keys
    (place_map name_bytes (bytes_eq (name_bytes c.args.name)) keys ∙ ap (λ names. place_of names (name_bytes c.args.name)) c.self.view_is ∙ c.requires) in
    ap (map name_bytes) (c.in_ok-insert.ensures.keys ∙ ap (λ b. if b then keys else keys ++ c.args.name ∷ []) absent)
    ∙ map-append name_bytes keys (c.args.name ∷ [])
    ∙ ap (λ names. names ++ name_bytes c.args.name ∷ []) c.self.view_is
