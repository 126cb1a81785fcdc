use Rattle.std.proofs.Common.{◌∙◌, ap, sym, rules}
use Rattle.std.specs.Option.{unwrap_or}
use Rattle.kmod_names.proofs.KeyLemmas.{on_err, place_added, places_kept}
use Rattle.kmod_names.proofs.key_places.KeyPlaces.add.Goals as goal

pub returns-in_err-push-clause-err : goal.returns-in_err-push-clause-err
returns-in_err-push-clause-err c =
    rw (sym c.self.view_is)
    (on_err c.from_residual-in_err-push.result
    (places_kept _ c.self.inside.places.entries c.in_ok-key.key c.or_insert-places.result.now c.push.new.self c.new.result
    c.in_err-push.ensures.items (c.or_insert-places.ensures.value ∙ ap (λ found. unwrap_or found c.new.result) c.in_ok-self-inside.ensures.value) c.new.ensures.items (search rules)))

pub returns-clause-ok : goal.returns-clause-ok
returns-clause-ok c =
    rw (sym c.self.view_is)
    (place_added _ c.self.inside.places.entries c.in_ok-key.key c.or_insert-places.result.now c.push.new.self c.new.result c.args.key.now c.args.place
    c.in_ok-push.ensures.items (c.or_insert-places.ensures.value ∙ ap (λ found. unwrap_or found c.new.result) c.in_ok-self-inside.ensures.value) c.new.ensures.items c.in_ok-key.ensures.items (search rules))
