use Rattle.std.proofs.Common.{◌∙◌, [], ap, fold, map, List, ℕ, Option}
use Rattle.std.specs.Prelude.{option_map}
use Rattle.std.specs.Borrow.{Bor}
use Rattle.kmod_conf.specs.declared.line.TextLine.{TextLine}
use Rattle.kmod_conf.specs.LookUps.{options_of}
use Rattle.kmod_query.specs.Lines.{joined}
use Rattle.kmod_query.specs.World.{facts_of, text_of}
use Rattle.kmod_query.proofs.lines.option_text.Goals as goal

pub returns : goal.returns
unfolding facts_of
returns c =
    let conf = c.args.world.now.conf.now in
    let alias : Option (List ℕ) = option_map (λ (own : Bor (List ℕ)). own.now) c.alias_bytes.result in
    c.in_ok-push_joined.ensures
    ∙ ap (λ t. joined t c.args.parameters.now) (
    c.in_ok-text.ensures
    ∙ ap (λ l. fold joined [] (map text_of (map (λ (line : Bor TextLine). line.now) l))) c.deref-2.ensures.value
    ∙ ap (λ l. fold joined [] (map text_of l)) c.in_ok-lines.ensures
    ∙ ap (λ (n : List ℕ). fold joined [] (map text_of (options_of conf n alias))) c.deref.ensures.value
    ∙ ap (λ (a : Option (List ℕ)). fold joined [] (map text_of (options_of conf c.args.object.now.name.items a))) c.alias_bytes.ensures)
