use Rattle.std.proofs.Common.{◌∙◌, ap, ℕ, List, Vec, Some, Bor}
use Rattle.std.specs.declared.alloc.Global.{Global}
use Rattle.std.specs.Option.{option_map}
use Rattle.dep_index.specs.Dependencies.{deps}
use Rattle.dep_index.proofs.PairLemmas.{lookup-pairs}
use Rattle.dep_index.proofs.dependencies.DepIndex.deps.Goals as goal

pub returns-in_err-names : goal.returns-in_err-names
returns-in_err-names c =
    ap (option_map (λ (n : Bor (List (List ℕ))). n.now)) c.from_residual.ensures
    ∙ ap (option_map (λ (n : Vec (List ℕ) Global). n.items)) c.in_err-names.ensures.value ∙ lookup-pairs c.args.name.now c.self.inside.lines.entries ∙ ap (λ pairs. deps pairs c.args.name.now) c.self.view_is

pub returns : goal.returns
returns c =
    ap Some c.deref.ensures.value
    ∙ ap (option_map (λ (n : Vec (List ℕ) Global). n.items)) c.in_ok-names.ensures.value ∙ lookup-pairs c.args.name.now c.self.inside.lines.entries ∙ ap (λ pairs. deps pairs c.args.name.now) c.self.view_is
