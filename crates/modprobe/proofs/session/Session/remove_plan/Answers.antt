use Rattle.std.proofs.Common.{◌<◌, ◌∷◌, List, ℕ, length, subst, All}
use Rattle.std.proofs.lemmas.List.Elements.{All-tail}
use Rattle.modprobe.proofs.session.Session.remove_plan.Goals as goal

pub remove_rest-requires : goal.remove_rest-requires
remove_rest-requires g c =
    let P : ℕ → Type 0 = λ slot. slot < length c.args.self.now.setup.now.catalogue in
    let all : All P (c.in-Some.target.now ∷ c.in-Some.rest.now) = subst (λ (slots : List ℕ). All P slots) c.in-Some.ensures.cases.0 c.requires in
    rw c.in_ok-remove.ensures.same_setup (All-tail P c.in-Some.target.now c.in-Some.rest.now all)
