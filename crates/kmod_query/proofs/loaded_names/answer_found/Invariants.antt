use Rattle.std.proofs.Common.{◌≡◌, take, fold}
use Rattle.kmod_query.specs.Answers.{and_then, nothing}
use Rattle.kmod_query.specs.Loading.{answer_object}
use Rattle.kmod_query.specs.Objects.{object_of}
use Rattle.kmod_query.specs.Stacks.{AreSoftLists}
use Rattle.kmod_query.specs.World.{facts_of}
use Rattle.kmod_query.proofs.loaded_names.answer_found.Given as goal

abbrev pub invariant-objects : goal.invariant-objects
invariant-objects l =
    record {
      soft : AreSoftLists (facts_of l.asked.world) l.soft;
      answer : l.answer ≡ fold (λ answer own. and_then answer (answer_object (facts_of l.asked.world) l.asked.query l.parameters (object_of own))) nothing (take l.object-index l.found);
    }
