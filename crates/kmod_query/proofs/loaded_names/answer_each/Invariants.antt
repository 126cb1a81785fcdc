use Rattle.std.proofs.Common.{◌≡◌, take, fold, []}
use Rattle.kmod_query.specs.Answers.{and_also, nothing}
use Rattle.kmod_query.specs.Loading.{answer_name}
use Rattle.kmod_query.specs.Stacks.{AreSoftLists}
use Rattle.kmod_query.specs.World.{facts_of}
use Rattle.kmod_query.proofs.loaded_names.answer_each.Given as goal

abbrev pub invariant-words : goal.invariant-words
invariant-words l =
    record {
      soft : AreSoftLists (facts_of l.asked.world) l.soft;
      answer : l.answer ≡ fold (λ answer word. and_also answer (answer_name (facts_of l.asked.world) l.asked.query [] word.now)) nothing (take l.word-index l.words);
    }
