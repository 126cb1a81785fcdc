-- A query's other words do not count for the answer to a name.
use Rattle.std.proofs.Common.{◌≡◌, ◌∙◌, ℕ, List, [], ◌∷◌, Option, Some, None, refl, ap}
use Rattle.std.specs.Borrow.{Bor}
use Rattle.kmod_query.specs.declared.paths.AtPath.{AtPath}
use Rattle.kmod_query.specs.declared.paths.AtPath.TheVariants.{File, Nothing}
use Rattle.kmod_query.specs.declared.query.Query.{Query}
use Rattle.kmod_query.specs.declared.world.World.{World}
use Rattle.kmod_query.specs.AnswerOf.{answer_of}
use Rattle.kmod_query.specs.Answers.{and_also, nothing}
use Rattle.kmod_query.specs.Facts.{Facts}
use Rattle.kmod_query.specs.Loading.{answer_at, answer_names}
use Rattle.kmod_query.specs.World.{facts_of}
use Rattle.text_parts.specs.Text.{texts_of}
use Rattle.answer_diff.specs.Answers.{answer_to_name, asking}

abbrev pub with_words : Query → Bor (List (Bor (List ℕ))) → Query
with_words query words = record query { words = words }

at-same : (facts : Facts) (query : Query) (words : Bor (List (Bor (List ℕ)))) (parameters word : List ℕ) (at : Option AtPath)
    → answer_at at facts (with_words query words) parameters word ≡ answer_at at facts query parameters word
at-same facts query words parameters word None = refl
at-same facts query words parameters word (Some (File file)) = refl
at-same facts query words parameters word (Some (Nothing reason)) = refl

pub answer-same : (world : World) (query : Query) (words : Bor (List (Bor (List ℕ)))) (name : List ℕ) → texts_of words.now ≡ name ∷ []
    → answer_of world (with_words (asking query) words) ≡ answer_to_name world query name
unfolding answer_to_name
answer-same world query words name is =
    ap (λ (given : List (List ℕ)). answer_names (facts_of world) (with_words (asking query) words) given) is
    ∙ ap (λ answer. and_also nothing answer) (at-same (facts_of world) (asking query) words [] name ((facts_of world).at_path name))
