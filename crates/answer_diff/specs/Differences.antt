-- Which names two worlds answer otherwise: each whose answers differ, and no other, in the order in which they were given.
use Rattle.std.specs.Prelude.{ℕ, if◌then◌else◌, List, [], ◌∷◌, map}
use Rattle.std.specs.List.{flat_map}
use Rattle.kmod_query.specs.declared.query.Query.{Query}
use Rattle.kmod_query.specs.declared.world.World.{World}
use Rattle.kmod_query.specs.Answers.{Answer}
use Rattle.answer_diff.specs.declared.comparing.Difference.{Difference as CodeDifference}
use Rattle.answer_diff.specs.Answers.{answer_to_name, differ}

-- a name, and what the two worlds answer
pub record Difference : Type 0 where
  pub name : List ℕ
  pub before : Answer
  pub after : Answer

abbrev pub both : World → World → Query → List ℕ → Difference
both one other query name =
    record { name = name; before = answer_to_name one query name; after = answer_to_name other query name }

-- of one name: nothing, if both worlds answer the same
abbrev pub of_name : World → World → Query → List ℕ → List Difference
of_name one other query name =
    if differ (answer_to_name one query name) (answer_to_name other query name) then both one other query name ∷ [] else []

-- of all names, one after another
abbrev pub differences : World → World → Query → List (List ℕ) → List Difference
differences one other query names = flat_map (of_name one other query) names

-- how contracts see the code's
abbrev pub difference_of : CodeDifference → Difference
difference_of d = record { name = d.name.now; before = d.before; after = d.after }

abbrev pub differences_of : List CodeDifference → List Difference
differences_of all = map difference_of all
