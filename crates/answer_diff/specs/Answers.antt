-- What a world says a load of a name would take.
use Rattle.std.specs.Prelude.{ℕ, Bool, true, not, ◌||◌, List, [], ◌∷◌}
use Rattle.std.specs.Bool.{beq}
use Rattle.std.specs.Str.{bytes_eq}
use Rattle.kmod_query.specs.declared.query.Ask.TheVariants.{ShowDepends}
use Rattle.kmod_query.specs.declared.query.Query.{Query}
use Rattle.kmod_query.specs.declared.world.World.{World}
use Rattle.kmod_query.specs.Answers.{Answer}
use Rattle.kmod_query.specs.Loading.{answer_names}
use Rattle.kmod_query.specs.World.{facts_of}

-- the query with its options, as one of `-a -D`
abbrev pub asking : Query → Query
asking query = record query { ask = ShowDepends; all = true }

-- what a name is answered alone: `answer_of` of kmod_query for such a query with this word
unfoldable pub answer_to_name : World → Query → List ℕ → Answer
answer_to_name world query name = answer_names (facts_of world) (asking query) (name ∷ [])

-- answers differ in what they print, or in whether the name failed
abbrev pub differ : Answer → Answer → Bool
differ one other = not (bytes_eq one.output other.output) || not (beq one.failed other.failed)
