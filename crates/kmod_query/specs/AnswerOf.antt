-- What a query is answered.
use Rattle.text_parts.specs.Text.{texts_of}
use Rattle.kmod_query.specs.declared.query.Ask.{Ask}
use Rattle.kmod_query.specs.declared.query.Ask.TheVariants.{ShowDepends, DryRun, Resolve, Remove, ShowRemoval, ShowConfig}
use Rattle.kmod_query.specs.declared.query.Query.{Query}
use Rattle.kmod_query.specs.declared.world.World.{World}
use Rattle.kmod_query.specs.Answers.{Answer, nothing, said}
use Rattle.kmod_query.specs.Loading.{answer_names}
use Rattle.kmod_query.specs.Removal.{remove_names}
use Rattle.kmod_query.specs.Shown.{shown}
use Rattle.kmod_query.specs.World.{facts_of}

abbrev pub answer_by_ask : Ask → World → Query → Answer
answer_by_ask ShowDepends world query = answer_names (facts_of world) query (texts_of query.words.now)
answer_by_ask DryRun world query = answer_names (facts_of world) query (texts_of query.words.now)
answer_by_ask Resolve world query = answer_names (facts_of world) query (texts_of query.words.now)
answer_by_ask Remove world query = remove_names (facts_of world) query nothing (texts_of query.words.now)
answer_by_ask ShowRemoval world query = remove_names (facts_of world) query nothing (texts_of query.words.now)
answer_by_ask ShowConfig world query = said (shown world.conf.now world.index.now)

-- the answer to a query, of what the machine's texts and states say
abbrev pub answer_of : World → Query → Answer
answer_of world query = answer_by_ask query.ask world query
