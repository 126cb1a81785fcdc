use Rattle.alias_match.proofs.Beginning.{begins_literally}
use Rattle.alias_match.proofs.laws.matches_begin_literally.Goals as goal

pub returns : goal.returns
returns c = begins_literally
