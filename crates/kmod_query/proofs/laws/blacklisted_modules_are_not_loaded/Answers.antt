use Rattle.kmod_query.proofs.LawLemmas.{alias-barred, name-barred}
use Rattle.kmod_query.proofs.laws.blacklisted_modules_are_not_loaded.Goals as goal

pub returns-clause-alias : goal.returns-clause-alias
returns-clause-alias c = alias-barred

pub returns-clause-name : goal.returns-clause-name
returns-clause-name c = name-barred
