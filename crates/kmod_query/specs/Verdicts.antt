-- Serves proofs alone: verdicts of the code.
use Rattle.kmod_query.specs.declared.removal_check.Verdict.{Verdict as CodeVerdict}
use Rattle.kmod_query.specs.declared.removal_check.Verdict.TheVariants.{Remove, Pass, Refuse}
use Rattle.kmod_query.specs.Removal.{Verdict, remove, pass, refuse}

abbrev pub verdict_of : CodeVerdict → Verdict
verdict_of Remove = remove
verdict_of Pass = pass
verdict_of (Refuse failure) = refuse failure
