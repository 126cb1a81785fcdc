-- What a run does is what its words ask for.
use Rattle.std.proofs.Common.{◌≡◌, ◌≤◌, ℕ, Bool, true, false, true≢false, List, Option, Some, None, refl, sym, ap, ◌∙◌}
use Rattle.kmod_query.specs.declared.query.Ask.{Ask}
use Rattle.modprobe_words.specs.Asked.{Asked}
use Rattle.modprobe_words.specs.declared.switches.Switches.{Switches}
use Rattle.modprobe_words.specs.declared.wishes.Wish.{Wish}
use Rattle.modprobe_words.specs.declared.wishes.Wish.TheVariants as wishes
use Rattle.gz_modprobe_drive.specs.declared.job.Job.{Job}
use Rattle.gz_modprobe_drive.specs.declared.job.Job.TheVariants.{Lint, Why, Diff, Answer}
use Rattle.gz_modprobe_drive.specs.Ends.{IsDone, wish_by, worst_of}
use Rattle.gz_modprobe_drive.specs.Jobs.{IsJob, JobEnds, JobWrites, worst_job}
use Rattle.gz_modprobe_drive.specs.Outputs.{IsOutput}
use Rattle.gz_modprobe_drive.specs.Queries.{ask_of, is_lint, is_why}
use Rattle.gz_modprobe_drive.proofs.LintLemmas.{lint-done, lint-status, one-status, query-done, same-query, why-done, why-status}
use Rattle.gz_modprobe_drive.proofs.OutputLemmas.{lint-output, query-output, why-output}

why-no-lint : (wish : Wish) → is_why wish ≡ true → is_lint wish ≡ false
why-no-lint wishes.Lint tells = absurd (true≢false (sym tells))
why-no-lint wishes.Why tells = refl
why-no-lint wishes.Diff tells = refl
why-no-lint wishes.ShowConfig tells = refl
why-no-lint wishes.ShowDepends tells = refl
why-no-lint wishes.DryRun tells = refl
why-no-lint wishes.Resolve tells = refl
why-no-lint wishes.Remove tells = refl
why-no-lint wishes.ShowRemoval tells = refl
why-no-lint wishes.NoName tells = refl
why-no-lint wishes.ShowModule tells = refl
why-no-lint wishes.RemoveHolders tells = refl
why-no-lint wishes.Load tells = refl
why-no-lint wishes.Removal tells = refl

-- what is neither a lint nor tells what leads to names, since it asks
asks-no-lint : (wish : Wish) (ask : Ask) → ask_of wish ≡ Some ask → is_lint wish ≡ false
asks-no-lint wishes.Lint ask asks = absurd (cc)
asks-no-lint wishes.Why ask asks = refl
asks-no-lint wishes.Diff ask asks = refl
asks-no-lint wishes.ShowConfig ask asks = refl
asks-no-lint wishes.ShowDepends ask asks = refl
asks-no-lint wishes.DryRun ask asks = refl
asks-no-lint wishes.Resolve ask asks = refl
asks-no-lint wishes.Remove ask asks = refl
asks-no-lint wishes.ShowRemoval ask asks = refl
asks-no-lint wishes.NoName ask asks = refl
asks-no-lint wishes.ShowModule ask asks = refl
asks-no-lint wishes.RemoveHolders ask asks = refl
asks-no-lint wishes.Load ask asks = refl
asks-no-lint wishes.Removal ask asks = refl

asks-no-why : (wish : Wish) (ask : Ask) → ask_of wish ≡ Some ask → is_why wish ≡ false
asks-no-why wishes.Lint ask asks = refl
asks-no-why wishes.Why ask asks = absurd (cc)
asks-no-why wishes.Diff ask asks = absurd (cc)
asks-no-why wishes.ShowConfig ask asks = refl
asks-no-why wishes.ShowDepends ask asks = refl
asks-no-why wishes.DryRun ask asks = refl
asks-no-why wishes.Resolve ask asks = refl
asks-no-why wishes.Remove ask asks = refl
asks-no-why wishes.ShowRemoval ask asks = refl
asks-no-why wishes.NoName ask asks = refl
asks-no-why wishes.ShowModule ask asks = refl
asks-no-why wishes.RemoveHolders ask asks = refl
asks-no-why wishes.Load ask asks = refl
asks-no-why wishes.Removal ask asks = refl

-- a job of the wish and of the words is that of what they are
pub same-job : (wish own : Wish) (switches : Switches) (given words : List (List ℕ)) (job : Job) → wish ≡ own → given ≡ words
    → IsJob wish switches given job → IsJob own switches words job
same-job wish own switches given words Lint is lent holds = ap is_lint (sym is) ∙ holds
same-job wish own switches given words Why is lent holds = ap is_why (sym is) ∙ holds
same-job wish own switches given words Diff is lent holds = ap is_why (sym is) ∙ holds
same-job wish own switches given words (Answer query) is lent asks = same-query wish own switches given words query is lent asks

pub job-status : (asked : Asked) (job : Job) (status : ℕ) → IsJob (wish_by asked) asked.switches asked.words job → status ≤ worst_job job → status ≤ worst_of asked
job-status asked Lint status is within = lint-status asked (wish_by asked) status refl is within
job-status asked Why status is within = why-status asked (wish_by asked) status refl is within
job-status asked Diff status is within = why-status asked (wish_by asked) status refl is within
job-status asked (Answer query) status is within = one-status asked status within

pub job-done : (asked : Asked) (job : Job) (before after : Option (List ℕ)) → IsJob (wish_by asked) asked.switches asked.words job → JobEnds job asked before after → IsDone asked before after
job-done asked Lint before after is done = lint-done asked (wish_by asked) before after refl is done
job-done asked Why before after is done = why-done asked (wish_by asked) before after refl (why-no-lint (wish_by asked) is) is done
job-done asked Diff before after is done = why-done asked (wish_by asked) before after refl (why-no-lint (wish_by asked) is) is done
job-done asked (Answer query) before after is done =
    query-done asked (wish_by asked) before after refl (asks-no-lint (wish_by asked) query.ask is.ask) (asks-no-why (wish_by asked) query.ask is.ask)
    (record { query = query; asks = is; answered = done })

pub job-output : (asked : Asked) (job : Job) (before after : Option (List ℕ)) → IsJob (wish_by asked) asked.switches asked.words job → JobWrites job asked before after → IsOutput asked before after
job-output asked Lint before after is writes = lint-output asked (wish_by asked) before after refl is writes
job-output asked Why before after is writes = why-output asked (wish_by asked) before after refl is writes
job-output asked Diff before after is writes = why-output asked (wish_by asked) before after refl is writes
job-output asked (Answer query) before after is writes =
    query-output asked (wish_by asked) before after query refl (asks-no-lint (wish_by asked) query.ask is.ask) (asks-no-why (wish_by asked) query.ask is.ask) is writes
