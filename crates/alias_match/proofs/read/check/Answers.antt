use Rattle.std.proofs.Common.{◌∙◌, refl, sym}
use Rattle.std.proofs.lemmas.List.{nil_from_length}
use Rattle.std.proofs.lemmas.Result.{err_from_is_err_and}
use Rattle.alias_match.proofs.Items.{is_pattern}
use Rattle.alias_match.proofs.Plain.{plain_reads}
use Rattle.alias_match.proofs.Reading.{CompletesItems-end, CompletesItems-more, CompletesItems-refused}
use Rattle.alias_match.proofs.read.check.Goals as goal

pub returns-in_err-after : goal.returns-in_err-after
returns-in_err-after c =
    let p = err_from_is_err_and c.from_residual.result c.from_residual.ensures.1 in
    rw (p.1, p.2) (CompletesItems-refused c.items.invariant.1 c.in-Some.ensures.cases.0 _ c.in_err-after.ensures.value)

pub items-preserved-then-is_plain : goal.items-preserved-then-is_plain
items-preserved-then-is_plain c =
    let one = plain_reads c.in-Some.first.now c.in-Some.after.now (sym c.is_plain.ensures ∙ c.if-is_plain.true) in
    (_, CompletesItems-more c.items.invariant.1 c.in-Some.ensures.cases.0 one refl)

pub items-preserved : goal.items-preserved
items-preserved c = (_, CompletesItems-more c.items.invariant.1 c.in-Some.ensures.cases.0 c.in_ok-after.ensures.value refl)

pub returns : goal.returns
returns c = is_pattern (CompletesItems-end c.items.invariant.1 (nil_from_length _ (c.in_default.ensures {u = tt}).cases))
