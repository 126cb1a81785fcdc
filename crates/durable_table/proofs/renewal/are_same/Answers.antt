use Rattle.std.proofs.Common.{◌≡◌, ◌<◌, ◌∙◌, arith, rules, ap, sym, true, length}
use Rattle.std.specs.Prelude.{not}
use Rattle.std.specs.Cmp.Lexicographic.{pointwise, bytes_decides}
use Rattle.durable_table.proofs.RenewLemmas.{same_at, same_more, whole_same}
use Rattle.durable_table.proofs.renewal.are_same.Goals as goal

pub returns-then-ne-clause-all : goal.returns-then-ne-clause-all
returns-then-ne-clause-all c = λ same.
    let i = c.loop-place.place in
    let below : i < length c.args.lines.now = c.loop-place-test.true in
    let within : i < length c.args.others.now = omega (arith, below, c.loop-place.invariant.1) in
    let items = same_at c.args.lines.now c.args.others.now i c.index-lines-place.result c.index-others-place.result below within c.index-lines-place.is c.index-others-place.is same in
    let slices = c.as_slice.ensures.value ∙ items ∙ sym c.as_slice-in-loop-place.ensures.value in
    sym (c.ne.ensures ∙ ap not ((bytes_decides _ _).1 slices)) ∙ c.if-ne.true

pub loop-place-preserved : goal.loop-place-preserved
loop-place-preserved c =
    let i = c.loop-place.place in
    let below : i < length c.args.lines.now = c.loop-place-test.true in
    let within : i < length c.args.others.now = omega (arith, below, c.loop-place.invariant.1) in
    let are : pointwise _ c.as_slice.result.now c.as_slice-in-loop-place.result.now ≡ true = search rules in
    let items = sym c.as_slice.ensures.value ∙ (bytes_decides _ _).0 are ∙ c.as_slice-in-loop-place.ensures.value in
    (same_more c.args.lines.now c.args.others.now i c.index-lines-place.result c.index-others-place.result below within c.index-lines-place.is c.index-others-place.is items c.loop-place.invariant.0, c.loop-place.invariant.1)

pub returns-clause-is : goal.returns-clause-is
returns-clause-is c = λ told. whole_same c.args.lines.now c.args.others.now c.loop-place.place (search rules) c.loop-place.invariant.1 c.loop-place.invariant.0
