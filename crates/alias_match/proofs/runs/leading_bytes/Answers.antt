use Rattle.std.proofs.Common.{◌≡◌, ◌∷◌, ◌++◌, [], ◌∙◌, ap, arith, rules, sym, suc, ◌+◌, drop}
use Rattle.alias_match.specs.ForProofs.{piece}
use Rattle.alias_match.specs.Pattern.{byte, literal_beginning}
use Rattle.alias_match.proofs.Digits.{folded}
use Rattle.alias_match.proofs.MarkLemmas.{behind_first, folded_behind}
use Rattle.alias_match.proofs.runs.leading_bytes.Goals as goal
use Rattle.alias_match.proofs.runs.leading_bytes.Goals.{in_default, in_default-2}

pub items-init : goal.items-init
items-init c =
    let same = c.again-rest.ensures.same in
    record {
      counted = rw same (omega arith);
      marked = rw (same, c.mark-mark.ensures) (folded_behind c.args.front.now (literal_beginning c.args.items));
      left = same;
      few = rw same (omega arith);
    }

pub items-preserved : goal.items-preserved
items-preserved c =
    let split : c.items.rest ≡ byte c.in-Some-Byte-default.byte ∷ c.in-Some-Byte-default.after = sym c.again.ensures.same ∙ c.in-Some-Byte-default.ensures ∙ ap (λ i. piece i ∷ c.in-Some-Byte-default.after) c.in-Some-Byte-default.field-0-0-is in
    let counted = rw split at c.items.invariant.counted in
    let few = rw split at c.items.invariant.few in
    let one : suc c.items.count ≡ c.items.count + 1 = omega arith in
    record {
      counted = omega (arith, counted);
      marked = rw c.with_digit-mark.ensures (rw split at c.items.invariant.marked);
      left = behind_first c.items.count _ _ _ (sym split ∙ c.items.invariant.left) ∙ ap (λ n. drop n c.args.items) one;
      few = omega (arith, few);
    }

pub returns-clause-mark : goal.returns-clause-mark
returns-clause-mark c =
    let none : literal_beginning c.items.rest ≡ [] = elim c.match-split_first.branch [
      | in_default w ↦ search rules
      | in_default-2 w ↦ search rules
    ] in
    rw none at c.items.invariant.marked ∙ folded (c.args.front.now ++ literal_beginning c.args.items)
