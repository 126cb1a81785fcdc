use Rattle.std.proofs.Common.{arith, sym}
use Rattle.table_setup.proofs.SealLemmas.{no_line, no_sum, sign_there}
use Rattle.table_setup.proofs.sealed.Sealed.read.Goals as goal

pub returns-in_err-at-clause-none : goal.returns-in_err-at-clause-none
returns-in_err-at-clause-none c = rw c.from_residual.ensures (λ text sum is. sign_there c.args.bytes.now text sum is c.in_err-at.ensures)

pub returns-in_err-word-clause-none : goal.returns-in_err-word-clause-none
returns-in_err-word-clause-none c =
    rw c.from_residual-in_err-word.ensures (λ text sum is. no_line c.args.bytes.now text c.split_at.result.1.now sum c.in_ok-at.at _ (omega arith) c.in_ok-at.ensures c.split_at.ensures.back c.split_at.ensures.front_len c.in_err-word.ensures is)

pub returns-in_err-sum-clause-none : goal.returns-in_err-sum-clause-none
returns-in_err-sum-clause-none c =
    rw c.from_residual-in_err-sum.ensures (λ text sum is. no_sum c.args.bytes.now text c.split_at.result.1.now c.in_ok-word.word.now sum c.in_ok-at.at _ (omega arith) c.in_ok-at.ensures c.split_at.ensures.back c.split_at.ensures.front_len c.in_ok-word.ensures (sym c.in_err-sum.ensures.value) is)
