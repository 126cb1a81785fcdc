use Rattle.std.proofs.Common.{List, ℕ, refl, subst, sym, ◌∙◌, arith}
use Rattle.line_journal.specs.Renewed.{IsRenewed}
use Rattle.file_journal.specs.Counts.{is_look, is_write}
use Rattle.file_journal.proofs.CallLemmas.{counted, not_counted, looked, other_of}
use Rattle.file_journal.proofs.belief.Belief.look_at_other.Goals as goal

pub returns-clause-looks : goal.returns-clause-looks
returns-clause-looks g c = counted is_look c.in_ok-read.ensures.ok

pub returns-clause-writes : goal.returns-clause-writes
returns-clause-writes g c = not_counted is_write refl c.in_ok-read.ensures.ok

pub returns-clause-renewed : goal.returns-clause-renewed
returns-clause-renewed g c =
    let kept = c.args.kept in
    let renewed = c.compare-renewed.result in
    let old = c.args.self.now.bytes.items in
    let read = c.in_ok-read.read.items in
    let is_old = c.deref.ensures.value in
    let is_read = c.deref-2.ensures.value in
    let same = c.compare-renewed.ensures.same in
    record {
      reads = subst (λ (f : List ℕ). IsRenewed kept f read renewed) is_old (subst (λ (f : List ℕ). IsRenewed kept c.deref.result.now f renewed) is_read c.compare-renewed.ensures.renewed);
      other = other_of old read renewed (λ is. sym is_read ∙ same.0 is ∙ is_old, λ is. same.1 (is_read ∙ is ∙ sym is_old));
      unknown = looked c.in_ok-read.ensures.ok read;
    }

pub returns-clause-believed : goal.returns-clause-believed
returns-clause-believed g c = record {
  place = 0;
  within = omega arith;
  read = c.in_ok-read.read.items;
  noted = c.in_ok-read.ensures.ok;
  believed = refl;
}
