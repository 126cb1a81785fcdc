use Rattle.std.proofs.Common.{◌≡◌, List, ℕ, ◌++◌, take, drop, refl, subst, sym, ap, ◌∙◌, arith, rules, true≢false, take-append-drop}
use Rattle.line_journal.specs.Renewed.{StaysTo}
use Rattle.file_journal.specs.Counts.{is_look, is_write}
use Rattle.file_journal.proofs.CallLemmas.{looked, counted, not_counted, stays_to, other_bytes}
use Rattle.file_journal.proofs.belief.Belief.look.Goals as goal

pub returns-then-agrees-clause-renewed : goal.returns-then-agrees-clause-renewed
returns-then-agrees-clause-renewed g c = record { reads = refl; other = tt; unknown = looked c.in_ok-read.ensures.ok c.args.self.now.bytes.items }

pub returns-then-agrees-clause-looks : goal.returns-then-agrees-clause-looks
returns-then-agrees-clause-looks g c = counted is_look c.in_ok-read.ensures.ok

pub returns-then-agrees-clause-writes : goal.returns-then-agrees-clause-writes
returns-then-agrees-clause-writes g c = not_counted is_write refl c.in_ok-read.ensures.ok

pub returns-in_err-extend_from_slice-clause-writes : goal.returns-in_err-extend_from_slice-clause-writes
returns-in_err-extend_from_slice-clause-writes g c = not_counted is_write refl c.in_ok-read.ensures.ok

pub returns-clause-looks : goal.returns-clause-looks
returns-clause-looks g c = counted is_look c.in_ok-read.ensures.ok

pub returns-clause-writes : goal.returns-clause-writes
returns-clause-writes g c = not_counted is_write refl c.in_ok-read.ensures.ok

pub returns-clause-renewed : goal.returns-clause-renewed
returns-clause-renewed g c =
    let kept = c.args.kept in
    let old = c.args.self.now.bytes.items in
    let read = c.in_ok-read.read.items in
    let new = c.extend_from_slice.new.self.items in
    let is_new : new ≡ take kept old ++ read = search rules in
    record {
      reads = subst (λ (f : List ℕ). StaysTo kept old f) (sym is_new) (stays_to kept old read c.requires);
      other = λ same. other_bytes kept old read c.requires (λ is. true≢false (sym (c.agrees.ensures.1 (c.deref.ensures.value ∙ is)) ∙ c.if-agrees.false)) (sym is_new ∙ same);
      unknown = looked c.in_ok-read.ensures.ok new;
    }

pub returns-then-agrees-clause-believed : goal.returns-then-agrees-clause-believed
returns-then-agrees-clause-believed g c =
    let kept = c.args.kept in
    let old = c.args.self.now.bytes.items in
    let read = c.in_ok-read.read.items in
    let is_rest : read ≡ drop kept old = sym c.deref.ensures.value ∙ c.agrees.ensures.0 c.if-agrees.true in
    record {
      place = kept;
      within = omega arith;
      read = read;
      noted = c.in_ok-read.ensures.ok;
      believed = sym (take-append-drop kept old) ∙ ap (λ (l : List ℕ). take kept old ++ l) (sym is_rest);
    }

pub returns-clause-believed : goal.returns-clause-believed
returns-clause-believed g c = record {
  place = c.args.kept;
  within = omega arith;
  read = c.in_ok-read.read.items;
  noted = c.in_ok-read.ensures.ok;
  believed = search rules;
}
