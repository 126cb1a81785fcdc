use Rattle.std.proofs.Common.{ap}
use Rattle.file_journal.specs.declared.calls.kinds.Noted.{Noted}
use Rattle.file_journal.proofs.calls.Calls.note.Goals as goal

pub returns-clause-ok : goal.returns-clause-ok
returns-clause-ok c = record {
  noted = c.of.result;
  is_call = ap (λ (n : Noted). n.call) c.of.ensures;
  is_before = ap (λ (n : Noted). n.before.value.items) c.of.ensures;
  is_bytes = ap (λ (n : Noted). n.bytes.value.items) c.of.ensures;
  more = c.in_ok-push.ensures.items;
}
