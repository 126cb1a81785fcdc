use Rattle.std.proofs.Common.{◌≡◌, ◌+◌, ◌-◌, ◌∙◌, ap, length, take, drop, ℕ, []}
use Rattle.text_parts.specs.Text.{ended, cut_lines}
use Rattle.text_parts.proofs.WordLemmas.{rest_after}
use Rattle.workload_drive.specs.Statements.{Numbered, with_number, numbered}
use Rattle.workload_drive.proofs.LineLemmas.{lines_more, lines_last, lines_done, is_some, is_none}
use Rattle.workload_drive.proofs.lines.cut_lines.Goals as goal
use Rattle.workload_drive.proofs.lines.cut_lines.Goals.{then-not-is_empty+in_ok-push-2, else-not-is_empty}

pub loop-end-preserved : goal.loop-end-preserved
loop-end-preserved c =
    lines_more c.loop-end.lines.items c.push.new.self.items c.ended.result (numbered 1 (cut_lines c.args.input.now)) c.loop-end.rest.now c.split_at.result.0.now
    (take (length c.split_at.result.1.now - 1) (drop 1 c.split_at.result.1.now)) c.in-Some.end
    c.in-Some.ensures.0.high c.in-Some.ensures.0.before c.in-Some.ensures.1 c.loop-end.invariant c.in_ok-push.ensures.items
    (c.ended.ensures ∙ ap (λ (k : ℕ). with_number (k + 1) (ended c.split_at.result.0.now)) (c.len.ensures ∙ c.loop-end.lines.ok.0))
    c.split_at.ensures.front (rw c.split_at.ensures.back (rest_after c.loop-end.rest.now c.in-Some.end))

pub returns : goal.returns
returns c = elim c.if-not-is_empty.branch [
  | then-not-is_empty+in_ok-push-2 w ↦
      let counted : w.len-number.result ≡ length c.loop-end.lines.items = w.len-number.ensures ∙ c.loop-end.lines.ok.0 in
      rw w.lines-is (lines_last c.loop-end.lines.items w.push-then-not-is_empty.new.self.items _ (numbered 1 (cut_lines c.args.input.now)) c.loop-end.rest.now
      c.in_default.ensures (is_some (length c.loop-end.rest.now) c.is_empty.result c.is_empty.ensures w.if-not-is_empty.true) c.loop-end.invariant w.in_ok-push-2.ensures.items
      (ap (λ (k : ℕ). let line : Numbered = record { number = k + 1; text = c.loop-end.rest.now; ending = [] } in line) counted))
  | else-not-is_empty w ↦
      rw w.lines-is (lines_done c.loop-end.lines.items (numbered 1 (cut_lines c.args.input.now)) c.loop-end.rest.now
      (is_none (length c.loop-end.rest.now) c.is_empty.result c.is_empty.ensures w.if-not-is_empty.false) c.loop-end.invariant)
]
