use Rattle.std.proofs.Common.{◌≤◌, ◌++◌, List, length, map, sym, subst, arith}
use Rattle.std.proofs.lemmas.Grind.{common_steps}
use Rattle.alias_match.specs.Marks.{IsMarkOf}
use Rattle.alias_match.specs.Pattern.{Piece, byte, literal_beginning}
use Rattle.alias_match.proofs.MarkLemmas.{IsTail, marked, marked_front, marked_tail, tail_behind_front, tail_dropped}
use Rattle.alias_match.proofs.runs.longest_run_mark.Goals as goal

pub runs-init : goal.runs-init
runs-init c = record {
  marked = marked_front c.args.front.now c.args.items c.leading_bytes-first.result.mark c.leading_bytes-first.ensures.mark;
  left = tail_behind_front (map (λ b. byte b) c.args.front.now) c.args.items c.leading_bytes-first.result.behind c.leading_bytes-first.result.count c.leading_bytes-first.ensures.behind;
}

pub runs-preserved-then-run-longest : goal.runs-preserved-then-run-longest
runs-preserved-then-run-longest c =
    let all : List Piece = map (λ b. byte b) c.args.front.now ++ c.args.items in
    let behind : IsTail all c.in-Some.after = subst (IsTail all) (sym c.in-Some.ensures.behind) (tail_dropped all c.runs.rest 1 c.runs.invariant.left) in
    let long : 8 ≤ length (literal_beginning c.in-Some.after) = subst (λ n. 8 ≤ n) c.leading_bytes-run.ensures.count c.if-run-ge-MARK_BYTES.true in
    record {
      marked = subst (λ n. IsMarkOf n all) (sym c.leading_bytes-run.ensures.mark) (marked all c.in-Some.after (marked_tail all c.in-Some.after behind long));
      left = subst (IsTail all) (sym c.leading_bytes-run.ensures.behind) (tail_dropped all c.in-Some.after c.leading_bytes-run.result.count behind);
    }

pub runs-preserved : goal.runs-preserved
runs-preserved c =
    let all : List Piece = map (λ b. byte b) c.args.front.now ++ c.args.items in
    let behind : IsTail all c.in-Some.after = subst (IsTail all) (sym c.in-Some.ensures.behind) (tail_dropped all c.runs.rest 1 c.runs.invariant.left) in
    record {
      marked = c.runs.invariant.marked;
      left = subst (IsTail all) (sym c.leading_bytes-run.ensures.behind) (tail_dropped all c.in-Some.after c.leading_bytes-run.result.count behind);
    }

pub runs-smaller-then-run-longest : goal.runs-smaller-then-run-longest
runs-smaller-then-run-longest c = grind (arith, common_steps)

pub runs-smaller : goal.runs-smaller
runs-smaller c = grind (arith, common_steps)
