use Rattle.std.proofs.Common.{◌≡◌, ◌+◌, ◌-◌, ℕ, length, drop, take, ap, List, ◌∙◌, arith}
use Rattle.std.proofs.lemmas.List.{take_rest}
use Rattle.line_journal.specs.Lines.{lines_of, open_text, bytes_of}
use Rattle.line_journal.proofs.ReadingLemmas.{StandsAt, stands_at, read_more, size_more, read_all}
use Rattle.line_journal.proofs.reading.read_lines.Goals as goal

pub loop-len-preserved : goal.loop-len-preserved
loop-len-preserved c =
    let file = c.args.bytes.now in
    let at = c.loop-len.end in
    let len = c.in-Some.len in
    let so_far = c.loop-len.invariant in
    let stands : StandsAt file at len = stands_at file at len so_far.within c.in-Some.ensures.line c.in-Some.ensures.within in
    let count : (at + 1 + len) - (at + 1) ≡ len = omega arith in
    let line = c.in_ok-to_vec.ensures.items_if_clones_equal (λ x y e. e) ∙ ap (λ (n : ℕ). take n (drop (at + 1) file)) count in
    record {
      read = rw c.in_ok-push.ensures.items (read_more c.loop-len.lines.items c.in_ok-to_vec.field-0 file at len stands line so_far.read);
      size = rw c.in_ok-push.ensures.items (size_more c.loop-len.lines.items c.in_ok-to_vec.field-0 file at len stands line so_far.size);
      within = omega (arith, stands.within);
    }

pub returns : goal.returns
returns c =
    let file = c.args.bytes.now in
    let end = c.loop-len.end in
    let lines = bytes_of c.loop-len.lines.items in
    let all : lines ≡ lines_of file = read_all lines file end c.in_default.ensures.none c.loop-len.invariant.read in
    let ends : end ≡ length (open_text (lines_of file)) = c.loop-len.invariant.size ∙ ap (λ (ls : List (List ℕ)). length (open_text ls)) all in
    record {
      lines = all;
      ends = ends;
      rest = c.in_ok-behind.ensures.items_if_clones_equal (λ x y e. e) ∙ take_rest file end ∙ ap (λ (n : ℕ). drop n file) ends;
    }
