use Rattle.std.proofs.Common.{rules, ◌≡◌, ℕ, List, ◌++◌, take, drop, length, ◌-◌, refl, ◌∙◌}
use Rattle.std.proofs.lemmas.Result.{on_ok_weaker}
use Rattle.line_journal.specs.Lines.{bytes_of}
use Rattle.table_folder.specs.InputLines.{brought}
use Rattle.table_folder.proofs.InputLemmas.{Ends, alike-go_on, ends-in_piece, brings-ends, counts-ends, brings-alike, counts-alike}
use Rattle.table_folder.proofs.input.InputLines.take.Goals as goal

pub loop-at-preserved : goal.loop-at-preserved
loop-at-preserved g c =
    let begun : List ℕ = c.loop-at.self.begun.items in
    let piece : List ℕ = c.loop-at.rest.now in
    let line : List ℕ = c.go_on.new.self.begun.items in
    let back : List ℕ = c.split_at.result.1.now in
    let later : List ℕ = take (length back - 1) (drop 1 back) in
    let first : List ℕ → List ℕ = λ more. c.args.self.now.begun.items ++ (c.args.bytes.now ++ more) in
    let so = c.loop-at.invariant in
    let found = c.in-Some.ensures in
    let added : line ≡ begun ++ take (65536 - length begun) (take c.in-Some.at piece) =
    rw (← c.split_at.ensures.front) c.in_ok-go_on.ensures.added in
    let ends : (more : List ℕ) → Ends (brought line) line (begun ++ (piece ++ more)) (later ++ more) =
    λ more. ends-in_piece begun piece back line more c.in-Some.at so.begun found.within found.line found.feed c.split_at.ensures.back added c.go_on.ensures.begun in
    record {
      begun = search rules;
      lines = search rules;
      input = search rules;
      goes_on = λ more.
          rw (c.in_ok-end_line.ensures.begun)
          (brings-ends (bytes_of c.args.lines.now.items) (bytes_of c.loop-at.lines.items) (bytes_of c.end_line.new.lines.items) (brought line) line (first more) (begun ++ (piece ++ more)) (later ++ more)
          (so.goes_on more) (ends more) c.in_ok-end_line.ensures.added);
      counted = λ more.
          rw (c.in_ok-end_line.ensures.begun)
          (counts-ends c.args.self.now.too_long c.loop-at.self.too_long c.end_line.new.self.too_long (brought line) line (first more) (begun ++ (piece ++ more)) (later ++ more)
          (so.counted more) (ends more) (c.end_line.ensures.counted ∙ rw c.go_on.ensures.too_long refl));
    }

pub returns-clause-goes_on : goal.returns-clause-goes_on
returns-clause-goes_on g c =
    let begun : List ℕ = c.loop-at.self.begun.items in
    let piece : List ℕ = c.loop-at.rest.now in
    let last : List ℕ = c.go_on-2.new.self.begun.items in
    let so = c.loop-at.invariant in
    on_ok_weaker c.go_on-2.result
    (λ added more. brings-alike (bytes_of c.args.lines.now.items) (bytes_of c.loop-at.lines.items) (c.args.self.now.begun.items ++ (c.args.bytes.now ++ more)) (begun ++ (piece ++ more)) (last ++ more)
    (so.goes_on more) (alike-go_on begun piece last more so.begun c.in_default.ensures.none added))
    c.go_on-2.ensures.added

pub returns-clause-counted : goal.returns-clause-counted
returns-clause-counted g c =
    let begun : List ℕ = c.loop-at.self.begun.items in
    let piece : List ℕ = c.loop-at.rest.now in
    let last : List ℕ = c.go_on-2.new.self.begun.items in
    let so = c.loop-at.invariant in
    on_ok_weaker c.go_on-2.result
    (λ added more. counts-alike c.args.self.now.too_long c.loop-at.self.too_long c.go_on-2.new.self.too_long (c.args.self.now.begun.items ++ (c.args.bytes.now ++ more)) (begun ++ (piece ++ more)) (last ++ more)
    (so.counted more) (alike-go_on begun piece last more so.begun c.in_default.ensures.none added) c.go_on-2.ensures.too_long)
    c.go_on-2.ensures.added
