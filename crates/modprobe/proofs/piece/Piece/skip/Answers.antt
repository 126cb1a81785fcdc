use Rattle.std.proofs.Common.{arith, ◌≡◌, ℕ, ◌+◌, ◌-◌, ◌≤◌, List, length, take, drop, sym, ap, ◌∙◌}
use Rattle.std.specs.Prelude.{slice_range}
use Rattle.std.proofs.lemmas.List.{drop-drop, drop-take, length-take}
use Rattle.modprobe.proofs.piece.Piece.skip.Goals as goal

-- The bytes from a later place on.
slice_range-drop : (bytes : List ℕ) (start count end : ℕ) → count ≤ length (slice_range bytes start end) → slice_range bytes (start + count) end ≡ drop count (slice_range bytes start end)
slice_range-drop bytes start count end fits =
    let all : end - start ≡ count + (end - (start + count)) = omega (arith, fits, length-take (end - start) (drop start bytes)) in
    sym (
    ap (λ n. drop count (take n (drop start bytes))) all
    ∙ drop-take count (end - (start + count)) (drop start bytes)
    ∙ ap (take (end - (start + count))) (drop-drop count start bytes)
    )

pub returns : goal.returns
returns c =
    let fits : c.args.count ≤ length (slice_range c.self.inside.bytes.items c.self.inside.start c.self.inside.end) = rw c.self.view_is c.requires in
    rw (← c.self.view_is) (slice_range-drop c.self.inside.bytes.items c.self.inside.start c.args.count c.self.inside.end fits)
