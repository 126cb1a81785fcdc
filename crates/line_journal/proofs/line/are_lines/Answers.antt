use Rattle.std.proofs.Common.{◌≡◌, ℕ, take, Vec, Bool, true, false, get_or, refl, sym, ◌∙◌, ap, subst, arith, rules}
use Rattle.std.specs.declared.alloc.Global.{Global}
use Rattle.std.proofs.lemmas.List.{get_or-map, length-map, take_all}
use Rattle.std.proofs.lemmas.List.Elements.{All-push, All-get_or}
use Rattle.line_journal.specs.Lines.{bytes_of, IsLine, AreLines}
use Rattle.line_journal.proofs.GroupLemmas.{one_more}
use Rattle.line_journal.proofs.line.are_lines.Goals as goal

pub loop-line-preserved : goal.loop-line-preserved
loop-line-preserved c =
    let lines = c.args.lines.now in
    let index = c.loop-line.line-index in
    let line = c.line-item.result in
    let is_one : c.is_line.result ≡ true = search rules in
    let is : IsLine line.items = subst IsLine c.deref.ensures.value (c.is_line.ensures.0 is_one) in
    subst AreLines (sym (one_more lines index line c.loop-line-test.true c.line-item.is)) (All-push IsLine (take index (bytes_of lines)) line.items c.loop-line.invariant is)

other : (b : Bool) → b ≡ true → b ≡ false → ⊥
other b is not_so = grind arith

never : false ≡ true → ⊥
never is = grind arith

pub returns-then-not-is_line : goal.returns-then-not-is_line
returns-then-not-is_line c =
    let lines = c.args.lines.now in
    let index = c.loop-line.line-index in
    let line = c.line-item.result in
    let is_none : c.is_line.result ≡ false = search rules in
    let items : get_or (bytes_of lines) index line.items ≡ c.deref.result.now =
    get_or-map (λ (v : Vec ℕ Global). v.items) lines index line line.items c.loop-line-test.true ∙ ap (λ (v : Vec ℕ Global). v.items) (sym c.line-item.is) ∙ sym c.deref.ensures.value in (
      λ t. absurd (never t),
      λ are. absurd (other c.is_line.result (c.is_line.ensures.1 (subst IsLine items (All-get_or IsLine (bytes_of lines) index line.items (omega (arith, c.loop-line-test.true, length-map lines (λ (v : Vec ℕ Global). v.items))) are))) is_none),
    )

pub returns : goal.returns
returns c =
    let lines = c.args.lines.now in
    let all : take c.loop-line.line-index (bytes_of lines) ≡ bytes_of lines = take_all c.loop-line.line-index (bytes_of lines) (omega (arith, c.loop-line-test.false, length-map lines (λ (v : Vec ℕ Global). v.items))) in
    (λ t. subst AreLines all c.loop-line.invariant, λ are. refl)
