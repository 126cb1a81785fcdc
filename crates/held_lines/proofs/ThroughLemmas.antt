-- What a session makes of the table.
use Rattle.std.proofs.Common.{◌≡◌, ℕ, true, false, true≢false, List, sym, ap, ◌∙◌}
use Rattle.dep_index.specs.Table.{Book, Table}
use Rattle.modprobe.specs.Outcomes.{Outcome}
use Rattle.held_lines.specs.declared.reply.HeldReply.{HeldReply}
use Rattle.held_lines.specs.declared.book_copy.BookCopy.{BookCopy}
use Rattle.held_lines.specs.Held.{holding}
use Rattle.held_lines.specs.Outcomes.{on_table}
use Rattle.held_lines.specs.ForProofs.{Answers, IsBookOf}

same_holding : (t u : Table) (names others : List (List ℕ)) → u ≡ t → others ≡ names → holding u others ≡ holding t names
same_holding t u names others tables lists = ap (λ (w : Table). holding w others) tables ∙ ap (λ (ns : List (List ℕ)). holding t ns) lists

same_table : (t u : Table) → u.book ≡ t.book → u.rows ≡ t.rows → u ≡ t
same_table t u book rows = ap (λ (b : Book). record { book = b; rows = u.rows }) book ∙ ap (λ (rs : List (List ℕ)). record { book = t.book; rows = rs }) rows

same_book : (copy : BookCopy) (t u : Table) → IsBookOf copy t → IsBookOf copy u → u.book ≡ t.book
same_book copy t u old new =
    ap (λ ss. record { states = ss; order = u.book.order }) (sym new.states ∙ old.states) ∙ ap (λ (os : List ℕ). record { states = t.book.states; order = os }) (sym new.order ∙ old.order)

-- A line that a session answers, which leaves the rows as they are.
pub answers_through : (t u : Table) (names others : List (List ℕ)) (meant : Outcome × Table) (r : HeldReply) (copy : BookCopy) → r.reply ≡ meant.0 → u ≡ meant.1 → others ≡ names
    → meant.1.rows ≡ t.rows → IsBookOf copy t → (r.changed ≡ false → IsBookOf copy u) → Answers r (holding t names) (holding u others) (on_table (holding t names) meant)
answers_through t u names others meant r copy says becomes lists rows old new =
    record {
      says = says;
      leaves = same_holding meant.1 u names others becomes lists;
      same = λ unchanged. same_holding t u names others (same_table t u (same_book copy t u old (new unchanged)) (ap (λ (w : Table). w.rows) becomes ∙ rows)) lists;
    }

-- The same, where nobody looked whether the table is another.
pub answers_unwatched : (t u : Table) (names others : List (List ℕ)) (meant : Outcome × Table) (reply : Outcome) (r : HeldReply) → reply ≡ meant.0 → u ≡ meant.1 → others ≡ names
    → r ≡ record { reply = reply; changed = true } → Answers r (holding t names) (holding u others) (on_table (holding t names) meant)
answers_unwatched t u names others meant reply r says becomes lists is =
    record {
      says = ap (λ (s : HeldReply). s.reply) is ∙ says;
      leaves = same_holding meant.1 u names others becomes lists;
      same = λ unchanged. absurd (true≢false (sym (ap (λ (s : HeldReply). s.changed) is) ∙ unchanged));
    }
