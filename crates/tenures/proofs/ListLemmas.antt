-- Lists of commands, one after another.
use Rattle.std.proofs.Common.{arith, ◌≡◌, refl, sym, ap, subst, ◌∙◌, ℕ, List, [], ◌∷◌, ◌++◌, length, append_assoc, append-nil}
use Rattle.modprobe.specs.Setup.{Setup}
use Rattle.held_table.specs.Held.{Held}
use Rattle.held_lines.specs.Outcomes.{held_line_outcome, after}
use Rattle.durable_table.specs.Groups.{replies_of}
use Rattle.durable_table.proofs.GroupLemmas.{after-append}
use Rattle.tenures.specs.Tenures.{Tenure, one_by_one, IsFirstOf, TookEffect, IsOneList}

pub replies_length : (s : Setup) (h : Held) (xs : List (List ℕ)) → length (replies_of s h xs) ≡ length xs
replies_length s h [] = refl
replies_length s h (x ∷ xs) = grind (arith, replies_length s (held_line_outcome s h x).1 xs)

-- the commands of a group more
pub one_by_one_more : (groups : List (List (List ℕ))) (group : List (List ℕ)) → one_by_one (groups ++ group ∷ []) ≡ one_by_one groups ++ group
one_by_one_more [] group = append-nil group
one_by_one_more (first ∷ groups) group =
    ap (λ (commands : List (List ℕ)). first ++ commands) (one_by_one_more groups group) ∙ sym (append_assoc first (one_by_one groups) group)

-- a tenure more
pub one_more : (s : Setup) (h : Held) (tenures : List Tenure) (tenure : Tenure) (commands own : List (List ℕ)) → IsOneList s h tenures commands
    → TookEffect tenure own → IsFirstOf tenure.replies (replies_of s (after s h commands) own) → IsOneList s h (tenures ++ tenure ∷ []) (commands ++ own)
one_more s h [] tenure commands own one took replied = (
  own,
  [],
  ap (λ (cs : List (List ℕ)). cs ++ own) one ∙ sym (append-nil own),
  took,
  subst (λ (cs : List (List ℕ)). IsFirstOf tenure.replies (replies_of s (after s h cs) own)) one replied,
  refl,
)
one_more s h (first ∷ later) tenure commands own (firsts, rest, is, first_took, first_replied, others) took replied = (
  firsts,
  rest ++ own,
  ap (λ (cs : List (List ℕ)). cs ++ own) is ∙ append_assoc firsts rest own,
  first_took,
  first_replied,
  one_more s (after s h firsts) later tenure rest own others took
      (subst (λ (u : Held). IsFirstOf tenure.replies (replies_of s u own)) (ap (after s h) is ∙ after-append s h firsts rest) replied),
)
