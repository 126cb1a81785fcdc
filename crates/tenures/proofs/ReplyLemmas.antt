-- Replies that are begun, one after another.
use Rattle.std.proofs.Common.{◌≡◌, sym, ap, ◌∙◌, ◌⊎◌, ⊎_elim, inl, inr, ℕ, ◌+◌, ◌<◌, List, [], ◌∷◌, ◌++◌, length, take, drop, get_or, take-suc, add-one, append_assoc, take-append-drop}
use Rattle.std.proofs.lemmas.List.{map-append}
use Rattle.modprobe.specs.Outcomes.{Outcome}
use Rattle.held_lines.specs.declared.reply.HeldReply.{HeldReply}
use Rattle.tenures.specs.Steps.{outcomes_of, HasBegun}

-- one reply more is begun
pub begun_more : (replies : List HeldReply) (i : ℕ) (item : HeldReply) (old so_far begun : List Outcome) → i < length replies → item ≡ get_or replies i item
    → so_far ≡ old ++ outcomes_of (take i replies) → begun ≡ so_far ++ item.reply ∷ [] → begun ≡ old ++ outcomes_of (take (i + 1) replies)
begun_more replies i item old so_far begun within is so grows =
    grows ∙ ap (λ (os : List Outcome). os ++ item.reply ∷ []) so ∙ append_assoc old (outcomes_of (take i replies)) (item.reply ∷ [])
    ∙ ap (λ (os : List Outcome). old ++ os) (sym (map-append (λ (r : HeldReply). r.reply) (take i replies) (item ∷ [])))
    ∙ ap (λ (rs : List HeldReply). old ++ outcomes_of rs) (sym (take-suc replies i item within ∙ ap (λ (r : HeldReply). take i replies ++ r ∷ []) (sym is)))
    ∙ ap (λ (n : ℕ). old ++ outcomes_of (take n replies)) (sym (add-one i))

-- the first of the replies are begun
pub begun_first : (replies : List HeldReply) (i now : ℕ) (old begun : List Outcome) (since since_new : ℕ) → begun ≡ old ++ outcomes_of (take i replies)
    → ((i ≡ 0) × (since_new ≡ since)) ⊎ (since_new ≡ now) → HasBegun (outcomes_of replies) now old begun since since_new
begun_first replies i now old begun since since_new grows moment = record {
  begun = outcomes_of (take i replies);
  first = (
    outcomes_of (drop i replies),
    ap outcomes_of (sym (take-append-drop i replies)) ∙ map-append (λ (r : HeldReply). r.reply) (take i replies) (drop i replies),
  );
  grows = grows;
  moment = ⊎_elim (λ none. inl (ap (λ (n : ℕ). outcomes_of (take n replies)) none.0, none.1)) (λ at. inr at) moment;
}
