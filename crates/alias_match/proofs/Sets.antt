-- What the first member of a set says of the whole set.
use Rattle.std.proofs.Common.{◌≡◌, ℕ, true, false, List, [], ◌∷◌, ◌⊎◌, inl, inr, Result, Ok, Err, refl, sym, ◌∙◌, ap, subst}
use Rattle.std.specs.List.{list_any}
use Rattle.alias_match.specs.declared.item.ByteRange.{ByteRange}
use Rattle.alias_match.specs.declared.read.PatternError.{PatternError}
use Rattle.alias_match.specs.Pattern.{in_range}
use Rattle.alias_match.specs.Reading.{HasMembers, IsSet, bad_member, closes, last, member, members_of, more, ranges_before, unclosed}
use Rattle.alias_match.proofs.Items.{has_members, members_known}

abbrev Answer : Type 0
Answer = Result (List ByteRange × List ℕ) PatternError

abbrev One : Type 0
One = Result (ByteRange × List ℕ) PatternError

-- the first member ends the set, or stands before the set that follows it
abbrev pub Continues : ByteRange → List ℕ → List ByteRange → Type 0
Continues m after all = ((closes after ≡ true) × (all ≡ m ∷ [])) ⊎ ((closes after ≡ false) × (all ≡ m ∷ members_of after) × IsSet after)

same : {u v : List ℕ} {m n : ByteRange} (r : One) → r ≡ Ok (m, u) → r ≡ Ok (n, v) → (m ≡ n) × (u ≡ v)
same {u} {v} {m} {n} r h k =
    let e : ◌≡◌ {A = ByteRange × List ℕ} (m, u) (n, v) = cc in
    (ap (λ p. p.0) e, ap (λ p. p.1) e)

behind_first : {m : ByteRange} {after end : List ℕ} {all : List ByteRange} (r : Answer) → closes after ≡ false → HasMembers after r → ranges_before (m ∷ []) r ≡ Ok (all, end) → Continues m after all
behind_first {m} {after} {end} {all} (Ok x) unended h e =
    let pair : ◌≡◌ {A = List ByteRange × List ℕ} (m ∷ x.0, x.1) (all, end) = cc in
    let whole : m ∷ x.0 ≡ all = ap (λ p. p.0) pair in
    inr (unended, sym whole ∙ ap (λ l. m ∷ l) (sym (members_known h)), (x.1, has_members h))
behind_first (Err e) unended h is = absurd (cc)

continues : {text s after end : List ℕ} {b : ℕ} {m : ByteRange} {all : List ByteRange} {r : Answer} → HasMembers text r → r ≡ Ok (all, end) → text ≡ b ∷ s → member b s ≡ Ok (m, after) → Continues m after all
continues unclosed is split read = absurd (cc)
continues (bad_member c t e h) is split read = absurd (cc)
continues {text} {s} {after} {end} {b} {m} {all} {r} (last c t rest n h) is split read =
    let bytes : c ≡ b = cc in
    let texts : t ≡ s = cc in
    let own : member b s ≡ Ok (n, 93 ∷ rest) = cc in
    let both : (n ≡ m) × (93 ∷ rest ≡ after) = same (member b s) own read in
    let pair : ◌≡◌ {A = List ByteRange × List ℕ} (n ∷ [], rest) (all, end) = cc in
    inl (ap closes (sym both.1), sym (ap (λ p. p.0) pair) ∙ ap (λ x. x ∷ []) both.0)
continues {text} {s} {after} {end} {b} {m} {all} {r} (more c t rest n inner h unended k) is split read =
    let bytes : c ≡ b = cc in
    let texts : t ≡ s = cc in
    let own : member b s ≡ Ok (n, rest) = cc in
    let both : (n ≡ m) × (rest ≡ after) = same (member b s) own read in
    behind_first inner (ap closes (sym both.1) ∙ unended) (subst (λ x. HasMembers x inner) both.1 k)
    (ap (λ x. ranges_before (x ∷ []) inner) (sym both.0) ∙ is)

pub set_continues : {rest s after : List ℕ} {b : ℕ} {m : ByteRange} → IsSet rest → rest ≡ b ∷ s → member b s ≡ Ok (m, after) → Continues m after (members_of rest)
set_continues set split read = continues set.1 refl split read

pub hits : (byte : ℕ) {rest s after : List ℕ} {b : ℕ} {m : ByteRange} → IsSet rest → rest ≡ b ∷ s → member b s ≡ Ok (m, after) → in_range byte m ≡ true → list_any (in_range byte) (members_of rest) ≡ true
hits byte {rest} {s} {after} {b} {m} set split read hit = elim (set_continues set split read) [
  | inl end ↦ rw (end.1, hit) refl
  | inr on ↦ rw (on.1, hit) refl
]

pub ends : (byte : ℕ) {rest s after behind : List ℕ} {b : ℕ} {m : ByteRange} → IsSet rest → rest ≡ b ∷ s → member b s ≡ Ok (m, after) → in_range byte m ≡ false → after ≡ 93 ∷ behind → list_any (in_range byte) (members_of rest) ≡ false
ends byte {rest} {s} {after} {behind} {b} {m} set split read missed closed = elim (set_continues set split read) [
  | inl end ↦ rw (end.1, missed) refl
  | inr on ↦ (let shut : closes after ≡ true = ap closes closed in absurd (cc (shut, on.0)))
]

pub goes_on : (byte : ℕ) {rest s after : List ℕ} {b : ℕ} {m : ByteRange} → IsSet rest → rest ≡ b ∷ s → member b s ≡ Ok (m, after) → in_range byte m ≡ false → closes after ≡ false → (list_any (in_range byte) (members_of rest) ≡ list_any (in_range byte) (members_of after)) × IsSet after
goes_on byte {rest} {s} {after} {b} {m} set split read missed unended = elim (set_continues set split read) [
  | inl end ↦ absurd (cc (end.0, unended))
  | inr on ↦ (rw (on.1, missed) refl, on.2)
]

faultless : {text s : List ℕ} {b : ℕ} {e : PatternError} {x : List ByteRange × List ℕ} {r : Answer} → HasMembers text r → r ≡ Ok x → text ≡ b ∷ s → member b s ≡ Err e → ⊥
faultless unclosed is split read = absurd (cc)
faultless (bad_member c t f h) is split read = absurd (cc)
faultless {text} {s} {b} {e} {x} {r} (last c t rest n h) is split read =
    let bytes : c ≡ b = cc in
    let texts : t ≡ s = cc in
    let own : member b s ≡ Ok (n, 93 ∷ rest) = cc in
    absurd (cc)
faultless {text} {s} {b} {e} {x} {r} (more c t rest n inner h unended k) is split read =
    let bytes : c ≡ b = cc in
    let texts : t ≡ s = cc in
    let own : member b s ≡ Ok (n, rest) = cc in
    absurd (cc)

-- a set has no fault, and an end
pub no_fault : {rest s : List ℕ} {b : ℕ} {e : PatternError} → IsSet rest → rest ≡ b ∷ s → member b s ≡ Err e → ⊥
no_fault set split read = faultless set.1 refl split read

endless : {text : List ℕ} {x : List ByteRange × List ℕ} {r : Answer} → HasMembers text r → r ≡ Ok x → text ≡ [] → ⊥
endless unclosed is split = absurd (cc)
endless (bad_member c t f h) is split = absurd (cc)
endless (last c t rest n h) is split = absurd (cc)
endless (more c t rest n inner h unended k) is split = absurd (cc)

pub has_end : {rest : List ℕ} → IsSet rest → rest ≡ [] → ⊥
has_end set split = endless set.1 refl split
