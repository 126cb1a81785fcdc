-- What a text that is a pattern, or that begins with the members of a set, is by the functions of reading.
use Rattle.std.proofs.Common.{◌≡◌, ◌≤◌, ℕ, zero, suc, arith, length, List, [], ◌∷◌, Result, Ok, Err, refl, sym, ◌∙◌, ap, subst}
use Rattle.alias_match.specs.declared.item.ByteRange.{ByteRange}
use Rattle.alias_match.specs.declared.read.PatternError.{PatternError}
use Rattle.alias_match.specs.Pattern.{Piece}
use Rattle.alias_match.specs.Reading.{HasItem, HasMembers, IsPattern, Reads, after_item, bad_item, item, item_of, members_in, members_of, over, pieces_before, pieces_from, pieces_in, pieces_of}
use Rattle.alias_match.proofs.Once.{item_once, members_once, reads_once}
use Rattle.alias_match.proofs.Total.{members_reads, pattern_read}

pub pieces_known : {text : List ℕ} {ps : List Piece} → Reads text (Ok ps) → pieces_of text ≡ ps
pieces_known {text} {ps} h = ap pieces_in (reads_once (pattern_read text) h)

pub is_pattern : {text : List ℕ} {ps : List Piece} → Reads text (Ok ps) → IsPattern text
is_pattern {text} {ps} h = subst (λ l. Reads text (Ok l)) (sym (pieces_known h)) h

pub members_known : {text rest : List ℕ} {ms : List ByteRange} → HasMembers text (Ok (ms, rest)) → members_of text ≡ ms
members_known {text} {rest} {ms} h = ap members_in (members_once (members_reads (length text) text (omega arith)) h)

pub has_members : {text rest : List ℕ} {ms : List ByteRange} → HasMembers text (Ok (ms, rest)) → HasMembers text (Ok (members_of text, rest))
has_members {text} {rest} {ms} h = subst (λ l. HasMembers text (Ok (l, rest))) (sym (members_known h)) h

-- a text with a reading is over, or has its first item's
pub record Begins (b : ℕ) (s : List ℕ) (p : Piece) (rest : List ℕ) : Type 0 where
  pub first : pieces_of (b ∷ s) ≡ p ∷ pieces_of rest
  pub later : IsPattern rest

behind_first : {rest : List ℕ} {p : Piece} {all : List Piece} (r : Result (List Piece) PatternError) → Reads rest r → pieces_before (p ∷ []) r ≡ Ok all → (all ≡ p ∷ pieces_of rest) × IsPattern rest
behind_first {rest} {p} {all} (Ok ps) h e = (cc (pieces_known h, e), is_pattern h)
behind_first {rest} {p} {all} (Err f) h e = absurd (cc)

begins : {text s rest : List ℕ} {b : ℕ} {p : Piece} {r : Result (List Piece) PatternError} {all : List Piece} → Reads text r → r ≡ Ok all → text ≡ b ∷ s → HasItem b s (Ok (p, rest)) → (all ≡ p ∷ pieces_of rest) × IsPattern rest
begins over e split read = absurd (cc)
begins (bad_item c t f h) e split read = absurd (cc)
begins {text} {s} {rest} {b} {p} {r} {all} (item c t later q inner h k) e split read =
    let bytes : c ≡ b = cc in
    let texts : t ≡ s = cc in
    let own : HasItem b s (Ok (q, later)) = subst (λ x. HasItem b x (Ok (q, later))) texts (subst (λ x. HasItem x t (Ok (q, later))) bytes h) in
    let both : ◌≡◌ {A = Result (Piece × List ℕ) PatternError} (Ok (q, later)) (Ok (p, rest)) = item_once own read in
    let pair : ◌≡◌ {A = Piece × List ℕ} (q, later) (p, rest) = cc in
    let piece : q ≡ p = ap (λ x. x.0) pair in
    let rests : later ≡ rest = ap (λ x. x.1) pair in
    behind_first inner (subst (λ x. Reads x inner) rests k) (ap (λ x. pieces_before (x ∷ []) inner) (sym piece) ∙ e)

pub begins_with : {b : ℕ} {s rest : List ℕ} {p : Piece} → IsPattern (b ∷ s) → HasItem b s (Ok (p, rest)) → Begins b s p rest
begins_with {b} {s} {rest} {p} h read = let both = begins h refl refl read in record { first = both.0; later = both.1 }

faultless : {text s : List ℕ} {b : ℕ} {e : PatternError} {r : Result (List Piece) PatternError} {all : List Piece} → Reads text r → r ≡ Ok all → text ≡ b ∷ s → HasItem b s (Err e) → ⊥
faultless over is split read = absurd (cc)
faultless (bad_item c t f h) is split read = absurd (cc)
faultless {text} {s} {b} {e} {r} {all} (item c t later q inner h k) is split read =
    let bytes : c ≡ b = cc in
    let texts : t ≡ s = cc in
    let own : HasItem b s (Ok (q, later)) = subst (λ x. HasItem b x (Ok (q, later))) texts (subst (λ x. HasItem x t (Ok (q, later))) bytes h) in
    let both : ◌≡◌ {A = Result (Piece × List ℕ) PatternError} (Ok (q, later)) (Err e) = item_once own read in
    absurd (cc)

-- the first item of a pattern has no fault
pub no_fault : {b : ℕ} {s : List ℕ} {e : PatternError} → IsPattern (b ∷ s) → HasItem b s (Err e) → ⊥
no_fault h read = faultless h refl refl read

-- there are no more items than bytes
one_more : (p : Piece) (n : ℕ) (r : Result (List Piece) PatternError) → length (pieces_in r) ≤ n → length (pieces_in (pieces_before (p ∷ []) r)) ≤ suc n
one_more p n (Ok ps) le = omega arith
one_more p n (Err e) le = omega arith

next_few : (n : ℕ) (r : Result (Piece × List ℕ) PatternError) → ((s : List ℕ) → length (pieces_in (pieces_from n s)) ≤ n) → length (pieces_in (after_item (pieces_from n) r)) ≤ suc n
next_few n (Ok x) each = one_more x.0 n (pieces_from n x.1) (each x.1)
next_few n (Err e) each = omega arith

few_from : (n : ℕ) (s : List ℕ) → length (pieces_in (pieces_from n s)) ≤ n
few_from zero [] = omega arith
few_from zero (b ∷ s) = omega arith
few_from (suc n) [] = omega arith
few_from (suc n) (b ∷ s) = next_few n (item_of b s) (few_from n)

pub few_pieces : (text : List ℕ) → length (pieces_of text) ≤ length text
few_pieces text = few_from (length text) text
