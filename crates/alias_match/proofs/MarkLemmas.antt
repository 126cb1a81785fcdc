-- A mark of a pattern is a mark of each text that it matches.
use Rattle.std.proofs.Common.{◌≡◌, ℕ, zero, suc, ◌+◌, ◌≤◌, ◌-◌, List, [], ◌∷◌, ◌++◌, length, map, take, drop, refl, sym, ◌∙◌, ap, subst, arith, length-append, append_assoc}
use Rattle.std.specs.List.{fold}
use Rattle.std.proofs.Math.Seq.{drop-append-add, drop-nil}
use Rattle.std.proofs.lemmas.List.{take_at}
use Rattle.std.proofs.lemmas.List.Sums.{fold-append}
use Rattle.alias_match.specs.Pattern.{Piece, Matches, byte, literal_beginning}
use Rattle.alias_match.specs.Marks.{mark, with_digit, HasMark, IsMarkOf, IsMarked}
use Rattle.alias_match.proofs.Beginning.{begins_literally}
use Rattle.alias_match.proofs.Digits.{folded}

-- what follows pieces that match a front matches the rest
later_match : (n : ℕ) (ps : List Piece) (s : List ℕ) → Matches ps s → (front : List ℕ) × (rest : List ℕ) × (s ≡ front ++ rest) × Matches (drop n ps) rest
later_match zero ps s h = ([], s, refl, h)
later_match (suc n) [] s h = ([], s, refl, h)
later_match (suc n) (p ∷ ps) s (front, rest, split, here, behind) =
    let more : (before : List ℕ) × (after : List ℕ) × (rest ≡ before ++ after) × Matches (drop n ps) after = later_match n ps rest behind in
    (front ++ more.0, more.1, split ∙ ap (λ t. front ++ t) more.2 ∙ sym (append_assoc front more.0 more.1), more.3)

-- eight bytes and more have their mark behind any others
mark_behind : (front bytes : List ℕ) → 8 ≤ length bytes → mark (front ++ bytes) ≡ mark bytes
mark_behind front bytes long =
    let behind : length (front ++ bytes) - 8 ≡ length front + (length bytes - 8) = omega (arith, length-append front bytes, long) in
    ap (fold with_digit 0) (ap (λ n. drop n (front ++ bytes)) behind ∙ drop-append-add front bytes (length bytes - 8))

-- the literal beginning of what matches a rest ends a front of the text
behind_front : (front : List ℕ) (ps : List Piece) (s rest : List ℕ) → s ≡ front ++ rest → Matches ps rest → mark (front ++ literal_beginning ps) ≡ mark (literal_beginning ps) → HasMark s (mark (literal_beginning ps))
behind_front front ps s rest split h same =
    let own : (end : List ℕ) × (rest ≡ literal_beginning ps ++ end) = begins_literally ps rest h in
    let whole : s ≡ (front ++ literal_beginning ps) ++ own.0 = split ∙ ap (λ t. front ++ t) own.1 ∙ sym (append_assoc front (literal_beginning ps) own.0) in
    let size : length s ≡ length (front ++ literal_beginning ps) + length own.0 = ap length whole ∙ length-append (front ++ literal_beginning ps) own.0 in
    (length (front ++ literal_beginning ps), omega (arith, size), ap mark (ap (take (length (front ++ literal_beginning ps))) whole ∙ take_at (front ++ literal_beginning ps) own.0 (length (front ++ literal_beginning ps)) refl) ∙ same)

pub marked : (ps later : List Piece) → IsMarked ps later → IsMarkOf (mark (literal_beginning later)) ps
marked ps later (zero, is, long) s h = behind_front [] later s s refl (subst (λ l. Matches l s) (sym is) h) refl
marked ps later (suc n, is, long) s h =
    let more : (front : List ℕ) × (rest : List ℕ) × (s ≡ front ++ rest) × Matches (drop (suc n) ps) rest = later_match (suc n) ps s h in
    behind_front more.0 later s more.1 more.2 (subst (λ l. Matches l more.1) (sym is) more.3) (mark_behind more.0 (literal_beginning later) (long (omega arith)))

pub marked_whole : (ps : List Piece) → IsMarked ps ps
marked_whole ps = (0, refl, λ some. absurd (some refl))

-- bytes that stand for themselves begin a pattern literally
literal_beginning-bytes : (front : List ℕ) (ps : List Piece) → literal_beginning (map (λ b. byte b) front ++ ps) ≡ front ++ literal_beginning ps
literal_beginning-bytes [] ps = refl
literal_beginning-bytes (b ∷ front) ps = ap (λ l. b ∷ l) (literal_beginning-bytes front ps)

pub marked_front : (front : List ℕ) (ps : List Piece) (number : ℕ) → number ≡ mark (front ++ literal_beginning ps) → IsMarkOf number (map (λ b. byte b) front ++ ps)
marked_front front ps number is =
    let all : List Piece = map (λ b. byte b) front ++ ps in
    let own : number ≡ mark (literal_beginning all) = is ∙ ap mark (sym (literal_beginning-bytes front ps)) in
    subst (λ n. IsMarkOf n all) (sym own) (marked all all (marked_whole all))

-- digits behind those of a mark
pub folded_behind : (front later : List ℕ) → fold with_digit (mark front) later ≡ fold with_digit 0 (front ++ later)
folded_behind front later = ap (λ n. fold with_digit n later) (sym (folded front)) ∙ sym (fold-append with_digit 0 front later)

-- ends of a list
abbrev pub IsTail : {X : Type 0} → List X → List X → Type 0
IsTail whole end = (n : ℕ) × (end ≡ drop n whole)

pub behind_first : {X : Type 0} (n : ℕ) (whole : List X) (x : X) (end : List X) → x ∷ end ≡ drop n whole → end ≡ drop (suc n) whole
behind_first zero whole x end e = ap (drop 1) e
behind_first (suc n) [] x end e = absurd (cc)
behind_first (suc n) (y ∷ whole) x end e = behind_first n whole x end e

drop_twice : {X : Type 0} (n k : ℕ) (whole : List X) → drop k (drop n whole) ≡ drop (n + k) whole
drop_twice zero k whole = ap (λ i. drop i whole) (omega arith)
drop_twice (suc n) k [] = drop-nil k ∙ sym (drop-nil (suc n + k))
drop_twice (suc n) k (x ∷ whole) =
    let one : suc (n + k) ≡ suc n + k = omega arith in
    drop_twice n k whole ∙ ap (λ i. drop i (x ∷ whole)) one

pub tail_behind : {X : Type 0} (whole end : List X) (x : X) (behind : List X) → IsTail whole end → end ≡ x ∷ behind → IsTail whole behind
tail_behind whole end x behind (n, is) split = (suc n, behind_first n whole x behind (sym split ∙ is))

pub tail_dropped : {X : Type 0} (whole end : List X) (k : ℕ) → IsTail whole end → IsTail whole (drop k end)
tail_dropped whole end k (n, is) = (n + k, ap (drop k) is ∙ drop_twice n k whole)

pub tail_behind_front : {X : Type 0} (front later end : List X) (count : ℕ) → end ≡ drop count later → IsTail (front ++ later) end
tail_behind_front front later end count is = (length front + count, is ∙ sym (drop-append-add front later count))

pub marked_tail : (ps later : List Piece) → IsTail ps later → 8 ≤ length (literal_beginning later) → IsMarked ps later
marked_tail ps later (n, is) long = (n, is, λ some. long)
