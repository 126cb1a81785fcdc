-- The bytes at the beginning of a pattern that stand for themselves.
use Rattle.std.proofs.Common.{◌≡◌, ◌≢◌, ◌≤◌, ℕ, suc, Bool, true, false, List, [], ◌∷◌, ◌++◌, length, map, take, drop, Result, Ok, Err, ◌↔◌, inl, inr, refl, sym, ◌∙◌, ap, subst, arith}
use Rattle.std.specs.List.{prefix_len}
use Rattle.alias_match.specs.declared.read.PatternError.{PatternError}
use Rattle.alias_match.specs.Pattern.{Piece, byte, Matches}
use Rattle.alias_match.specs.Reading.{BeginsPlainly, HasItem, IsPattern, Reads, item, is_plain, pieces_before, pieces_of}
use Rattle.alias_match.proofs.Items.{is_pattern, pieces_known}
use Rattle.alias_match.proofs.Members.{told}
use Rattle.alias_match.proofs.Reading.{byte_item}

differs : (b k : ℕ) → is_plain k ≡ false → is_plain b ≡ true → b ≢ k
differs b k other plain e = let same : is_plain k ≡ true = subst (λ x. is_plain x ≡ true) e plain in cc

pub plain_reads : (b : ℕ) (s : List ℕ) → is_plain b ≡ true → HasItem b s (Ok (byte b, s))
plain_reads b s h = byte_item b s (differs b 42 refl h, differs b 45 refl h, differs b 63 refl h, differs b 91 refl h, differs b 92 refl h)

abbrev pub bytes_of : List ℕ → List Piece
bytes_of front = map (λ b. byte b) front

nothing_before : (r : Result (List Piece) PatternError) → pieces_before [] r ≡ r
nothing_before (Ok ps) = refl
nothing_before (Err e) = refl

one_before : (b : ℕ) (front : List ℕ) (r : Result (List Piece) PatternError) → pieces_before (byte b ∷ []) (pieces_before (bytes_of front) r) ≡ pieces_before (bytes_of (b ∷ front)) r
one_before b front (Ok ps) = refl
one_before b front (Err e) = refl

counted : (p : ℕ → Bool) (b : ℕ) (s : List ℕ) → p b ≡ true → prefix_len p (b ∷ s) ≡ suc (prefix_len p s)
counted p b s t = rw t (omega arith)

uncounted : (p : ℕ → Bool) (b : ℕ) (s : List ℕ) → p b ≡ false → prefix_len p (b ∷ s) ≡ 0
uncounted p b s f = rw f refl

-- whatever the rest is, with the first bytes before it it is the text
abbrev ReadsBehind : List ℕ → ℕ → Result (List Piece) PatternError → Type 0
ReadsBehind text count r = Reads (drop count text) r → Reads text (pieces_before (bytes_of (take count text)) r)

none_behind : (text : List ℕ) (r : Result (List Piece) PatternError) → ReadsBehind text 0 r
none_behind text r h = subst (λ x. Reads text x) (sym (nothing_before r)) h

one_behind : (b : ℕ) (s : List ℕ) (count : ℕ) (r : Result (List Piece) PatternError) → is_plain b ≡ true → ReadsBehind s count r → ReadsBehind (b ∷ s) (suc count) r
one_behind b s count r plain rest h =
    subst (λ x. Reads (b ∷ s) x) (one_before b (take count s) r) (item b s s (byte b) (pieces_before (bytes_of (take count s)) r) (plain_reads b s plain) (rest h))

reads_behind : (text : List ℕ) (r : Result (List Piece) PatternError) → ReadsBehind text (prefix_len is_plain text) r
reads_behind [] r = none_behind [] r
reads_behind (b ∷ s) r = elim (told (is_plain b)) [
  | inl t ↦ subst (λ n. ReadsBehind (b ∷ s) n r) (sym (counted is_plain b s t)) (one_behind b s (prefix_len is_plain s) r t (reads_behind s r))
  | inr f ↦ subst (λ n. ReadsBehind (b ∷ s) n r) (sym (uncounted is_plain b s f)) (none_behind (b ∷ s) r)
]

behind : (text : List ℕ) (count : ℕ) (r : Result (List Piece) PatternError) → count ≡ prefix_len is_plain text → ReadsBehind text count r
behind text count r is = subst (λ n. ReadsBehind text n r) (sym is) (reads_behind text r)

pub begins_plainly : (text : List ℕ) (count : ℕ) → count ≡ prefix_len is_plain text → count ≤ length text → IsPattern (drop count text) → BeginsPlainly text count
begins_plainly text count is within rest =
    let whole : Reads text (Ok (bytes_of (take count text) ++ pieces_of (drop count text))) = behind text count (Ok (pieces_of (drop count text))) is rest in
    record { within = within; whole = is_pattern whole; behind = rest; pieces = pieces_known whole }

pub fault_behind : (text : List ℕ) (count : ℕ) (e : PatternError) → count ≡ prefix_len is_plain text → Reads (drop count text) (Err e) → Reads text (Err e)
fault_behind text count e is h = behind text count (Err e) is h

-- bytes take themselves
front_matches : (front : List ℕ) (ps : List Piece) (rest : List ℕ) → Matches ps rest → Matches (bytes_of front ++ ps) (front ++ rest)
front_matches [] ps rest m = m
front_matches (b ∷ front) ps rest m = (b ∷ [], front ++ rest, refl, refl, front_matches front ps rest m)

pub matches_front : (front : List ℕ) (ps : List Piece) (text : List ℕ) → Matches (bytes_of front ++ ps) text → (rest : List ℕ) × (text ≡ front ++ rest) × Matches ps rest
matches_front [] ps text m = (text, refl, m)
matches_front (b ∷ front) ps text (head, tail, split, here, later) =
    let more : (rest : List ℕ) × (tail ≡ front ++ rest) × Matches ps rest = matches_front front ps tail later in
    (more.0, split ∙ ap (λ l. l ++ tail) here ∙ ap (λ l. b ∷ l) more.1, more.2)

-- the same front behind which one rest stands
same_rest : (front rest other : List ℕ) → front ++ rest ≡ front ++ other → rest ≡ other
same_rest [] rest other e = e
same_rest (b ∷ front) rest other e = let tails : front ++ rest ≡ front ++ other = cc in same_rest front rest other tails

pub behind_front : (answer : Bool) (all ps : List Piece) (front text rest : List ℕ) → all ≡ bytes_of front ++ ps → text ≡ front ++ rest → (answer ≡ true) ↔ Matches ps rest → (answer ≡ true) ↔ Matches all text
behind_front answer all ps front text rest pieces split h = (
  (λ found. subst (λ l. Matches l text) (sym pieces) (subst (λ t. Matches (bytes_of front ++ ps) t) (sym split) (front_matches front ps rest (h.0 found)))),
  (λ m. let own : (end : List ℕ) × (text ≡ front ++ end) × Matches ps end = matches_front front ps text (subst (λ l. Matches l text) pieces m) in
      h.1 (subst (λ t. Matches ps t) (same_rest front own.0 rest (sym own.1 ∙ split)) own.2)),
)

pub no_front : (all ps : List Piece) (front text : List ℕ) → all ≡ bytes_of front ++ ps → ((rest : List ℕ) → text ≢ front ++ rest) → Matches all text → ⊥
no_front all ps front text pieces none m =
    let own : (end : List ℕ) × (text ≡ front ++ end) × Matches ps end = matches_front front ps text (subst (λ l. Matches l text) pieces m) in
    none own.0 own.1
