-- Line feeds, by a mask of the first 64 bytes of a text.
use Rattle.std.proofs.Common.{◌≡◌, ◌≢◌, ℕ, ◌+◌, ◌<◌, ◌≤◌, ◌^◌, Bool, true, false, not, List, length, map, sym, ap, subst, ◌∙◌, arith, w64}
use Rattle.std.specs.Prelude.{◌==◌}
use Rattle.std.specs.Int.{trailing_zeros}
use Rattle.std.specs.List.{prefix_len}
use Rattle.std.specs.Simd.Lanes.{chunk, mask_l}
use Rattle.std.proofs.lemmas.List.{length-map}
use Rattle.std.proofs.lemmas.Nat.Bits.{bit_at-trailing_zeros}
use Rattle.std.proofs.lemmas.Simd.{length-chunk, mask_l-lt, none_from_empty_mask, run_in_chunk_fails, run_in_chunk_stops, trailing_mask_l}
use Rattle.memchr.specs.Find.{Nowhere, NoneBefore, Passes, is_byte}

-- the mask of the line feeds among the first 64 bytes
abbrev pub feeds_of : List ℕ → ℕ
feeds_of text = mask_l (map (λ byte. byte == 10) (chunk 0 64 text))

no_feed_of : (byte : ℕ) → (byte == 10) ≡ false → (byte == 10) ≢ true
no_feed_of byte other is = absurd (cc)

pub no_near_feed : (text : List ℕ) (mask : ℕ) → 64 ≤ length text → mask ≡ feeds_of text → mask ≡ 0 → Nowhere (Passes (is_byte 10) text) 0 64
no_near_feed text mask room is none k low high =
    no_feed_of _ (none_from_empty_mask (λ byte. byte == 10) text 0 64 0 room (sym is ∙ none) k low high)

pub near_feed_at : (text : List ℕ) (mask : ℕ) → 64 ≤ length text → mask ≡ feeds_of text → mask ≢ 0
    → NoneBefore (Passes (is_byte 10) text) 0 64 (trailing_zeros w64 mask) × Passes (is_byte 10) text (trailing_zeros w64 mask)
near_feed_at text mask room is some =
    let test : ℕ → Bool = λ byte. byte == 10 in
    let near : List ℕ = chunk 0 64 text in
    let long : length near ≡ 64 = length-chunk 0 64 text room in
    let small : mask < 2 ^ 64 =
    subst (λ m. m < 2 ^ 64) (sym is) (subst (λ n. feeds_of text < 2 ^ n) (length-map near test ∙ long) (mask_l-lt (map test near))) in
    let positive : 0 < feeds_of text = subst (λ m. 0 < m) is (omega arith) in
    let place : trailing_zeros w64 mask ≡ prefix_len (λ byte. not (test byte)) near =
    ap (trailing_zeros w64) is ∙ trailing_mask_l test 64 near (omega arith) positive in
    let behind : 0 + trailing_zeros w64 mask ≡ trailing_zeros w64 mask = omega arith in
    let below : trailing_zeros w64 mask < 64 = (bit_at-trailing_zeros w64 mask (omega arith) small).0 in (
      record {
        low = omega arith;
        high = below;
        before = λ k low high. no_feed_of _ (run_in_chunk_fails test text 0 64 (trailing_zeros w64 mask) 0 room place k low (omega arith));
      },
      subst (Passes (is_byte 10) text) behind (run_in_chunk_stops test text 0 64 (trailing_zeros w64 mask) 0 room place below),
    )
