-- A step on a word answers what the one-thread table answers, and leaves the word that belongs to the next table.
use Rattle.std.proofs.Common.{◌≡◌, ℕ, zero, suc, ◌+◌, ◌-◌, ◌<◌, Bool, true, false, not, eqb, ltb, leb, cond, Option, None, unwrap_or, refl, sym, ◌∙◌, ap, arith}
use Rattle.std.proofs.lemmas.Bool.Decides.{nat_tests}
use Rattle.std.specs.Option.{is_some}
use Rattle.dep_index.specs.declared.table.states.ModuleState.{ModuleState}
use Rattle.dep_index.specs.declared.table.states.ModuleState.TheVariants.{Absent, Loading, Live, Draining, Unloading}
use Rattle.dep_index.specs.declared.table.calls.Reply.{Reply}
use Rattle.dep_index.specs.declared.table.calls.Reply.TheVariants.{Done, Yes, No, NotLive, TooMany, NotHeld, InUse}
use Rattle.dep_index.specs.Table.{is_live, takes_references}
use Rattle.dep_index.specs.Calls.{refuse}
use Rattle.dep_index.specs.Words.{MatchOutcome, word_in, get_look, takes_effect, put_step, query_look, close_step, WordStep, Effect, GoesOn, is_open}

open_live : (n : ℕ) → n < 4294967296 → ltb n 4294967296 ≡ true
open_live n h = grind (arith, nat_tests)

open_draining : (n : ℕ) → ltb (8589934592 + n) 4294967296 ≡ false
open_draining n = grind (arith, nat_tests)

abbrev get_answer : ModuleState → ℕ → Reply
get_answer s c = unwrap_or (refuse (not (is_live s)) NotLive (refuse (leb 65535 c) TooMany None)) Done

count_answer : (b : Bool) (c : ℕ) → leb 65535 c ≡ b → cond (ltb c 65535) Done TooMany ≡ unwrap_or (refuse b TooMany None) Done
count_answer true c h = let e : ltb c 65535 ≡ false = grind (arith, nat_tests) in rw e
count_answer false c h = let e : ltb c 65535 ≡ true = grind (arith, nat_tests) in rw e

get_look_live : (b : Bool) (n c : ℕ) → eqb c 0 ≡ b
    → MatchOutcome (cond b (record { word = n; outcome = GoesOn n }) (takes_effect n (cond (ltb c 65535) Done TooMany))).outcome (λ r. r ≡ get_answer Live c) (λ x. (Live ≡ Live) × (c ≡ 0) × (x ≡ n))
get_look_live true n c h = (refl, grind (arith, nat_tests), refl)
get_look_live false n c h = count_answer (leb 65535 c) c refl

-- the load of a get answers what the table answers; it goes on to the exchange only if the get will be done
pub get_look_law : (s : ModuleState) (n c : ℕ) → n < 4294967296
    → MatchOutcome (get_look c (word_in s n)).outcome (λ r. r ≡ get_answer s c) (λ x. (s ≡ Live) × (c ≡ 0) × (x ≡ n))
get_look_law Absent n c h = refl
get_look_law Loading n c h = refl
get_look_law Unloading n c h = refl
get_look_law Draining n c h = rw open_draining refl
get_look_law Live n c h = rw open_live (get_look_live (eqb c 0) n c refl)

put_answer_done : (b : Bool) (w c : ℕ) → eqb c 0 ≡ b → (put_step c w).outcome ≡ Effect (unwrap_or (refuse b NotHeld None) Done)
put_answer_done true w c h = rw h refl
put_answer_done false w c h = rw h refl

-- a put answers what the table answers
pub put_step_law : (w c : ℕ) → (put_step c w).outcome ≡ Effect (unwrap_or (refuse (eqb c 0) NotHeld None) Done)
put_step_law w c = put_answer_done (eqb c 0) w c refl

no_holders : (n : ℕ) → (0 < n → false ≡ true) → ltb 0 n ≡ false
no_holders zero held = refl
no_holders (suc n) held = let e : false ≡ true = held (omega arith) in cc

above_drained : (n : ℕ) → ltb 8589934592 (8589934592 + n) ≡ ltb 0 n
above_drained zero = refl
above_drained (suc n) =
    let e : ltb 8589934592 (8589934592 + suc n) ≡ true = grind (arith, nat_tests) in
    let p : ltb 0 (suc n) ≡ true = grind (arith, nat_tests) in
    e ∙ sym p

-- a load of a query answers whether some worker holds the slot, if only Live and Draining modules are held
pub query_look_law : (s : ModuleState) (n : ℕ) → n < 4294967296 → (0 < n → takes_references s ≡ true)
    → (query_look (word_in s n)).outcome ≡ Effect (cond (ltb 0 n) Yes No)
query_look_law Absent n h held = rw (no_holders n held) refl
query_look_law Loading n h held = rw (no_holders n held) refl
query_look_law Unloading n h held = rw (no_holders n held) refl
query_look_law Draining n h held = rw (open_draining, above_drained) refl
query_look_law Live n h held = rw open_live refl

closes_at_zero : (b : Bool) (n : ℕ) → ltb 0 n ≡ b → (close_step 0 n).outcome ≡ Effect (unwrap_or (refuse b InUse None) Done)
closes_at_zero true n h = let e : eqb n 0 ≡ false = grind (arith, nat_tests) in rw e refl
closes_at_zero false n h = let e : eqb n 0 ≡ true = grind (arith, nat_tests) in rw e refl

-- an exchange of Open 0 is made exactly if nobody holds the slot
pub close_open_law : (n : ℕ) → (close_step 0 n).outcome ≡ Effect (unwrap_or (refuse (ltb 0 n) InUse None) Done)
close_open_law n = closes_at_zero (ltb 0 n) n refl

pub close_open_word : (n : ℕ) → (close_step 0 n).word ≡ cond (ltb 0 n) n 4294967296
close_open_word zero = refl
close_open_word (suc n) =
    let e : eqb (suc n) 0 ≡ false = grind (arith, nat_tests) in
    let p : ltb 0 (suc n) ≡ true = grind (arith, nat_tests) in
    rw (e, p) refl

closes_drained : (b : Bool) (n : ℕ) → ltb 0 n ≡ b → (close_step 8589934592 (8589934592 + n)).outcome ≡ Effect (unwrap_or (refuse b InUse None) Done)
closes_drained true n h = let e : eqb (8589934592 + n) 8589934592 ≡ false = grind (arith, nat_tests) in rw e refl
closes_drained false n h = let e : eqb (8589934592 + n) 8589934592 ≡ true = grind (arith, nat_tests) in rw e refl

-- an exchange of Drain 0 likewise
pub close_drain_law : (n : ℕ) → (close_step 8589934592 (8589934592 + n)).outcome ≡ Effect (unwrap_or (refuse (ltb 0 n) InUse None) Done)
close_drain_law n = closes_drained (ltb 0 n) n refl

pub close_drain_word : (n : ℕ) → (close_step 8589934592 (8589934592 + n)).word ≡ cond (ltb 0 n) (8589934592 + n) 4294967296
close_drain_word zero = refl
close_drain_word (suc n) =
    let e : eqb (8589934592 + suc n) 8589934592 ≡ false = grind (arith, nat_tests) in
    let p : ltb 0 (suc n) ≡ true = grind (arith, nat_tests) in
    rw (e, p) refl

-- a step answers what the refusal or else the answer says, and leaves the word as it was, or the one after the call
abbrev pub Steps : WordStep → Option Reply → Reply → ℕ → ℕ → Type 0
Steps step refused answer word after =
    MatchOutcome step.outcome
    (λ r. (r ≡ unwrap_or refused answer) × (step.word ≡ cond (is_some refused) word after))
    (λ x. (refused ≡ None) × (answer ≡ Done) × (x ≡ word) × (step.word ≡ x) × (is_open x ≡ true) × (after ≡ x + 1))

get_live_later : (b : Bool) (n c m : ℕ) → leb 65535 c ≡ b → m ≡ n
    → Steps (takes_effect n (cond (ltb c 65535) Done TooMany)) (refuse b TooMany None) Done n m
get_live_later true n c m h e = (count_answer true c h, refl)
get_live_later false n c m h e = (count_answer false c h, sym e)

get_live : (b : Bool) (n c m : ℕ) → n < 4294967296 → m + cond (ltb 0 c) 1 0 ≡ n + 1 → eqb c 0 ≡ b
    → Steps (cond b (record { word = n; outcome = GoesOn n }) (takes_effect n (cond (ltb c 65535) Done TooMany))) (refuse (leb 65535 c) TooMany None) Done n m
get_live true n c m h one z =
    let none : c ≡ 0 = grind (arith, nat_tests) in
    let few : leb 65535 c ≡ false = grind (arith, nat_tests) in
    let t : ltb 0 c ≡ false = grind (arith, nat_tests) in
    let more : m + cond false 1 0 ≡ n + 1 = rw t at one in
    (rw few refl, refl, refl, refl, open_live n h, omega (arith, more))
get_live false n c m h one z =
    let t : ltb 0 c ≡ true = grind (arith, nat_tests) in
    let same : m + cond true 1 0 ≡ n + 1 = rw t at one in
    get_live_later (leb 65535 c) n c m refl (omega (arith, same))

pub get_steps : (s : ModuleState) (n c m : ℕ) → n < 4294967296 → m + cond (ltb 0 c) 1 0 ≡ n + 1
    → Steps (get_look c (word_in s n)) (refuse (not (is_live s)) NotLive (refuse (leb 65535 c) TooMany None)) Done (word_in s n) (word_in s m)
get_steps Absent n c m h one = (refl, refl)
get_steps Loading n c m h one = (refl, refl)
get_steps Unloading n c m h one = (refl, refl)
get_steps Draining n c m h one = rw open_draining (refl, refl)
get_steps Live n c m h one = rw open_live (get_live (eqb c 0) n c m h one refl)

put_word : (s : ModuleState) (n m : ℕ) → takes_references s ≡ true → m + 1 ≡ n → word_in s n - 1 ≡ word_in s m
put_word Absent n m t e = cc
put_word Loading n m t e = cc
put_word Unloading n m t e = cc
put_word Draining n m t e = omega arith
put_word Live n m t e = omega arith

put_last : (b : Bool) (s : ModuleState) (n c m : ℕ) → (0 < c → takes_references s ≡ true) → eqb c 0 ≡ false → m + cond (ltb 0 c) 1 0 ≡ n + cond (ltb 0 (c - 1)) 1 0
    → eqb c 1 ≡ b → cond b (word_in s n - 1) (word_in s n) ≡ word_in s m
put_last true s n c m takes some one e =
    let is : c ≡ 1 = grind (arith, nat_tests) in
    let t : ltb 0 c ≡ true = grind (arith, nat_tests) in
    let u : ltb 0 (c - 1) ≡ false = grind (arith, nat_tests) in
    let fewer : m + cond true 1 0 ≡ n + cond false 1 0 = rw (t, u) at one in
    put_word s n m (takes (omega arith)) (omega (arith, fewer))
put_last false s n c m takes some one e =
    let t : ltb 0 c ≡ true = grind (arith, nat_tests) in
    let u : ltb 0 (c - 1) ≡ true = grind (arith, nat_tests) in
    let same : m + cond true 1 0 ≡ n + cond true 1 0 = rw (t, u) at one in
    ap (word_in s) (omega (arith, same))

pub put_steps : (s : ModuleState) (n c m : ℕ) → (0 < c → takes_references s ≡ true) → m + cond (ltb 0 c) 1 0 ≡ n + cond (ltb 0 (c - 1)) 1 0
    → Steps (put_step c (word_in s n)) (refuse (eqb c 0) NotHeld None) Done (word_in s n) (word_in s m)
put_steps s n c m takes one = at (eqb c 0) refl where
  at : (b : Bool) → eqb c 0 ≡ b
      → Steps (cond b (takes_effect (word_in s n) NotHeld) (takes_effect (cond (eqb c 1) (word_in s n - 1) (word_in s n)) Done)) (refuse b NotHeld None) Done (word_in s n) (word_in s m)
  at true e = (refl, refl)
  at false e = (refl, put_last (eqb c 1) s n c m takes e one refl)

pub query_steps : (s : ModuleState) (n : ℕ) → n < 4294967296 → (0 < n → takes_references s ≡ true)
    → Steps (query_look (word_in s n)) None (cond (ltb 0 n) Yes No) (word_in s n) (word_in s n)
query_steps s n h held = let e : (query_look (word_in s n)).outcome ≡ Effect (cond (ltb 0 n) Yes No) = query_look_law s n h held in
    (effect_reply _ _ e, refl) where
      effect_reply : (a b : Reply) → Effect a ≡ Effect b → a ≡ b
      effect_reply a b e = cc
