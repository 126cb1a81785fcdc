-- All references to a module go back, one after another.
use Rattle.std.proofs.Common.{◌≡◌, ℕ, ◌-◌, ◌<◌, Bool, true, false, eqb, cond, List, [], length, get_or, refl, sym, ap, ◌∙◌, arith, get_or-set_same}
use Rattle.std.proofs.Math.ListN.{set}
use Rattle.std.specs.Option.{is_some}
use Rattle.std.proofs.lemmas.Bool.{ne_eqb}
use Rattle.std.proofs.lemmas.List.{set-set, set-get_or}
use Rattle.dep_index.specs.Table.{Module, Table, count_of}
use Rattle.dep_index.specs.Calls.{refusal, next, effect}
use Rattle.dep_index.specs.Laws.{IsShaped}
use Rattle.dep_index.specs.declared.table.calls.Call.TheVariants.{Put}
use Rattle.held_lines.specs.Held.{given_back}

given_after : (number slot count : ℕ) (t : Table) → number < length t.rows
    → given_back number slot (record { book = t.book; rows = set t.rows number (set (get_or t.rows number []) slot count) }) ≡ given_back number slot t
given_after number slot count t here =
    let rows = t.rows in
    let row = get_or rows number [] in
    let less = set row slot count in
    let at : get_or (set rows number less) number [] ≡ less = get_or-set_same rows number less [] here in
    rw (at, set-set row slot count 0, set-set rows number less (set row slot 0)) refl

-- A put comes to the same in the end.
pub given_more : (catalogue : List Module) (number slot : ℕ) (t : Table) → number < length t.rows → given_back number slot (next catalogue t (Put number slot)) ≡ given_back number slot t
given_more catalogue number slot t here = at (is_some (refusal catalogue t (Put number slot))) where
  at : (b : Bool) → given_back number slot (cond b t (effect t (Put number slot))) ≡ given_back number slot t
  at true = refl
  at false = given_after number slot (get_or (get_or t.rows number []) slot 0 - 1) t here

-- What is not held was given back.
pub given_all : (number slot : ℕ) (t : Table) → count_of t number slot ≡ 0 → given_back number slot t ≡ t
given_all number slot t none =
    let row = get_or t.rows number [] in
    let same : set row slot 0 ≡ row = ap (λ (n : ℕ). set row slot n) (sym none) ∙ set-get_or row slot 0 in
    ap (λ (r : List ℕ). record { book = t.book; rows = set t.rows number r }) same ∙ ap (λ (rs : List (List ℕ)). record { book = t.book; rows = rs }) (set-get_or t.rows number [])

-- A put of what is held makes the count less.
pub put_less : (catalogue : List Module) (slots workers number slot : ℕ) (t : Table) → IsShaped slots workers t → number < workers → slot < slots → 0 < count_of t number slot
    → count_of (next catalogue t (Put number slot)) number slot < count_of t number slot
put_less catalogue slots workers number slot t shape worker below some =
    let rows = t.rows in
    let row = get_or rows number [] in
    let count = get_or row slot 0 in
    let less = set row slot (count - 1) in
    let here : number < length rows = omega (arith, shape.rows) in
    let there : slot < length row = omega (arith, shape.row number worker) in
    let held : eqb count 0 ≡ false = ne_eqb count 0 (omega arith) in
    let at : get_or (set rows number less) number [] ≡ less = get_or-set_same rows number less [] here in
    let left : get_or less slot 0 ≡ count - 1 = get_or-set_same row slot (count - 1) 0 there in
    rw (held, at, left) (omega arith)
