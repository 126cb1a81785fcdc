-- From call to call: what crashes leave from the first to the last.
use Rattle.std.proofs.Common.{inl, inr, ⊎_elim, ℕ, List, sym, ◌∙◌, subst, arith}
use Rattle.line_journal.specs.Device.{History, IsOnDisk, Unchanged, Goes, AlwaysLeaves}

-- what was so at every moment is so now
pub leaves_now : {old new : History} {P : List ℕ → Type 0} → AlwaysLeaves old new P → (left : List ℕ) → new.leaves left → P left
leaves_now {old} {new} {P} always left now = always.each left (new.now_counts old.now left always.later now)

-- before the first call
pub from_here : (history : History) (P : List ℕ → Type 0) → ((left : List ℕ) → history.leaves left → P left) → AlwaysLeaves history history P
from_here history P here = record {
  later = omega arith;
  each = λ left since. here left (history.only_now left since);
  earlier = λ moment left le since. inl since;
}

pub from_disk : (history : History) (P : List ℕ → Type 0) (file : List ℕ) → IsOnDisk file history → P file → AlwaysLeaves history history P
from_disk history P file on_disk has = from_here history P (λ left now. subst P (sym (on_disk left now)) has)

-- one call more
pub then_call : {old mid new : History} {P : List ℕ → Type 0} {step : List ℕ → List ℕ → Type 0} → AlwaysLeaves old mid P → Goes step mid new
    → ((before left : List ℕ) → mid.leaves before → step before left → P left) → AlwaysLeaves old new P
then_call {old} {mid} {new} {P} {step} so_far goes here =
    let now : (left : List ℕ) → new.leaves left → P left = λ left leaves.
    let from = goes.steps left leaves in
    here from.0 left from.1 from.2 in
    record {
      later = omega (arith, so_far.later, goes.later);
      each = λ left since. ⊎_elim (so_far.each left) (now left) (goes.nothing_else old.now left so_far.later since);
      earlier = λ moment left le since. ⊎_elim (so_far.earlier moment left le) (λ leaves. inr (now left leaves)) (goes.nothing_else moment left (omega (arith, le, so_far.later)) since);
    }

-- one that changes nothing
pub then_same : {old mid new : History} {P : List ℕ → Type 0} → AlwaysLeaves old mid P → Goes Unchanged mid new → AlwaysLeaves old new P
then_same {old} {mid} {new} {P} so_far goes = then_call so_far goes (λ before left now same. subst P (sym same) (leaves_now so_far before now))

-- one that begins with a file that is on the disk
pub then_from : {old mid new : History} {P : List ℕ → Type 0} {step : List ℕ → List ℕ → Type 0} (file : List ℕ) → AlwaysLeaves old mid P → IsOnDisk file mid → Goes step mid new
    → ((left : List ℕ) → step file left → P left) → AlwaysLeaves old new P
then_from {old} {mid} {new} {P} {step} file so_far on_disk goes here = then_call so_far goes (λ before left now is. here left (subst (λ f. step f left) (on_disk before now) is))

-- one run after another
pub joined : {old mid new : History} {P : List ℕ → Type 0} → AlwaysLeaves old mid P → AlwaysLeaves mid new P → AlwaysLeaves old new P
joined {old} {mid} {new} {P} first second = record {
  later = omega (arith, first.later, second.later);
  each = λ left since. ⊎_elim (first.each left) (λ has. has) (second.earlier old.now left first.later since);
  earlier = λ moment left le since. ⊎_elim (first.earlier moment left le) (λ has. inr has) (second.earlier moment left (omega (arith, le, first.later)) since);
}

pub implies : {old new : History} {P Q : List ℕ → Type 0} → AlwaysLeaves old new P → ((left : List ℕ) → P left → Q left) → AlwaysLeaves old new Q
implies {old} {new} {P} {Q} always so = record {
  later = always.later;
  each = λ left since. so left (always.each left since);
  earlier = λ moment left le since. ⊎_elim (λ before. inl before) (λ has. inr (so left has)) (always.earlier moment left le since);
}

-- one run after another, of which the second has its own P
pub then_run : {old mid new : History} {P Q : List ℕ → Type 0} → AlwaysLeaves old mid P → AlwaysLeaves mid new Q → ((left : List ℕ) → Q left → P left) → AlwaysLeaves old new P
then_run {old} {mid} {new} {P} {Q} first second so = joined first (implies second so)

-- one call over a file that is on the disk
pub once : {old new : History} {step : List ℕ → List ℕ → Type 0} (file : List ℕ) → IsOnDisk file old → step file file → Goes step old new → AlwaysLeaves old new (step file)
once {old} {new} {step} file on_disk not_begun goes = then_from file (from_disk old (step file) file on_disk not_begun) on_disk goes (λ left is. is)

pub still_on_disk : {file : List ℕ} {mid new : History} → IsOnDisk file mid → Goes Unchanged mid new → IsOnDisk file new
still_on_disk {file} {mid} {new} on_disk goes = λ left now.
    let from = goes.steps left now in
    from.2 ∙ on_disk from.0 from.1
