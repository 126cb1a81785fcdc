use Rattle.std.proofs.Common.{◌≡◌, ◌++◌, ◌∙◌, ap, sym, true, false, List, ℕ}
use Rattle.kmod_query.specs.declared.answer.Failure.TheVariants.{InUse}
use Rattle.kmod_query.specs.Answers.{Answer, and_also, said}
use Rattle.kmod_query.specs.Objects.{object_of, objects_of}
use Rattle.kmod_query.specs.Removal.{is_in_use, refused, removed_after, take_each}
use Rattle.kmod_query.specs.Removals.{removals_of}
use Rattle.kmod_query.specs.World.{facts_of}
use Rattle.kmod_query.proofs.RemovalLemmas.{Goes-in_use, Goes-release}
use Rattle.kmod_query.proofs.TextLemmas.{IfOk-map}
use Rattle.kmod_query.proofs.removal.release.Goals as goal

pub returns-then-branch : goal.returns-then-branch
returns-then-branch c =
    let facts = facts_of c.args.asked.now.world in
    let own = object_of c.args.object.now in
    let used : is_in_use facts c.args.asked.now.query own ≡ true = sym c.in_ok-is_in_use.ensures ∙ c.if-branch.true in
    IfOk-map c.refuse.result (λ step refusal. Goes-in_use facts c.args.asked.now.query c.args.soft own c.args.course.now.way (removals_of c.args.course.now.stack.items) step used
    (λ later. refusal later ∙ ap (λ (n : List ℕ). refused c.args.asked.now.query c.args.soft (InUse n) later) (c.in_ok-name.ensures ∙ c.deref.ensures.value)))
    c.refuse.ensures

pub returns : goal.returns
returns c =
    let facts = facts_of c.args.asked.now.world in
    let own = object_of c.args.object.now in
    let free : is_in_use facts c.args.asked.now.query own ≡ false = sym c.in_ok-is_in_use.ensures ∙ c.if-branch.false in
    let taken : objects_of c.in_ok-items.items.items ≡ removed_after facts c.args.asked.now.query own.name = c.in_ok-items.ensures ∙ ap (removed_after facts c.args.asked.now.query) c.deref-2.ensures.value in
    Goes-release facts c.args.asked.now.query c.args.soft own c.args.course.now.way (removals_of c.args.course.now.stack.items) (removals_of c.push_each.new.stack.items) (record { answer = c.said.result; ended = false }) free
    (c.in_ok-push_each.ensures ∙ ap (λ l. take_each l ++ removals_of c.args.course.now.stack.items) taken)
    (λ later. ap (λ (a : Answer). and_also a later) (c.said.ensures ∙ ap said c.in_ok-lines.ensures))
