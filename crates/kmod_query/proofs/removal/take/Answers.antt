use Rattle.std.proofs.Common.{◌≡◌, ◌∙◌, ap, sym, true, false}
use Rattle.std.specs.List.{list_any}
use Rattle.std.specs.Str.{bytes_eq}
use Rattle.kmod_query.specs.Objects.{object_of}
use Rattle.kmod_query.specs.Removal.{pass, refuse, remove, verdict}
use Rattle.kmod_query.specs.Removals.{removals_of}
use Rattle.kmod_query.specs.Verdicts.{verdict_of}
use Rattle.kmod_query.specs.World.{facts_of}
use Rattle.kmod_query.proofs.RemovalLemmas.{Goes-on_way, Goes-pass, Goes-refuse, Goes-remove, on_way, way-enter}
use Rattle.kmod_query.proofs.TextLemmas.{IfOk-map}
use Rattle.kmod_query.proofs.removal.take.Goals as goal

pub returns-then-has : goal.returns-then-has
returns-then-has c =
    let facts = facts_of c.args.asked.now.world in
    let own = object_of c.args.object in
    let way = c.args.course.now.way in
    let known : list_any (bytes_eq own.name) way ≡ true = on_way own.name c.deref.result.now way c.has.result true c.deref.ensures.value c.has.ensures c.if-has.true in
    Goes-on_way facts c.args.asked.now.query c.args.soft own way (removals_of c.args.course.now.stack.items) c.silent.result known c.silent.ensures

pub returns-in-Pass : goal.returns-in-Pass
returns-in-Pass c =
    let facts = facts_of c.args.asked.now.world in
    let own = object_of c.args.object in
    let way = c.args.course.now.way in
    let unknown : list_any (bytes_eq own.name) way ≡ false = on_way own.name c.deref.result.now way c.has.result false c.deref.ensures.value c.has.ensures c.if-has.false in
    let told : pass ≡ verdict facts c.args.asked.now.query c.args.soft own = sym (ap verdict_of c.in-Pass.is) ∙ c.in_ok-judge.ensures in
    Goes-pass facts c.args.asked.now.query c.args.soft own way (removals_of c.args.course.now.stack.items) c.silent-in-Pass.result unknown told c.silent-in-Pass.ensures

pub returns-in-Refuse : goal.returns-in-Refuse
returns-in-Refuse c =
    let facts = facts_of c.args.asked.now.world in
    let own = object_of c.args.object in
    let way = c.args.course.now.way in
    let unknown : list_any (bytes_eq own.name) way ≡ false = on_way own.name c.deref.result.now way c.has.result false c.deref.ensures.value c.has.ensures c.if-has.false in
    let told : refuse c.in-Refuse.failure ≡ verdict facts c.args.asked.now.query c.args.soft own = sym (ap verdict_of c.in-Refuse.is) ∙ c.in_ok-judge.ensures in
    IfOk-map c.refuse.result (λ step refusal. Goes-refuse facts c.args.asked.now.query c.args.soft own way (removals_of c.args.course.now.stack.items) c.in-Refuse.failure step unknown told refusal) c.refuse.ensures

pub returns-in_ok-push_taken-in-Remove : goal.returns-in_ok-push_taken-in-Remove
returns-in_ok-push_taken-in-Remove c =
    let facts = facts_of c.args.asked.now.world in
    let own = object_of c.args.object in
    let way = c.args.course.now.way in
    let unknown : list_any (bytes_eq own.name) way ≡ false = on_way own.name c.deref.result.now way c.has.result false c.deref.ensures.value c.has.ensures c.if-has.false in
    let told : remove ≡ verdict facts c.args.asked.now.query c.args.soft own = sym (ap verdict_of c.in-Remove.is) ∙ c.in_ok-judge.ensures in
    Goes-remove facts c.args.asked.now.query c.args.soft own way c.enter.new.self (removals_of c.args.course.now.stack.items) (removals_of c.push_taken.new.stack.items) c.silent-in-Remove.result unknown told
    (way-enter way c.enter.new.self own.name c.deref-in-Remove.result.now unknown c.in_ok-enter-in-Remove.ensures c.deref-in-Remove.ensures.value)
    c.in_ok-push_taken-in-Remove.ensures c.silent-in-Remove.ensures
