use Rattle.std.proofs.Common.{◌≡◌, ◌<◌, ◌∙◌, sym, ap, arith, [], ◌-◌}
use Rattle.std.specs.List.{list_all}
use Rattle.modprobe_words.specs.Variable.{bytes_of}
use Rattle.modprobe_files.specs.Rooted.{at, is_part, linked, missing, no_folder, resolved_from, walk}
use Rattle.modprobe_files.specs.declared.walk.Stop.TheVariants.{At, Linked, Missing, NoFolder}
use Rattle.modprobe_files.proofs.RootLemmas.{are-parts, resolved-more, resolved-none, root-reached, stop-is, stopped-is}
use Rattle.modprobe_files.proofs.walk.resolve.Goals as goal

-- the root is reached, and all parts are left
pub loop-followed-init : goal.loop-followed-init
loop-followed-init g c =
    record {
      folder = rw c.new-place.ensures.items (root-reached (g.S.System.entries c.args.system.now));
      parts = ap (list_all is_part) c.in_ok-parts.ensures ∙ are-parts c.args.path.now;
      same = λ known t.
          ap (λ place. resolved_from known 41 (bytes_of place) (bytes_of c.in_ok-parts.parts.items)) c.new-place.ensures.items
          ∙ ap (λ parts. resolved_from known 41 [] parts) c.in_ok-parts.ensures;
    }

pub returns-in-At-clause-leads : goal.returns-in-At-clause-leads
returns-in-At-clause-leads g c known t =
    let less : c.loop-followed.followed < 41 = omega arith in
    let stop : at (bytes_of c.walk.new.place.items) ≡ walk known (bytes_of c.loop-followed.place.items) (bytes_of c.loop-followed.parts.items) =
    stop-is c.in_ok-left.field-0 At (bytes_of c.walk.new.place.items) _ c.in-At.is (rw c.deref.ensures.value at (c.in_ok-left.ensures.stop known t)) in
    resolved-more known c.loop-followed.followed _ _ (at (bytes_of c.walk.new.place.items)) _ less stop (c.loop-followed.invariant.same known t)

pub returns-in-Missing-clause-leads : goal.returns-in-Missing-clause-leads
returns-in-Missing-clause-leads g c known t =
    let less : c.loop-followed.followed < 41 = omega arith in
    let stop : missing ≡ walk known (bytes_of c.loop-followed.place.items) (bytes_of c.loop-followed.parts.items) =
    stop-is c.in_ok-left.field-0 Missing (bytes_of c.walk.new.place.items) _ c.in-Missing.is (rw c.deref.ensures.value at (c.in_ok-left.ensures.stop known t)) in
    resolved-more known c.loop-followed.followed _ _ missing _ less stop (c.loop-followed.invariant.same known t)

pub returns-in-NoFolder-clause-leads : goal.returns-in-NoFolder-clause-leads
returns-in-NoFolder-clause-leads g c known t =
    let less : c.loop-followed.followed < 41 = omega arith in
    let stop : no_folder ≡ walk known (bytes_of c.loop-followed.place.items) (bytes_of c.loop-followed.parts.items) =
    stop-is c.in_ok-left.field-0 NoFolder (bytes_of c.walk.new.place.items) _ c.in-NoFolder.is (rw c.deref.ensures.value at (c.in_ok-left.ensures.stop known t)) in
    resolved-more known c.loop-followed.followed _ _ no_folder _ less stop (c.loop-followed.invariant.same known t)

-- a link was followed: a walk less is left
pub loop-followed-preserved : goal.loop-followed-preserved
loop-followed-preserved g c =
    let less : c.loop-followed.followed < 41 = omega arith in
    let stopped = stopped-is (g.S.System.entries c.args.system.now) c.in_ok-left.field-0 (Linked c.in-Linked.left) (bytes_of c.walk.new.place.items) c.in-Linked.is c.in_ok-left.ensures.inside in
    record {
      folder = stopped.0;
      parts = stopped.1;
      same = λ known t.
          resolved-more known c.loop-followed.followed (bytes_of c.loop-followed.place.items) (bytes_of c.loop-followed.parts.items)
          (linked (bytes_of c.walk.new.place.items) (bytes_of c.in-Linked.left.items)) _ less
          (stop-is c.in_ok-left.field-0 (Linked c.in-Linked.left) (bytes_of c.walk.new.place.items) _ c.in-Linked.is (rw c.deref.ensures.value at (c.in_ok-left.ensures.stop known t)))
          (c.loop-followed.invariant.same known t);
    }

-- no walk is left
pub returns-clause-leads : goal.returns-clause-leads
returns-clause-leads g c known t =
    let none : 41 - c.loop-followed.followed ≡ 0 = omega arith in
    sym (resolved-none known (bytes_of c.loop-followed.place.items) (bytes_of c.loop-followed.parts.items))
    ∙ ap (λ n. resolved_from known n (bytes_of c.loop-followed.place.items) (bytes_of c.loop-followed.parts.items)) (sym none)
    ∙ c.loop-followed.invariant.same known t
