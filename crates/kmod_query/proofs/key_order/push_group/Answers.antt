use Rattle.std.proofs.Common.{◌≡◌, ◌≤◌, ◌∙◌, ◌++◌, ◌+◌, ◌/◌, Bor, None, ap, arith, length, refl, slice_get, subst, sym}
use Rattle.std.specs.List.{flat_map}
use Rattle.std.proofs.lemmas.List.{length-map}
use Rattle.kmod_index.specs.ForProofs.{pointed}
use Rattle.kmod_index.specs.Lines.{Keyed}
use Rattle.kmod_query.specs.KeyOrder.{lines_of}
use Rattle.kmod_query.specs.Shown.{index_line}
use Rattle.kmod_query.proofs.KeyOrderLemmas.{group_ended, group_parted, shows_few, shows_none}
use Rattle.kmod_query.proofs.ProbeLemmas.{OnOk-map}
use Rattle.kmod_query.proofs.key_order.push_group.Goals as goal

pub returns-in_default : goal.returns-in_default
returns-in_default c =
    let group = c.args.group in
    let none : slice_get c.deref.result.now (length c.deref.result.now / 2) ≡ None = sym c.in_default.ensures in
    shows_none group.depth group.lines.items c.args.text.now.items c.args.groups.now.items (subst (λ l. slice_get l (length l / 2) ≡ None) c.deref.ensures.value none)

pub returns-then-len-eq1 : goal.returns-then-len-eq1
returns-then-len-eq1 c =
    let group = c.args.group in
    let one : length c.args.group.lines.items ≤ 1 = omega (arith, c.len.ensures, c.if-len-eq1.true, c.args.group.lines.ok.0) in
    OnOk-map c.push_lines.result
    (λ shown. shows_few group.depth (lines_of group) c.args.text.now.items c.push_lines.new.text.items c.args.groups.now.items
    (omega (arith, one, length-map group.lines.items (λ (line : Bor Keyed). line.now)))
    (shown ∙ ap (λ l. c.args.text.now.items ++ flat_map index_line (pointed l)) c.deref-then-len-eq1.ensures.value))
    c.push_lines.ensures

pub returns-then-key-depth : goal.returns-then-key-depth
returns-then-key-depth c =
    let group = c.args.group in
    let parts = c.in_ok-less.field-0 in
    OnOk-map c.push_lines-then-key-depth.result
    (λ shown. group_ended group.depth c.code_at.result group.lines.items c.deref.result.now c.deref-2.result.now c.in-Some.middle c.key-key.result.now parts
    c.args.text.now.items c.push_lines-then-key-depth.new.text.items c.args.groups.now.items c.push.new.self.items (record { lines = parts.greater; depth = group.depth })
    c.requires c.deref.ensures.value c.in-Some.ensures c.key-key.ensures c.if-key-depth.true c.deref-2.ensures.value c.code_at.ensures c.in_ok-less.ensures
    refl refl (shown ∙ ap (λ l. c.args.text.now.items ++ flat_map index_line (pointed l)) c.deref-then-key-depth.ensures.value) c.in_ok-push.ensures.items)
    c.push_lines-then-key-depth.ensures

pub returns : goal.returns
returns c =
    let group = c.args.group in
    let parts = c.in_ok-less.field-0 in
    group_parted group.depth c.code_at.result group.lines.items c.deref.result.now c.deref-2.result.now c.in-Some.middle c.key-key.result.now parts
    c.args.text.now.items c.args.groups.now.items c.push.new.self.items c.push-2.new.self.items c.push-3.new.self.items
    (record { lines = parts.less; depth = group.depth }) (record { lines = parts.same; depth = group.depth + 1 }) (record { lines = parts.greater; depth = group.depth })
    c.requires c.deref.ensures.value c.in-Some.ensures c.key-key.ensures c.if-key-depth.false c.deref-2.ensures.value c.code_at.ensures c.in_ok-less.ensures
    refl refl refl refl refl refl c.in_ok-push.ensures.items c.in_ok-push-2.ensures.items c.in_ok-push-3.ensures.items
