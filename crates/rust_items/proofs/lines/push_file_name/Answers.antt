use Rattle.std.proofs.Common.{◌≡◌, ◌+◌, ◌++◌, drop, map, sym, ap, subst, ◌∙◌, rules, arith}
use Rattle.std.specs.Prelude.{string_bytes, OnOk}
use Rattle.std.specs.Str.Pattern.{FindsTextPrefix, LacksTextAt, StripsPrefix}
use Rattle.std.proofs.lemmas.Result.{on_ok_weaker}
use Rattle.rust_items.specs.FilePlaces.{on_line}
use Rattle.rust_items.specs.SourceViews.{beginning_view}
use Rattle.rust_items.proofs.FileLines.{begins_so, begins_otherwise, from_one_on, past_all}
use Rattle.rust_items.proofs.lines.push_file_name.Goals as goal

pub returns-in-Some : goal.returns-in-Some
returns-in-Some c =
    let p = c.prefix-item.result in
    let rest = map beginning_view (drop (c.loop-prefix.prefix-index + 1) c.args.prefixes.now) in
    let e : c.as_str.result.now ≡ string_bytes p.prefix = search rules in
    let f : c.deref.result.now ≡ string_bytes p.name = search rules in
    let strips = subst (λ w. StripsPrefix (FindsTextPrefix w) c.args.name.now c.in-Some.rest.now) e c.in-Some.ensures.cases in
    let shown = begins_so rest (beginning_view p) c.args.name.now c.in-Some.rest.now strips
    ∙ from_one_on c.args.prefixes.now c.loop-prefix.prefix-index p c.args.name.now _ c.loop-prefix-test.true c.prefix-item.is c.loop-prefix.invariant.left in
    on_ok_weaker c.push_shown.result (λ w. w ∙ ap (λ o. o ++ (on_line (string_bytes p.name) ++ on_line c.in-Some.rest.now)) c.loop-prefix.invariant.out ∙ ap (λ x. string_bytes c.args.out.now ++ x) shown) (subst (λ t. OnOk c.push_shown.result (string_bytes c.push_shown.new.out ≡ string_bytes c.loop-prefix.out ++ (on_line t ++ on_line c.in-Some.rest.now))) f c.push_shown.ensures)

pub loop-prefix-preserved : goal.loop-prefix-preserved
loop-prefix-preserved c =
    let p = c.prefix-item.result in
    let rest = map beginning_view (drop (c.loop-prefix.prefix-index + 1) c.args.prefixes.now) in
    let e : c.as_str.result.now ≡ string_bytes p.prefix = search rules in
    let lacks = subst (λ w. LacksTextAt w c.args.name.now 0) e c.in_default.ensures.cases in
    record {
      out = c.loop-prefix.invariant.out;
      left = sym (begins_otherwise rest (beginning_view p) c.args.name.now lacks)
          ∙ from_one_on c.args.prefixes.now c.loop-prefix.prefix-index p c.args.name.now _ c.loop-prefix-test.true c.prefix-item.is c.loop-prefix.invariant.left;
    }

pub returns : goal.returns
returns c =
    let all = past_all c.args.prefixes.now c.loop-prefix.prefix-index c.args.name.now _ (omega (arith, c.loop-prefix-test.false)) c.loop-prefix.invariant.left in
    on_ok_weaker c.push_on_line.result (λ w. w ∙ ap (λ o. o ++ on_line c.args.name.now) c.loop-prefix.invariant.out ∙ ap (λ x. string_bytes c.args.out.now ++ x) all) c.push_on_line.ensures
