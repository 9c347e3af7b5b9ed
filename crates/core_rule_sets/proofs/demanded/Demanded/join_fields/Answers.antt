use Rattle.std.proofs.Common.{◌≡◌, [], ◌∷◌, length, map, drop, sym, ap, ◌∙◌, subst, arith}
use Rattle.std.specs.Prelude.{IfErr}
use Rattle.std.proofs.lemmas.List.{drop_all}
use Rattle.model.specs.sites.Sites.{unfold_site, field_terms}
use Rattle.core_rule_sets.specs.Closings.{AreFieldsOf, EndsFull, GoOn, with_field_terms, with_member}
use Rattle.core_rule_sets.specs.SiteTables.{table_sites}
use Rattle.core_rule_sets.specs.SiteViews.{constraint_view}
use Rattle.core_rule_sets.proofs.ClosingClasses.{JoinedSoFar, joined_first, joined_next, joined_last, rest_below, same_first}
use Rattle.core_rule_sets.proofs.FullTables.{passed_on, member_full, least_full, members_full}
use Rattle.core_rule_sets.proofs.demanded.Demanded.join_fields.Goals as goal

pub loop-member-init : goal.loop-member-init
loop-member-init c = record {
  table = c.in_ok-fields.ensures.table;
  due = c.requires.due;
  joined = λ k least is h.
      let first = table_sites c.args.table.now in
      let now = table_sites c.add_fields.new.self in
      let ask = constraint_view c.args.constraint.now in
      let same = same_first c.in-Some.least.now least c.in-Some.rest.now c.in-Some.rest.now (sym c.in-Some.ensures.cases.0 ∙ is) in
      subst (λ u. JoinedSoFar first now c.args.self.now ask (unfold_site first u) k c.in_ok-fields.fields.items (map (unfold_site first) c.in-Some.rest.now) (map (unfold_site first) c.in-Some.rest.now)) same
      (joined_first first now c.args.self.now k h ask c.in-Some.least.now c.in_ok-fields.fields.items (map (unfold_site first) c.in-Some.rest.now) c.in_ok-fields.ensures.sites);
}

pub join_member-requires-clause-demands : goal.join_member-requires-clause-demands
join_member-requires-clause-demands c =
    let k = c.requires.demands in
    let j = c.loop-member.invariant.joined k.0 c.in-Some.least.now c.in-Some.ensures.cases.0 k.1 in
    (j.so_far, j.goes.demands)

pub join_member-requires-clause-within : goal.join_member-requires-clause-within
join_member-requires-clause-within c =
    let k = c.requires.demands in
    let j = c.loop-member.invariant.joined k.0 c.in-Some.least.now c.in-Some.ensures.cases.0 k.1 in
    let longer = j.goes.longer in
    let below = rest_below (length (table_sites c.args.table.now)) c.args.members.now c.in-Some.least.now c.in-Some.rest.now c.in-Some.ensures.cases.0 c.requires.within c.loop-member.member-index c.member-item.result c.loop-member-test.true c.member-item.is in
    omega (arith, longer, below)

pub join_member-requires-clause-fields : goal.join_member-requires-clause-fields
join_member-requires-clause-fields c =
    let k = c.requires.demands in
    let first = table_sites c.args.table.now in
    let now = table_sites c.loop-member.table in
    let j = c.loop-member.invariant.joined k.0 c.in-Some.least.now c.in-Some.ensures.cases.0 k.1 in
    let u = unfold_site first c.in-Some.least.now in
    (u, subst (λ l. AreFieldsOf now (constraint_view c.args.constraint.now) l u) (sym c.deref.ensures.value) j.of_least)

pub loop-member-preserved : goal.loop-member-preserved
loop-member-preserved c = record {
  table = c.in_ok-join_member.ensures.table;
  due = c.in_ok-join_member.ensures.due;
  joined = λ k least is h.
      let first = table_sites c.args.table.now in
      let now = table_sites c.loop-member.table in
      let after = table_sites c.join_member.new.table in
      let ask = constraint_view c.args.constraint.now in
      let below = rest_below (length first) c.args.members.now least c.in-Some.rest.now is c.requires.within c.loop-member.member-index c.member-item.result c.loop-member-test.true c.member-item.is in
      joined_next first now after c.loop-member.self c.join_member.new.self ask (unfold_site first least) k c.in_ok-fields.fields.items c.in-Some.rest.now c.loop-member.member-index c.member-item.result
      (map (unfold_site first) c.in-Some.rest.now) c.loop-member-test.true c.member-item.is below (c.loop-member.invariant.joined k least is h)
      (λ j u d f. c.in_ok-join_member.ensures.joined j u d (subst (λ l. AreFieldsOf now ask l u) (sym c.deref.ensures.value) f));
}

pub returns-clause-joined : goal.returns-clause-joined
returns-clause-joined c k h =
    let first = table_sites c.args.table.now in
    let now = table_sites c.loop-member.table in
    let ask = constraint_view c.args.constraint.now in
    let j = c.loop-member.invariant.joined k c.in-Some.least.now c.in-Some.ensures.cases.0 h in
    let none : drop c.loop-member.member-index c.in-Some.rest.now ≡ [] = drop_all c.loop-member.member-index c.in-Some.rest.now c.loop-member-test.false in
    subst (λ l. GoOn first now c.loop-member.self (with_field_terms ask k (map (unfold_site first) l))) (sym c.in-Some.ensures.cases.0)
    (joined_last first now c.loop-member.self ask (unfold_site first c.in-Some.least.now) k c.in_ok-fields.fields.items (map (unfold_site first) c.in-Some.rest.now)
    (map (unfold_site first) (drop c.loop-member.member-index c.in-Some.rest.now)) (ap (map (unfold_site first)) none) j)

pub returns-in_err-fields-clause-full : goal.returns-in_err-fields-clause-full
returns-in_err-fields-clause-full c k h =
    let first = table_sites c.args.table.now in
    let after = table_sites c.add_fields.new.self in
    let ask = constraint_view c.args.constraint.now in
    let least = unfold_site first c.in-Some.least.now in
    let rest = map (unfold_site first) c.in-Some.rest.now in
    let e = c.in_err-fields.field-0.0 in
    subst (λ l. IfErr c.from_residual.result (EndsFull after (with_field_terms ask k (map (unfold_site first) l)))) (sym c.in-Some.ensures.cases.0)
    (passed_on c.from_residual.result e (EndsFull after (with_field_terms ask k (map (unfold_site first) (c.in-Some.least.now ∷ c.in-Some.rest.now)))) c.from_residual.ensures
    (least_full first after k ask least rest e (member_full first after k (field_terms ask least) e h.once h.stand c.in_err-fields.ensures.full)))

pub returns-in_err-join_member-clause-full : goal.returns-in_err-join_member-clause-full
returns-in_err-join_member-clause-full c k h =
    let first = table_sites c.args.table.now in
    let now = table_sites c.loop-member.table in
    let after = table_sites c.join_member.new.table in
    let ask = constraint_view c.args.constraint.now in
    let least = c.in-Some.least.now in
    let rest = c.in-Some.rest.now in
    let e = c.in_err-join_member.field-0.0 in
    let m = c.member-item.result in
    let j = c.loop-member.invariant.joined k least c.in-Some.ensures.cases.0 h in
    let below = rest_below (length first) c.args.members.now least rest c.in-Some.ensures.cases.0 c.requires.within c.loop-member.member-index m c.loop-member-test.true c.member-item.is in
    let full = c.in_err-join_member.ensures.full j.so_far (unfold_site first least) j.goes.demands (subst (λ l. AreFieldsOf now ask l (unfold_site first least)) (sym c.deref.ensures.value) j.of_least) in
    subst (λ l. IfErr c.from_residual-in_err-join_member.result (EndsFull after (with_field_terms ask k (map (unfold_site first) l)))) (sym c.in-Some.ensures.cases.0)
    (passed_on c.from_residual-in_err-join_member.result e (EndsFull after (with_field_terms ask k (map (unfold_site first) (least ∷ rest)))) c.from_residual-in_err-join_member.ensures
    (members_full first now after c.loop-member.self ask (unfold_site first least) k c.in_ok-fields.fields.items rest c.loop-member.member-index m (map (unfold_site first) rest) e c.loop-member-test.true
    c.member-item.is j (subst (λ u. EndsFull after (with_member ask (unfold_site first least) j.so_far u) e) (j.goes.kept m below) full)))
