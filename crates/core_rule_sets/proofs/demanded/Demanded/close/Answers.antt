use Rattle.std.proofs.Common.{◌≡◌, ◌+◌, ◌-◌, suc, false, ℕ, rules, subst, arith}
use Rattle.model.specs.sites.Closure.{ascending, class_at, closing, most_closing_steps, taken}
use Rattle.std.specs.Prelude.{OnOk}
use Rattle.model.specs.sites.Sites.{unfold_site}
use Rattle.core_rule_sets.specs.SiteViews.{constraint_view}
use Rattle.core_rule_sets.specs.Closings.{EndsFull, GoOn, is_due}
use Rattle.core_rule_sets.specs.SiteTables.{table_sites}
use Rattle.core_rule_sets.proofs.ClosingClasses.{ClosedSoFar, one_closed, all_closed}
use Rattle.core_rule_sets.proofs.FullTables.{passed_on, one_full}
use Rattle.core_rule_sets.proofs.demanded.Demanded.close.Goals as goal

pub returns-in_default-clause-closed : goal.returns-in_default-clause-closed
returns-in_default-clause-closed c k h =
    let none : (s : ℕ) → is_due c.loop.self s ≡ false = λ s. search (rules, c.in_default.ensures.next) in
    all_closed (table_sites c.args.table.now) (table_sites c.loop.table) c.loop.self c.next_due.new.self k most_closing_steps (most_closing_steps - c.loop.counter) (c.loop.invariant.closed k h) none
    c.next_due.ensures.asked c.next_due.ensures.equated

pub loop-preserved : goal.loop-preserved
loop-preserved c = record {
  table = c.in_ok-take_class.ensures.table;
  due = c.in_ok-take_class.ensures.due;
  closed = λ k h.
      let first = table_sites c.args.table.now in
      let now = table_sites c.loop.table in
      let after = table_sites c.take_class.new.table in
      let i = c.loop.counter in
      let left : most_closing_steps - i ≡ suc (most_closing_steps - (i + 1)) = omega (arith, c.loop-test.true) in
      one_closed first now after c.loop.self c.next_due.new.self c.take_class.new.self k most_closing_steps (most_closing_steps - (i + 1)) c.in-Some.next.0 c.in-Some.next.1
      (subst (λ m. ClosedSoFar first now c.loop.self k most_closing_steps m) left (c.loop.invariant.closed k h))
      c.in-Some.ensures.next c.next_due.ensures.asked c.next_due.ensures.equated (λ j d.
      let u = unfold_site now c.in-Some.next.0 in
      subst (λ r. OnOk r (GoOn now after c.take_class.new.self (taken j (u, constraint_view c.in-Some.next.1) (ascending j.made (class_at j.classes u))))) c.in_ok-take_class.was (c.take_class.ensures.taken j d));
}

pub returns-in_err-take_class-clause-full : goal.returns-in_err-take_class-clause-full
returns-in_err-take_class-clause-full c k h =
    let first = table_sites c.args.table.now in
    let now = table_sites c.loop.table in
    let after = table_sites c.take_class.new.table in
    let e = c.in_err-take_class.field-0.0 in
    let i = c.loop.counter in
    let left : most_closing_steps - i ≡ suc (most_closing_steps - (i + 1)) = omega (arith, c.loop-test.true) in
    passed_on c.from_residual.result e (EndsFull after (closing most_closing_steps k)) c.from_residual.ensures
    (one_full first now after c.loop.self c.next_due.new.self k most_closing_steps (most_closing_steps - (i + 1)) c.in-Some.next.0 c.in-Some.next.1 e
    (subst (λ m. ClosedSoFar first now c.loop.self k most_closing_steps m) left (c.loop.invariant.closed k h))
    c.in-Some.ensures.next c.next_due.ensures.asked c.next_due.ensures.equated (λ q d. c.in_err-take_class.ensures.full q d))
