use Rattle.std.proofs.Common.{◌≡◌, ◌+◌, ◌-◌, ◌<◌, [], not, length, refl, sym, subst, arith}
use Rattle.std.specs.List.{filter}
use Rattle.std.specs.Prelude.{nat_eq}
use Rattle.std.proofs.lemmas.Bool.{false≢true, ltb-true, ltb-false}
use Rattle.core_rule_sets.specs.Endings.{count_at, listed_at}
use Rattle.core_rule_sets.specs.Verdicts.{class_head}
use Rattle.core_rule_sets.proofs.ClassEndings.{AreCounted, counting_starts, few_kept, fewer_left, one_taken, none_left, go_on, no_items}
use Rattle.core_rule_sets.proofs.cycles.has_cycle.Goals as goal

pub loop-class-init : goal.loop-class-init
loop-class-init c = (
  c.args.parts.now,
  counting_starts c.args.classes.now c.args.parts.now (listed_at c.in_ok-wholes.wholes) (count_at c.in_ok-counts.counts) c.in_ok-ended.ended.items (length c.args.parts.now) refl c.in_ok-wholes.ensures c.in_ok-counts.ensures
      c.in_ok-ended.ensures.all c.in_ok-ended.ensures.only,
)

pub overflow_sub-left : goal.overflow_sub-left
overflow_sub-left c =
    let held = c.loop-class.invariant in
    let few = few_kept c.args.classes.now c.args.parts.now held.0 (listed_at c.loop-class.wholes) (count_at c.loop-class.counts) c.loop-class.left c.loop-class.ended.items held.1 c.in-Some.class in
    let many = c.in_ok-left.ensures.many in
    omega (arith, few, many)

pub loop-class-smaller : goal.loop-class-smaller
loop-class-smaller c =
    let held = c.loop-class.invariant in
    let number = c.loop-class.left in
    let many = c.in_ok-left.field-0 in
    let rest = c.pop.new.self.items in
    let now = c.take_class.new.ended.items in
    let before = subst (λ l. AreCounted c.args.classes.now c.args.parts.now held.0 (listed_at c.loop-class.wholes) (count_at c.loop-class.counts) l number) c.in-Some.ensures.items held.1 in
    subst (λ l. (number - many) + (number - many) + length now < number + number + length l) (sym c.in-Some.ensures.items)
    (fewer_left c.args.classes.now c.args.parts.now held.0 (listed_at c.loop-class.wholes) (count_at c.loop-class.counts) number rest c.in-Some.class before (listed_at c.take_class.new.wholes) (count_at c.take_class.new.counts) now many c.in_ok-left.ensures)

pub loop-class-preserved : goal.loop-class-preserved
loop-class-preserved c =
    let held = c.loop-class.invariant in
    let number = c.loop-class.left in
    let k = c.in-Some.class in
    let before = subst (λ l. AreCounted c.args.classes.now c.args.parts.now held.0 (listed_at c.loop-class.wholes) (count_at c.loop-class.counts) l number) c.in-Some.ensures.items held.1 in (
      filter (λ p. not (nat_eq (class_head c.args.classes.now p.field) k)) held.0,
      one_taken c.args.classes.now c.args.parts.now held.0 (listed_at c.loop-class.wholes) (count_at c.loop-class.counts) number c.pop.new.self.items k before (listed_at c.take_class.new.wholes) (count_at c.take_class.new.counts)
          c.take_class.new.ended.items c.in_ok-left.field-0 c.in_ok-left.ensures,
    )

pub returns-clause-cycle : goal.returns-clause-cycle
returns-clause-cycle c some =
    let held = c.loop-class.invariant in
    let wholes = listed_at c.loop-class.wholes in
    let counts = count_at c.loop-class.counts in
    let number = c.loop-class.left in
    let ended : c.loop-class.ended.items ≡ [] = no_items c.loop-class.ended.items c.loop-class.ended.len c.loop-class.ended.ok.0 (λ one. false≢true (c.in_default.ensures.variant.1 one)) in (
      held.0,
      go_on c.args.classes.now c.args.parts.now held.0 wholes counts number (subst (λ l. AreCounted c.args.classes.now c.args.parts.now held.0 wholes counts l number) ended held.1) (ltb-true 0 number some),
    )

pub returns-clause-none : goal.returns-clause-none
returns-clause-none c none =
    let held = c.loop-class.invariant in
    let wholes = listed_at c.loop-class.wholes in
    let counts = count_at c.loop-class.counts in
    let number : c.loop-class.left ≡ 0 = (let least = ltb-false 0 c.loop-class.left none in omega (arith, least)) in
    none_left c.args.classes.now c.args.parts.now held.0 wholes counts c.loop-class.ended.items (subst (AreCounted c.args.classes.now c.args.parts.now held.0 wholes counts c.loop-class.ended.items) number held.1)
