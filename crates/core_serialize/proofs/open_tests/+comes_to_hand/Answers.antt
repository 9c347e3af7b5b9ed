use Rattle.std.proofs.Common.{◌≡◌, ◌<◌, ◌∙◌, true, false, sym, ap, subst, inl, inr, rules, arith, Contains}
use Rattle.std.specs.List.{list_all}
use Rattle.std.proofs.lemmas.Bool.{or_cases}
use Rattle.std.proofs.lemmas.List.{take_all}
use Rattle.model.specs.trees.Places.{available, is_in}
use Rattle.core_serialize.specs.PlaceViews.{around_at, set_at}
use Rattle.core_serialize.proofs.AvailableSites.{neither, brought_at_hand, missed, lacking, made_at_hand, source_more}
use Rattle.core_serialize.proofs.open_tests.+comes_to_hand.Goals as goal

pub comes_to_hand-requires : goal.comes_to_hand-requires
comes_to_hand-requires t c =
    let there = subst (λ l. Contains l c.source-item.result) c.sources_of-source-items.ensures (c.loop-source.source-index, c.loop-source-test.true, sym c.source-item.is) in
    let smaller : c.source-item.result < c.args.site = c.args.place.now.indexed.can_grow.sources c.args.site c.source-item.result there in
    (search (rules, arith, smaller), c.loop-source.invariant.found)

pub loop-source-preserved : goal.loop-source-preserved
loop-source-preserved t c =
    let sites = (set_at c.args.place.now).sites in
    let brought = (around_at c.args.place.now).brought in
    let comes : c.in_ok-comes_to_hand.field-0 ≡ true = search rules in
    record {
      found = c.in_ok-comes_to_hand.ensures.found;
      come = source_more sites c.args.place.now.indexed.can_grow.sources brought c.sources_of-source-items.result.now c.loop-source.source-index c.source-item.result c.loop-source-test.true c.source-item.is (sym c.in_ok-comes_to_hand.ensures.at_hand ∙ comes)
          c.loop-source.invariant.come;
    }

pub returns-then-is_found-clause-at_hand : goal.returns-then-is_found-clause-at_hand
returns-then-is_found-clause-at_hand t c =
    let sites = (set_at c.args.place.now).sites in
    let brought = (around_at c.args.place.now).brought in
    let s = c.args.site in
    elim (or_cases (is_in s brought) (is_in s c.args.found.now) (sym c.is_found.ensures ∙ c.if-is_found.true)) [
      | inl b ↦ sym (brought_at_hand sites c.args.place.now.indexed.can_grow.sources brought s b)
      | inr f ↦ sym (c.requires s f)
    ]

pub returns-then-waits_at-clause-at_hand : goal.returns-then-waits_at-clause-at_hand
returns-then-waits_at-clause-at_hand t c =
    let sites = (set_at c.args.place.now).sites in
    let brought = (around_at c.args.place.now).brought in
    let s = c.args.site in
    let not_brought = neither (is_in s brought) (is_in s c.args.found.now) (sym c.is_found.ensures ∙ c.if-is_found.false) in
    sym (missed sites c.args.place.now.indexed.can_grow.sources brought s not_brought (sym c.waits_at.ensures ∙ c.if-waits_at.true))

pub returns-then-not-branch-clause-at_hand : goal.returns-then-not-branch-clause-at_hand
returns-then-not-branch-clause-at_hand t c =
    let sites = (set_at c.args.place.now).sites in
    let brought = (around_at c.args.place.now).brought in
    let s = c.args.site in
    let not_brought = neither (is_in s brought) (is_in s c.args.found.now) (sym c.is_found.ensures ∙ c.if-is_found.false) in
    let there = subst (λ l. Contains l c.source-item.result) c.sources_of-source-items.ensures (c.loop-source.source-index, c.loop-source-test.true, sym c.source-item.is) in
    let stops : c.in_ok-comes_to_hand.field-0 ≡ false = search rules in
    sym (lacking sites c.args.place.now.indexed.can_grow.sources brought s c.source-item.result not_brought there (sym c.in_ok-comes_to_hand.ensures.at_hand ∙ stops))

pub returns-clause-at_hand : goal.returns-clause-at_hand
returns-clause-at_hand t c =
    let sites = (set_at c.args.place.now).sites in
    let ar = around_at c.args.place.now in
    let all = sym (ap (list_all (available sites ar)) (take_all c.loop-source.source-index c.sources_of-source-items.result.now c.loop-source-test.false ∙ c.sources_of-source-items.ensures)) ∙ c.loop-source.invariant.come in
    sym (made_at_hand sites c.args.place.now.indexed.can_grow.sources ar.brought c.args.site (sym c.waits_at.ensures ∙ c.if-waits_at.false) all)

pub note-requires : goal.note-requires
note-requires t c =
    let sites = (set_at c.args.place.now).sites in
    let ar = around_at c.args.place.now in
    let all = sym (ap (list_all (available sites ar)) (take_all c.loop-source.source-index c.sources_of-source-items.result.now c.loop-source-test.false ∙ c.sources_of-source-items.ensures)) ∙ c.loop-source.invariant.come in
    record {
      at_hand = made_at_hand sites c.args.place.now.indexed.can_grow.sources ar.brought c.args.site (sym c.waits_at.ensures ∙ c.if-waits_at.false) all;
      found = c.loop-source.invariant.found;
    }
