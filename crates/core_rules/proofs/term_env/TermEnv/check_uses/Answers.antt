use Rattle.std.proofs.Common.{IsTrue, ◌∷◌, [], map, refl}
use Rattle.std.proofs.lemmas.List.{drop_all}
use Rattle.core_syntax.specs.Places.{term_view}
use Rattle.model.specs.lists.Syntax.{Position, Name}
use Rattle.core_rules.specs.Constructors.{has_constructor_if_there}
use Rattle.core_rules.specs.PatternUses.{found_term}
use Rattle.core_rules.proofs.CheckedUses.{checked_first, checked_next, checked_last, checks_one, left_at}
use Rattle.core_syntax.proofs.Positioned.{among_same, notes_nothing, notes_parts}
use Rattle.core_syntax.specs.SyntaxViews.{position}
use Rattle.core_rules.proofs.PartPlaces.{one_inside}
use Rattle.core_rules.proofs.term_env.TermEnv.check_uses.Goals as goal

pub loop-used-init : goal.loop-used-init
loop-used-init c = (checked_first (λ (u : Position × Name). IsTrue (has_constructor_if_there (found_term c.args.self.now c.args.tyenv.now u.1.text))) _ _, notes_nothing _ _ _ refl)

pub loop-used-preserved : goal.loop-used-preserved
loop-used-preserved c = (
  checked_next (λ (u : Position × Name). IsTrue (has_constructor_if_there (found_term c.args.self.now c.args.tyenv.now u.1.text))) _ _ (term_view c.used-item.result.0 c.used-item.result.1.now ∷ []) _ _ _ _
      (left_at (λ t. term_view t.0 t.1.now ∷ []) (map (λ t. term_view t.0 t.1.now)) (λ t rest. refl) c.args.uses.now c.loop-used.used-index c.used-item.result c.loop-used-test.true c.used-item.is)
      c.loop-used.invariant.0
      (checks_one (λ (u : Position × Name). IsTrue (has_constructor_if_there (found_term c.args.self.now c.args.tyenv.now u.1.text))) (term_view c.used-item.result.0 c.used-item.result.1.now) _ _ c.in_ok-check_use.ensures.checks),
  (
      let all = map (λ t. position t.0) c.args.uses.now in
      notes_parts all (position c.used-item.result.0 ∷ []) all c.args.errors.now.items c.loop-used.errors.items c.check_use.new.errors.items (among_same all)
      (one_inside (λ t. position t.0) c.args.uses.now c.loop-used.used-index c.used-item.result c.loop-used-test.true c.used-item.is) c.loop-used.invariant.1 c.in_ok-check_use.ensures.places
      ),
)

pub returns-clause-checks : goal.returns-clause-checks
returns-clause-checks c =
    checked_last (λ (u : Position × Name). IsTrue (has_constructor_if_there (found_term c.args.self.now c.args.tyenv.now u.1.text))) _ _ _ (rw (drop_all c.loop-used.used-index c.args.uses.now c.loop-used-test.false) at c.loop-used.invariant.0)

pub returns-clause-places : goal.returns-clause-places
returns-clause-places c =
    c.loop-used.invariant.1
