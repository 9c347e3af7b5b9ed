-- For each accepted list, the best trees of its terms' built sets keep the headline.
use Rattle.model.specs.rules.Program.{is_multi}
use Rattle.model.specs.claims.Layers.{own_program, BestTreesKeepTheHeadline}
use Rattle.laws_typing.proofs.WellTypedRules.{read_programs_are_well_typed}
use Rattle.laws_trees.specs.BuiltLaws.{BestTreesBindBeforeUse, BestTreesCollectTheBag}
use Rattle.laws_trees.proofs.Shares.{best_trees_share_most_lem}
use Rattle.laws_trees.proofs.NoLoops.{trees_without_calls_have_no_loop_lem}
use Rattle.laws_trees.proofs.headline.Choosing.{ChoosingLaws, best_trees_run_as_chosen_lem}
use Rattle.laws_trees.proofs.headline.NoCalls.{set_goes_over_none}

pub best_trees_keep_the_headline_lem : ChoosingLaws → BestTreesCollectTheBag → BestTreesBindBeforeUse → BestTreesKeepTheHeadline
best_trees_keep_the_headline_lem choosing collect bind defs expand rules l accepted built best =
    let p = own_program defs rules in
    let h = read_programs_are_well_typed accepted.read in
    record {
      built = built;
      best = best;
      headline = record {
        runs = best_trees_run_as_chosen_lem choosing p l.term l.set h built accepted.checkable l.tree best;
        shares = record { marked = best.marked; returns = best.returns; most = best_trees_share_most_lem l.set best.marked best.steps };
      };
      collects = collect p l.term l.set h built accepted.checkable l.tree best;
      binds = bind p l.term l.set h built (is_multi p l.term) l.tree best;
      straight = λ without. trees_without_calls_have_no_loop_lem l.set l.tree (set_goes_over_none choosing.no_calls (record { program = p; term = l.term; set = l.set; built = built }) h without) best;
    }
