use Rattle.std.proofs.Common.{◌≡◌, ◌∷◌, drop}
use Rattle.model.specs.trees.Run.{for_each, run_arms, run_tree}
use Rattle.core_serialize.specs.TreeViews.{arms_view, steps_view, tree_view}
use Rattle.run_terms.specs.RunViews.{IsBeginningOf, content_list, env_view, stage_view, trace_view}
use Rattle.run_terms.specs.ValueViews.{content_view}
use Rattle.run_terms.proofs.run.+run.Given as goal

abbrev pub invariant-run_block-loop-step : goal.invariant-run_block-loop-step
invariant-run_block-loop-step g l =
    let w = stage_view g.E.Externs.functions l.stage in
    record {
      ran : run_tree (steps_view (drop l.step-index l.step-items)) w (env_view l.env.items) (trace_view l.trace) ≡ run_tree (tree_view l.block) w (env_view l.fn.env.items) (trace_view l.fn.trace);
      kept : IsBeginningOf l.fn.env.items l.env.items;
    }

-- until an arm is met nothing is bound or traced
abbrev pub invariant-run_arms-loop-arm : goal.invariant-run_arms-loop-arm
invariant-run_arms-loop-arm g l =
    let w = stage_view g.E.Externs.functions l.stage in
    record {
      ran : run_arms (arms_view (drop l.arm-index l.arms)) w (content_view l.content) (env_view l.env.items) (trace_view l.trace) ≡ run_arms (arms_view l.arms) w (content_view l.content) (env_view l.fn.env.items) (trace_view l.fn.trace);
      kept : IsBeginningOf l.fn.env.items l.env.items;
    }

abbrev pub invariant-run_each-loop-content : goal.invariant-run_each-loop-content
invariant-run_each-loop-content g l =
    let w = stage_view g.E.Externs.functions l.stage in
    record {
      ran : for_each (content_list (drop l.content-index l.contents)) (λ c t. run_tree (tree_view l.body) w ((l.site, c) ∷ env_view l.fn.env.items) t) (trace_view l.trace)
          ≡ for_each (content_list l.contents) (λ c t. run_tree (tree_view l.body) w ((l.site, c) ∷ env_view l.fn.env.items) t) (trace_view l.fn.trace);
      kept : l.env.items ≡ l.fn.env.items;
    }
