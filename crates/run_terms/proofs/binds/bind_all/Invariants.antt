use Rattle.std.proofs.Common.{◌≡◌, drop}
use Rattle.model.specs.trees.Run.{bind_all}
use Rattle.run_terms.specs.RunViews.{IsBeginningOf, call_views, env_view, stage_view}
use Rattle.run_terms.proofs.binds.bind_all.Given as goal

abbrev pub invariant-loop-site : goal.invariant-loop-site
invariant-loop-site g l =
    let w = stage_view g.E.Externs.functions l.stage in
    record {
      bound : bind_all w (env_view l.env.items) (call_views l.calls.items) (drop l.site-index l.sites) ≡ bind_all w (env_view l.fn.env.items) (call_views l.fn.calls.items) l.sites;
      kept : IsBeginningOf l.fn.env.items l.env.items;
    }
