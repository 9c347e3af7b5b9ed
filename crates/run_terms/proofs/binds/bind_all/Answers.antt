use Rattle.std.proofs.Common.{refl, rules, sym, ◌∙◌}
use Rattle.run_terms.specs.RunViews.{call_views, env_view, stage_view}
use Rattle.run_terms.proofs.BindSteps.{all_done, all_more, all_stopped, begins_here, begins_then}
use Rattle.run_terms.proofs.binds.bind_all.Goals as goal

pub loop-site-init : goal.loop-site-init
loop-site-init g c = record { bound = refl; kept = begins_here c.args.env.now.items }

pub loop-site-preserved : goal.loop-site-preserved
loop-site-preserved g c =
    let w = stage_view g.E.Externs.functions c.args.stage.now in
    record {
      bound = all_more w (env_view c.loop-site.env.items) (env_view c.bind_site.new.env.items) (call_views c.loop-site.calls.items) (call_views c.bind_site.new.calls.items) c.args.sites.now c.loop-site.site-index
          c.site-item.result c.in_ok-bound.bound _ (search rules) c.site-item.is c.in_ok-bound.ensures.bound (sym c.is_all.ensures ∙ c.if-not-is_all.false) c.loop-site.invariant.bound;
      kept = begins_then c.args.env.now.items c.loop-site.env.items c.bind_site.new.env.items c.loop-site.invariant.kept c.in_ok-bound.ensures.kept;
    }

pub returns-then-not-is_all : goal.returns-then-not-is_all
returns-then-not-is_all g c =
    let w = stage_view g.E.Externs.functions c.args.stage.now in
    record {
      bound = all_stopped w (env_view c.loop-site.env.items) (env_view c.bind_site.new.env.items) (call_views c.loop-site.calls.items) (call_views c.bind_site.new.calls.items) c.args.sites.now c.loop-site.site-index
          c.site-item.result c.in_ok-bound.bound _ (search rules) c.site-item.is c.in_ok-bound.ensures.bound (sym c.is_all.ensures ∙ c.if-not-is_all.true) c.loop-site.invariant.bound;
      kept = begins_then c.args.env.now.items c.loop-site.env.items c.bind_site.new.env.items c.loop-site.invariant.kept c.in_ok-bound.ensures.kept;
    }

pub returns : goal.returns
returns g c =
    let w = stage_view g.E.Externs.functions c.args.stage.now in
    record {
      bound = all_done w (env_view c.loop-site.env.items) (call_views c.loop-site.calls.items) c.args.sites.now c.loop-site.site-index _ (search rules) c.loop-site.invariant.bound;
      kept = c.loop-site.invariant.kept;
    }
