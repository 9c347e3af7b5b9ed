use Rattle.std.proofs.Common.{refl, rules}
use Rattle.run_terms.specs.RunViews.{env_view, stage_view}
use Rattle.run_terms.proofs.EnvSteps.{used_more, used_missing, used_all, after_nil}
use Rattle.run_terms.proofs.env.used_values.Goals as goal

pub loop-site-init : goal.loop-site-init
loop-site-init g c = rw (c.new-out.ensures.items, after_nil) refl

pub returns-in-None : goal.returns-in-None
returns-in-None g c =
    let w = stage_view g.E.Externs.functions c.args.stage.now in
    used_missing w (env_view c.args.env.now) c.loop-site.out.items c.args.wanted.now c.loop-site.site-index c.site-item.result (search rules) c.site-item.is (search rules) c.loop-site.invariant

pub loop-site-preserved : goal.loop-site-preserved
loop-site-preserved g c =
    let w = stage_view g.E.Externs.functions c.args.stage.now in
    used_more w (env_view c.args.env.now) c.loop-site.out.items c.push.new.self.items c.in-Some.value c.args.wanted.now c.loop-site.site-index c.site-item.result (search rules) c.site-item.is (search rules) c.in_ok-push-in-Some.ensures.items c.loop-site.invariant

pub returns : goal.returns
returns g c =
    let w = stage_view g.E.Externs.functions c.args.stage.now in
    used_all w (env_view c.args.env.now) c.loop-site.out.items c.args.wanted.now c.loop-site.site-index (search rules) c.loop-site.invariant
