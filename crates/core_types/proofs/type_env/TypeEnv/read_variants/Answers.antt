use Rattle.std.proofs.Common.{rules, ◌≡◌, ◌<◌, ◌≤◌, length, map, string_bytes, ap, subst}
use Rattle.std.proofs.lemmas.List.{take_all}
use Rattle.core_syntax.specs.SyntaxViews.{variant_view}
use Rattle.core_types.specs.VariantReading.{VariantsRead}
use Rattle.core_types.proofs.VariantRuns.{run_more, run_wrong, one_more, all_there}
use Rattle.core_types.proofs.type_env.TypeEnv.read_variants.Goals as goal

pub returns-in_default-clause-reads : goal.returns-in_default-clause-reads
returns-in_default-clause-reads c =
    let within : c.loop-variant.variant-index < length c.args.variants.now = search rules in
    run_wrong _ _ (variant_view c.variant-item.result) c.len.result _ _ _ _ _ _ c.read_variant.new.self _ c.read_variant.new.seen c.loop-variant.invariant _ _ (all_there c.args.variants.now c.loop-variant.variant-index c.variant-item.result within c.variant-item.is) (λ defs earlier s h. rw c.in_default.is at c.in_ok-next.ensures.reads defs earlier s h)

pub loop-variant-preserved : goal.loop-variant-preserved
loop-variant-preserved c =
    let within : c.loop-variant.variant-index < length c.args.variants.now = search rules in
    let place : c.len.result ≡ length c.loop-variant.read.items = search rules in
    let more = run_more _ _ (variant_view c.variant-item.result) c.len.result _ _ _ _ _ _ _ _ _ c.loop-variant.invariant c.in-Some.next place c.in_ok-next.ensures.inverse (λ defs earlier s h. rw c.in-Some.is at c.in_ok-next.ensures.reads defs earlier s h) in
    rw (← one_more c.args.variants.now c.loop-variant.variant-index c.variant-item.result within c.variant-item.is, c.in_ok-push.ensures.items) more

pub returns-clause-reads : goal.returns-clause-reads
returns-clause-reads c =
    let past : length c.args.variants.now ≤ c.loop-variant.variant-index = search rules in
    λ defs s.
    let r = c.loop-variant.invariant.reads defs s in
    (r.0, subst (λ vs. VariantsRead defs (string_bytes c.args.ty.now.0) vs c.loop-variant.read.items c.args.self.now c.loop-variant.self) (ap (map variant_view) (take_all c.loop-variant.variant-index c.args.variants.now past)) r.1)
