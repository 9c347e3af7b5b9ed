use Rattle.std.proofs.Common.{◌<◌, ◌∙◌, ap, arith, length, refl}
use Rattle.std.proofs.lemmas.List.{length-set}
use Rattle.core_serialize.specs.AroundViews.{named_as}
use Rattle.core_serialize.proofs.ClassNames.{all_renamed, none_renamed, one_renamed}
use Rattle.core_serialize.proofs.around.rename.Goals as goal

pub loop-site-init : goal.loop-site-init
loop-site-init c =
    let names = c.args.names.now.items in
    record { many = refl; names = none_renamed c.args.from c.args.to names; undone = ap (λ l. named_as l c.args.from names) c.new-sites.ensures.items }

pub loop-site-preserved : goal.loop-site-preserved
loop-site-preserved c =
    let start = c.args.names.now.items in
    let old = c.loop-site.names.items in
    let new = c.rename_at.new.names.items in
    let site = c.loop-site.site in
    let within : site < length start = omega (arith, c.loop-site-test.true, c.len-site-end.ensures) in
    record {
      many = ap length c.in_ok-rename_at.ensures.names ∙ length-set old site _ ∙ c.loop-site.invariant.many;
      names = one_renamed site c.args.from c.args.to start old new c.loop-site.invariant.many within c.in_ok-rename_at.ensures.names c.loop-site.invariant.names;
      undone = c.in_ok-rename_at.ensures.undone ∙ c.loop-site.invariant.undone;
    }

pub returns-clause-names : goal.returns-clause-names
returns-clause-names c =
    let start = c.args.names.now.items in
    all_renamed c.loop-site.site c.args.from c.args.to start c.loop-site.names.items (omega (arith, c.loop-site-test.false, c.len-site-end.ensures)) c.requires c.loop-site.invariant.names
