use Rattle.std.proofs.Common.{◌∙◌, ◌++◌, suc, take, refl, ap, subst, arith}
use Rattle.std.proofs.lemmas.List.{take_all}
use Rattle.model.specs.trees.Places.{each_after, listed_below}
use Rattle.core_serialize.specs.Changes.{ListsAll}
use Rattle.core_serialize.specs.PlaceViews.{set_in}
use Rattle.core_serialize.proofs.ListedSites.{each_more}
use Rattle.core_serialize.proofs.binds.list_all.Goals as goal

pub loop-site-init : goal.loop-site-init
loop-site-init c = λ start done e. e

pub loop-site-preserved : goal.loop-site-preserved
loop-site-preserved c =
    let sites = (set_in c.args.indexed.now).sites in
    let xs = c.args.sites.now in
    let i = c.loop-site.site-index in
    let a = c.site-item.result in
    λ start done e.
    let so = c.loop-site.invariant start done e in
    let before = each_after (λ d s. listed_below (suc s) sites start d s) done (take i xs) in
    c.in_ok-list_below.ensures start before so (suc a) (omega arith)
    ∙ ap (λ d. start ++ d) (each_more (λ d s. listed_below (suc s) sites start d s) done xs i a before (listed_below (suc a) sites start before a) c.loop-site-test.true c.site-item.is refl refl)

pub returns : goal.returns
returns c =
    subst (λ l. ListsAll (set_in c.args.indexed.now).sites l c.args.listed.now c.loop-site.listed) (take_all c.loop-site.site-index c.args.sites.now c.loop-site-test.false) c.loop-site.invariant
