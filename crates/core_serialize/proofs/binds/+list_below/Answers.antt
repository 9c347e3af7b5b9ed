use Rattle.std.proofs.Common.{◌≡◌, ◌<◌, ◌∙◌, ◌++◌, ◌∷◌, [], false, take, refl, sym, ap, subst, rules, arith, Contains}
use Rattle.std.proofs.lemmas.Bool.{cond-false}
use Rattle.std.proofs.lemmas.List.{take_all}
use Rattle.model.specs.trees.Places.{is_in, each_after, listed_below}
use Rattle.core_serialize.specs.PlaceViews.{set_in}
use Rattle.core_serialize.proofs.ListedSites.{each_more, listed_there, listed_whole, still_fresh}
use Rattle.core_serialize.proofs.Tables.{is_in_append}
use Rattle.core_serialize.proofs.binds.+list_below.Goals as goal

pub returns-then-contains : goal.returns-then-contains
returns-then-contains t c =
    let s = c.args.site in
    let there = sym (c.contains.ensures ∙ ap (λ n. is_in n c.args.listed.now) c.number_of.ensures) ∙ c.if-contains.true in
    λ start done e n l. listed_there (set_in c.args.indexed.now).sites start n s done c.args.listed.now l e there

pub loop-source-init : goal.loop-source-init
loop-source-init t c = record {
  fresh = sym (c.contains.ensures ∙ ap (λ n. is_in n c.args.listed.now) c.number_of.ensures) ∙ c.if-contains.false;
  listed = λ start done e m l. e;
}

pub list_below-requires : goal.list_below-requires
list_below-requires t c =
    let there = subst (λ l. Contains l c.source-item.result) c.sources_of-source-items.ensures (c.loop-source.source-index, c.loop-source-test.true, sym c.source-item.is) in
    let smaller : c.source-item.result < c.args.site = c.args.indexed.now.can_grow.sources c.args.site c.source-item.result there in
    search (rules, arith, smaller)

pub loop-source-preserved : goal.loop-source-preserved
loop-source-preserved t c =
    let sites = (set_in c.args.indexed.now).sites in
    let a = c.source-item.result in
    let i = c.loop-source.source-index in
    let xs = c.sources_of-source-items.result.now in
    let now = c.loop-source.listed in
    let next = c.list_below.new.listed in
    let there = subst (λ l. Contains l a) c.sources_of-source-items.ensures (i, c.loop-source-test.true, sym c.source-item.is) in
    let smaller : a < c.args.site = c.args.indexed.now.can_grow.sources c.args.site a there in
    record {
      fresh = still_fresh sites c.args.indexed.now.can_grow.sources a c.args.site now next smaller c.in_ok-list_below.ensures c.loop-source.invariant.fresh;
      listed = λ start done e m l.
          let f = listed_below m sites start in
          let so = c.loop-source.invariant.listed start done e m l in
          c.in_ok-list_below.ensures start (each_after f done (take i xs)) so m (omega (arith, smaller, l))
          ∙ ap (λ d. start ++ d) (each_more f done xs i a (each_after f done (take i xs)) (f (each_after f done (take i xs)) a) c.loop-source-test.true c.source-item.is refl refl);
    }

pub returns : goal.returns
returns t c =
    let sites = (set_in c.args.indexed.now).sites in
    let s = c.args.site in
    let now = c.loop-source.listed in
    let whole = take_all c.loop-source.source-index c.sources_of-source-items.result.now c.loop-source-test.false ∙ c.sources_of-source-items.ensures in
    let out = sym (c.contains.ensures ∙ ap (λ n. is_in n c.args.listed.now) c.number_of.ensures) ∙ c.if-contains.false in
    let added : c.insert.new.self ≡ now ++ s ∷ [] =
    subst (λ n. is_in n now ≡ false → c.insert.new.self ≡ now ++ n ∷ []) c.number_of-2.ensures
    (λ f. c.in_ok-insert.ensures.added ∙ cond-false (is_in c.number_of-2.result now) now (now ++ c.number_of-2.result ∷ []) f) c.loop-source.invariant.fresh in
    λ start done e n l.
    listed_whole sites start n s done now c.insert.new.self l (sym (is_in_append s start done) ∙ ap (is_in s) (sym e) ∙ out)
    (λ m k. c.loop-source.invariant.listed start done e m k ∙ ap (λ xs. start ++ each_after (listed_below m sites start) done xs) whole) added
