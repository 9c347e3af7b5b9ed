use Rattle.std.proofs.Common.{◌≡◌, ◌==◌, [], ◌∷◌, ◌++◌, sym, ap, ◌∙◌, subst, length}
use Rattle.std.proofs.lemmas.Bool.{false≢true}
use Rattle.std.proofs.lemmas.List.{map-append}
use Rattle.core_rule_sets.specs.Listings.{class_lists}
use Rattle.core_rule_sets.specs.SetLists.{IsListedBefore}
use Rattle.core_rule_sets.proofs.SetsListed.{some_listed}
use Rattle.core_rule_sets.proofs.equal_sites.list_set_of.Goals as goal

pub returns-in_ok-push : goal.returns-in_ok-push
returns-in_ok-push c whole later h =
    let set = c.in_ok-set.set in
    let filled : set.items ≡ [] → ⊥ = λ e. false≢true (sym c.if-not-is_empty.true ∙ c.is_empty.ensures ∙ ap (λ n. n == 0) (set.ok.0 ∙ ap length e)) in
    let lists : class_lists c.push.new.self.items ≡ class_lists c.args.listed.now.items ++ set.items ∷ [] =
    ap class_lists c.in_ok-push.ensures.items ∙ map-append (λ v. v.items) c.args.listed.now.items (set ∷ []) in
    subst (λ cs. IsListedBefore whole c.remove_set_of.new.self cs later) (sym lists)
    (some_listed whole c.args.rest.now c.remove_set_of.new.self (class_lists c.args.listed.now.items) c.args.site later set.items h c.remove_set_of.ensures.partition
    c.in_ok-set.ensures.members c.in_ok-set.ensures.rest filled c.in_ok-set.ensures.ascending)
