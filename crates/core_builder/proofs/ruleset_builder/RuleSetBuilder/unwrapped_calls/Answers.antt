use Rattle.std.proofs.Common.{ap, ◌∙◌, subst, sym, add-one, arith}
use Rattle.std.proofs.lemmas.Bool.{false≢true}
use Rattle.std.specs.Ordering.{nat_cmp}
use Rattle.std.specs.BTreeSet.{insert_key}
use Rattle.core_builder.specs.VisitedSites.{built_sites}
use Rattle.core_builder.proofs.UnwrappedSites.{Searched, all_less, none_left, search_starts, search_goes_on, search_ends}
use Rattle.core_builder.proofs.ruleset_builder.RuleSetBuilder.unwrapped_calls.Goals as goal

pub loop-init : goal.loop-init
loop-init c table there =
    search_starts (built_sites c.args.self.now) c.args.site c.args.walked.now _ _ (c.in_ok-insert.ensures.keys ∙ ap (λ keys. insert_key nat_cmp keys c.args.site) c.new-due.ensures.empty) c.new-calls.ensures.items

pub loop-preserved : goal.loop-preserved
loop-preserved c table there =
    let sites = built_sites c.args.self.now in
    let k = c.in-Some.next in
    let apart = c.in_ok-take_apart.ensures in
    subst (Searched sites c.args.site c.args.walked.now c.take_apart.new.walked c.take_apart.new.due.keys c.take_apart.new.calls.items) (sym (add-one c.loop.counter))
    (search_goes_on sites table.sources c.args.site there c.args.walked.now c.loop.walked c.take_apart.new.walked c.loop.due.keys c.pop_last.new.self.keys c.take_apart.new.due.keys c.loop.calls.items
    c.take_apart.new.calls.items k c.loop.counter c.in-Some.ensures.removal (all_less c.pop_last.new.self.keys k c.in-Some.ensures.all_below) apart.walked apart.due apart.calls (c.loop.invariant table there))

pub returns-in_default : goal.returns-in_default
returns-in_default c table there =
    search_ends (built_sites c.args.self.now) table.sources c.args.site there c.args.walked.now c.loop.walked c.loop.due.keys c.loop.calls.items c.loop.counter
    (none_left c.loop.due.keys (λ l. false≢true (c.in_default.ensures.variant.1 l))) (c.loop.invariant table there)

pub returns : goal.returns
returns c table there =
    let h = c.loop.invariant table there in
    search_ends (built_sites c.args.self.now) table.sources c.args.site there c.args.walked.now c.loop.walked c.loop.due.keys c.loop.calls.items c.loop.counter
    (λ t i. let b = h.below t i in omega (arith, b)) h
