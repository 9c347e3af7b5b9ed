use Rattle.std.proofs.Common.{◌≡◌, ap, sym, ◌∙◌, refl, Option, Some, None, OnOk, is_some, length, subst}
use Rattle.std.specs.HashMap.{get, keys, InsertsAll}
use Rattle.std.specs.Option.{option_or}
use Rattle.std.specs.Map.{lookup}
use Rattle.std.specs.Map.Iter.{deref_pair}
use Rattle.std.proofs.lemmas.List.{length-map}
use Rattle.std.proofs.lemmas.Iterator.Consumers.{YieldsList-from_rest}
use Rattle.std.proofs.lemmas.Iterator.Adapters.{fact_from_extend}
use Rattle.std.proofs.lemmas.Map.Made.{update_all_distinct, length-from_same_keys, is_some-lookup}
use Rattle.core_containers.proofs.disjointsets.classes_copied.Goals as goal

or_none : {X : Type 0} (o : Option X) → option_or o None ≡ o
or_none None = refl
or_none (Some x) = refl

pub returns-clause-same : goal.returns-clause-same
returns-clause-same g c =
    let e = g.T.PartialEq.eq in
    let es = c.args.classes.now.entries in
    let h : OnOk c.extend.result ((q : _) → get e c.extend.new.self q ≡ get e c.args.classes.now q) =
    fact_from_extend deref_pair c.extend.result c.extend.ensures.ran (λ it b. YieldsList-from_rest es (b ∙ c.iter.ensures.rest))
    (λ xs all inserted q.
    let these : InsertsAll e c.in_ok-copy.copy es c.extend.new.self = subst (λ l. InsertsAll e c.in_ok-copy.copy l c.extend.new.self) all inserted in
    these.0 q ∙ update_all_distinct g.met.T.Eq.laws e (λ x y. refl) (get e c.in_ok-copy.copy) es q c.iter.ensures.unique
    ∙ ap (λ fs. option_or (lookup (e q) es) (lookup (e q) fs)) c.in_ok-copy.ensures.empty ∙ or_none (lookup (e q) es)) in
    rw c.in_ok-extend.was at h

pub returns-clause-len : goal.returns-clause-len
returns-clause-len g c =
    let e = g.T.PartialEq.eq in
    let es = c.args.classes.now.entries in
    let ns = c.extend.new.self.entries in
    let same = returns-clause-same g c in
    let h : OnOk c.extend.result (length (keys c.extend.new.self) ≡ length (keys c.args.classes.now)) =
    fact_from_extend deref_pair c.extend.result c.extend.ensures.ran (λ it b. YieldsList-from_rest es (b ∙ c.iter.ensures.rest))
    (λ xs all inserted.
    length-from_same_keys g.met.T.Eq.laws (keys c.extend.new.self) (keys c.args.classes.now) inserted.1 c.iter.ensures.unique
    (λ q. sym (is_some-lookup (e q) ns) ∙ ap is_some (same q) ∙ is_some-lookup (e q) es)) in
    let n = rw c.in_ok-extend.was at h in
    sym (length-map ns (λ p. p.0)) ∙ n ∙ length-map es (λ p. p.0)
