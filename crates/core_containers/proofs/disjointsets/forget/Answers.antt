use Rattle.std.proofs.Common.{◌≡◌, ◌<◌, ◌+◌, ◌||◌, length, get_or, take, true, false, ap, sym, ◌∙◌, arith, hash_map_len, None, cond, is_some}
use Rattle.std.specs.HashMap.{get}
use Rattle.std.proofs.lemmas.List.Folds.{list_any_more, list_any_at}
use Rattle.core_containers.specs.Partition.{in_set}
use Rattle.core_containers.proofs.Removals.{gone_more, one_less, not_before}
use Rattle.core_containers.proofs.disjointsets.forget.Goals as goal

pub loop-item-preserved : goal.loop-item-preserved
loop-item-preserved g c =
    let e = g.T.PartialEq.eq in
    let laws = g.met.T.Eq.laws in
    let xs = c.args.items.now in
    let i = c.loop-item.item-index in
    let x = c.item-item.result in
    let lt : i < length xs = omega arith in
    let here : get_or xs i x ≡ x = sym c.item-item.is in
    let old = get e c.args.classes.now in
    let before : in_set e (take i xs) x ≡ false = ap (in_set e (take i xs)) (sym here) ∙ not_before e laws xs i x c.requires.distinct lt in
    let inside : in_set e xs x ≡ true = list_any_at (e x) xs i x lt (ap (e x) here ∙ laws.refl x) in
    let some : is_some c.remove.result ≡ true = ap is_some (c.remove.ensures.value ∙ c.loop-item.invariant.gone x ∙ ap (λ b. cond b None (old x)) before) ∙ c.requires.present x inside in
    record {
      gone = λ q.
          let more : in_set e (take (i + 1) xs) q ≡ (in_set e (take i xs) q || e x q) = list_any_more (e q) xs i x lt ∙ ap (λ y. in_set e (take i xs) q || e q y) here ∙ ap (λ b. in_set e (take i xs) q || b) (laws.symm q x) in
          c.remove.ensures.updates.0 q ∙ ap (cond (e x q) None) (c.loop-item.invariant.gone q) ∙ gone_more (e x q) (in_set e (take i xs) q) (old q) ∙ ap (λ b. cond b None (old q)) (sym more);
      len = one_less (is_some c.remove.result) (hash_map_len c.remove.new.self) (hash_map_len c.loop-item.classes) (hash_map_len c.args.classes.now) i c.remove.ensures.len some c.loop-item.invariant.len;
    }
