use Rattle.std.proofs.Common.{◌≡◌, ◌<◌, ◌++◌, ◌∷◌, [], length, get_or, ap, sym, ◌∙◌, arith, None, cond, subst}
use Rattle.std.specs.HashMap.{get}
use Rattle.std.specs.List.{IsDistinct}
use Rattle.std.specs.List.Sorted.{IsPermutation}
use Rattle.std.proofs.lemmas.List.{length-map}
use Rattle.std.proofs.lemmas.List.Sorted.{list_any-IsPermutation, length_permutation}
use Rattle.std.proofs.lemmas.Map.Keys.{IsDistinct-IsPermutation}
use Rattle.core_containers.specs.Partition.{in_set}
use Rattle.core_containers.specs.Numbers.{sets_of}
use Rattle.core_containers.proofs.Classes.{at_view, numbered_remove}
use Rattle.core_containers.proofs.Puts.{vector_put_as, within_filled}
use Rattle.core_containers.proofs.Removals.{same_some, strictly_ascending}
use Rattle.core_containers.proofs.disjointsets.remove.Goals as goal

pub forget-requires-clause-distinct : goal.forget-requires-clause-distinct
forget-requires-clause-distinct g c =
    let e = g.T.PartialEq.eq in
    let vs = c.args.members.now.items in
    let w : c.args.class < length vs = omega (arith, within_filled (sets_of vs) c.args.class c.requires.some, length-map vs (λ v. v.items)) in
    let a = c.deref.ensures.value ∙ sym (at_view vs c.args.class c.index.result.now w c.index.ensures) in
    let perm : IsPermutation (get_or (sets_of vs) c.args.class []) c.in_ok-set.set.items = subst (λ s. IsPermutation s c.in_ok-set.set.items) a c.in_ok-set.ensures.same in
    subst (IsDistinct e) (sym c.deref-2.ensures.value) (IsDistinct-IsPermutation e g.met.T.Eq.laws.symm (get_or (sets_of vs) c.args.class []) c.in_ok-set.set.items perm (c.requires.fit.distinct c.args.class))

pub returns-clause-members : goal.returns-clause-members
returns-clause-members g c q =
    let e = g.T.PartialEq.eq in
    let vs = c.args.members.now.items in
    let w : c.args.class < length vs = omega (arith, within_filled (sets_of vs) c.args.class c.requires.some, length-map vs (λ v. v.items)) in
    let a = c.deref.ensures.value ∙ sym (at_view vs c.args.class c.index.result.now w c.index.ensures) in
    let perm : IsPermutation (get_or (sets_of vs) c.args.class []) c.in_ok-set.set.items = subst (λ s. IsPermutation s c.in_ok-set.set.items) a c.in_ok-set.ensures.same in
    sym (list_any-IsPermutation (e q) (get_or (sets_of vs) c.args.class []) c.in_ok-set.set.items perm) ∙ c.requires.fit.numbered q c.args.class

pub forget-requires-clause-present : goal.forget-requires-clause-present
forget-requires-clause-present g c q m =
    let e = g.T.PartialEq.eq in
    let vs = c.args.members.now.items in
    let w : c.args.class < length vs = omega (arith, within_filled (sets_of vs) c.args.class c.requires.some, length-map vs (λ v. v.items)) in
    let a = c.deref.ensures.value ∙ sym (at_view vs c.args.class c.index.result.now w c.index.ensures) in
    let perm : IsPermutation (get_or (sets_of vs) c.args.class []) c.in_ok-set.set.items = subst (λ s. IsPermutation s c.in_ok-set.set.items) a c.in_ok-set.ensures.same in
    let same = sym (list_any-IsPermutation (e q) (get_or (sets_of vs) c.args.class []) c.in_ok-set.set.items perm) ∙ c.requires.fit.numbered q c.args.class in
    same_some (get e c.args.classes.now q) c.args.class (sym same ∙ ap (λ s. in_set e s q) (sym c.deref-2.ensures.value) ∙ m)

pub returns-clause-ok : goal.returns-clause-ok
returns-clause-ok g c q =
    let e = g.T.PartialEq.eq in
    let old = get e c.args.classes.now in
    c.forget.ensures.gone q ∙ ap (λ s. cond (in_set e s q) None (old q)) c.deref-2.ensures.value ∙ ap (λ b. cond b None (old q)) (returns-clause-members g c q)

pub returns-clause-fit : goal.returns-clause-fit
returns-clause-fit g c =
    let e = g.T.PartialEq.eq in
    let old = get e c.args.classes.now in
    let vs = c.args.members.now.items in
    let s = get_or (sets_of vs) c.args.class [] in
    let w : c.args.class < length vs = omega (arith, within_filled (sets_of vs) c.args.class c.requires.some, length-map vs (λ v. v.items)) in
    let a = c.deref.ensures.value ∙ sym (at_view vs c.args.class c.index.result.now w c.index.ensures) in
    let perm : IsPermutation s c.in_ok-set.set.items = subst (λ t. IsPermutation t c.in_ok-set.set.items) a c.in_ok-set.ensures.same in
    let n : length c.deref-2.result.now ≡ length s = ap length c.deref-2.ensures.value ∙ length_permutation s c.in_ok-set.set.items perm in
    numbered_remove c.requires.fit g.met.T.Eq.laws c.args.class (vector_put_as vs c.args.class c.new.result [] w c.new.ensures.items) c.requires.some
    (λ q. returns-clause-ok g c q ∙ ap (λ b. cond b None (old q)) (sym (c.requires.fit.numbered q c.args.class)))
    (omega (arith, c.forget.ensures.len, n))
    (c.push_within.ensures ∙ ap (λ t. t ++ c.args.class ∷ []) c.reserve.ensures.items)

pub returns-clause-ascending : goal.returns-clause-ascending
returns-clause-ascending g c =
    let e = g.T.PartialEq.eq in
    let vs = c.args.members.now.items in
    let w : c.args.class < length vs = omega (arith, within_filled (sets_of vs) c.args.class c.requires.some, length-map vs (λ v. v.items)) in
    let a = c.deref.ensures.value ∙ sym (at_view vs c.args.class c.index.result.now w c.index.ensures) in
    let perm : IsPermutation (get_or (sets_of vs) c.args.class []) c.in_ok-set.set.items = subst (λ s. IsPermutation s c.in_ok-set.set.items) a c.in_ok-set.ensures.same in
    strictly_ascending g.met.T.Ord.total e g.met.T.Ord.matches_eq c.in_ok-set.set.items c.in_ok-set.ensures.ascending (IsDistinct-IsPermutation e g.met.T.Eq.laws.symm (get_or (sets_of vs) c.args.class []) c.in_ok-set.set.items perm (c.requires.fit.distinct c.args.class))

pub returns-clause-answer : goal.returns-clause-answer
returns-clause-answer g c =
    let vs = c.args.members.now.items in
    let w : c.args.class < length vs = omega (arith, within_filled (sets_of vs) c.args.class c.requires.some, length-map vs (λ v. v.items)) in
    let a = c.deref.ensures.value ∙ sym (at_view vs c.args.class c.index.result.now w c.index.ensures) in
    subst (λ s. IsPermutation s c.in_ok-set.set.items) a c.in_ok-set.ensures.same
