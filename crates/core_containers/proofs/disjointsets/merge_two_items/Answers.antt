use Rattle.std.proofs.Common.{◌≡◌, ◌∷◌, [], get_or, ap, sym, ◌∙◌, arith, Some, cond}
use Rattle.std.specs.HashMap.{get}
use Rattle.core_containers.specs.Partition.{in_set}
use Rattle.core_containers.specs.Numbers.{sets_of, IsPut}
use Rattle.core_containers.proofs.Classes.{numbered_begin}
use Rattle.core_containers.proofs.Merges.{merge_begin}
use Rattle.core_containers.proofs.disjointsets.merge_two_items.Goals as goal

pub returns-clause-fit : goal.returns-clause-fit
returns-clause-fit g c =
    let e = g.T.PartialEq.eq in
    let class = c.place-class.result in
    let put : IsPut (sets_of c.args.members.now.items) (sets_of c.place-class.new.members.items) class (c.args.x ∷ c.args.y ∷ []) = rw (c.reserve_place.ensures.items, c.in_ok-set.ensures) at c.place-class.ensures.put in
    let before : get_or (sets_of c.args.members.now.items) class [] ≡ [] = rw c.reserve_place.ensures.items at c.place-class.ensures.before in
    numbered_begin c.requires.fit g.met.T.Eq.laws c.args.x c.args.y class put before c.place-class.ensures.vacant c.requires.first c.requires.second c.requires.apart
    (λ q. c.put-2.ensures.updates q ∙ ap (cond (e c.args.y q) (Some class)) (c.put.ensures.updates q ∙ ap (cond (e c.args.x q) (Some class)) (c.reserve.ensures.entries.2 q)))
    (omega (arith, c.put-2.ensures.len, c.put.ensures.len, c.reserve.ensures.entries.1))

pub returns-clause-ok : goal.returns-clause-ok
returns-clause-ok g c =
    let e = g.T.PartialEq.eq in
    let class = c.place-class.result in
    let before : get_or (sets_of c.args.members.now.items) class [] ≡ [] = rw c.reserve_place.ensures.items at c.place-class.ensures.before in
    merge_begin e (get e c.args.classes.now) (get e c.put-2.new.classes) c.args.x c.args.y class c.requires.first c.requires.second
    (λ q. sym (c.requires.fit.numbered q class) ∙ ap (λ s. in_set e s q) before)
    (λ q. c.put-2.ensures.updates q ∙ ap (cond (e c.args.y q) (Some class)) (c.put.ensures.updates q ∙ ap (cond (e c.args.x q) (Some class)) (c.reserve.ensures.entries.2 q)))
