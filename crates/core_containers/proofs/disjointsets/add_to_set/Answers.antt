use Rattle.std.proofs.Common.{rules, ◌<◌, ◌++◌, ◌∷◌, [], length, get_or, ap, sym, ◌∙◌, refl, arith, hash_map_len, cond, Some}
use Rattle.std.specs.HashMap.{get}
use Rattle.std.proofs.lemmas.List.{length-map}
use Rattle.core_containers.specs.Numbers.{sets_of}
use Rattle.core_containers.proofs.Classes.{at_view, numbered_admit, numbered_same}
use Rattle.core_containers.proofs.Puts.{vector_put_as, same_sets, within_filled}
use Rattle.core_containers.proofs.disjointsets.add_to_set.Goals as goal

pub returns-in_err-reserve-clause-fit : goal.returns-in_err-reserve-clause-fit
returns-in_err-reserve-clause-fit g c free fit =
    numbered_same fit (get g.T.PartialEq.eq c.reserve.new.self) (hash_map_len c.reserve.new.self) c.reserve.ensures.entries.2 c.reserve.ensures.entries.1

pub returns-in_err-push-clause-fit : goal.returns-in_err-push-clause-fit
returns-in_err-push-clause-fit g c free fit =
    let e = g.T.PartialEq.eq in
    let same = same_sets c.args.members.now.items c.args.class c.push.new.self c.index_mut.result.now (c.in_err-push.ensures.items ∙ ap (λ v. v.items) c.index_mut.ensures.value) in
    rw same (numbered_same fit (get e c.reserve.new.self) (hash_map_len c.reserve.new.self) c.reserve.ensures.entries.2 c.reserve.ensures.entries.1)

pub returns-in_err-push-clause-err : goal.returns-in_err-push-clause-err
returns-in_err-push-clause-err g c =
    let e = same_sets c.args.members.now.items c.args.class c.push.new.self c.index_mut.result.now (c.in_err-push.ensures.items ∙ ap (λ v. v.items) c.index_mut.ensures.value) in
    rw e (search rules)

pub index_mut-requires : goal.index_mut-requires
index_mut-requires g c =
    omega (arith, within_filled (sets_of c.args.members.now.items) c.args.class c.requires.some, length-map c.args.members.now.items (λ v. v.items), c.args.members.now.ok.0)

pub returns-clause-fit : goal.returns-clause-fit
returns-clause-fit g c free fit =
    let e = g.T.PartialEq.eq in
    let w : c.args.class < length c.args.members.now.items = omega (arith, within_filled (sets_of c.args.members.now.items) c.args.class c.requires.some, length-map c.args.members.now.items (λ v. v.items)) in
    let a = at_view c.args.members.now.items c.args.class c.index_mut.result.now w c.index_mut.ensures.value in
    let put = vector_put_as c.args.members.now.items c.args.class c.push.new.self (get_or (sets_of c.args.members.now.items) c.args.class [] ++ c.args.item ∷ []) w (c.in_ok-push.ensures.items ∙ ap (λ s. s ++ c.args.item ∷ []) (sym a)) in
    numbered_admit fit g.met.T.Eq.laws c.args.item c.args.class put c.requires.some c.requires.outside
    (λ q. c.put.ensures.updates q ∙ ap (cond (e c.args.item q) (Some c.args.class)) (c.reserve.ensures.entries.2 q))
    (omega (arith, c.put.ensures.len, c.reserve.ensures.entries.1)) refl
