use Rattle.std.proofs.Common.{◌≡◌, ◌<◌, ◌++◌, [], length, get_or, ap, sym, ◌∙◌, arith, Some, cond, is_some, ◌&&◌, slice_set, get_or-set_other, length-set}
use Rattle.std.specs.HashMap.{get}
use Rattle.std.proofs.lemmas.List.{length-map, get_or_default}
use Rattle.core_containers.specs.Partition.{in_set}
use Rattle.core_containers.specs.Numbers.{sets_of}
use Rattle.core_containers.proofs.Classes.{at_view, numbered_unite, renumbered}
use Rattle.core_containers.proofs.Puts.{vector_put_as, within_filled}
use Rattle.core_containers.proofs.disjointsets.pour.Goals as goal

pub append_within-requires : goal.append_within-requires
append_within-requires g c =
    let vs = c.args.members.now.items in
    let w : c.args.from < length vs = omega (arith, within_filled (sets_of vs) c.args.from c.requires.second, length-map vs (λ v. v.items)) in
    let here = c.index_mut-2.ensures.value ∙ get_or-set_other vs c.args.from c.args.into c.replace-moved.new.dest c.index_mut-2.result.now c.requires.apart in
    let there = c.replace-moved.ensures.value ∙ c.index_mut.ensures.value ∙ get_or_default vs c.args.from c.index_mut.result.now c.index_mut-2.result.now w in
    record { room = rw (← here, ← there) at (c.requires.room c.index_mut-2.result.now) }

pub returns-clause-ok : goal.returns-clause-ok
returns-clause-ok g c q =
    let e = g.T.PartialEq.eq in
    let vs = c.args.members.now.items in
    let w : c.args.from < length vs = omega (arith, within_filled (sets_of vs) c.args.from c.requires.second, length-map vs (λ v. v.items)) in
    let a = at_view vs c.args.from c.index_mut.result.now w c.index_mut.ensures.value in
    let items = c.deref.ensures.value ∙ ap (λ v. v.items) c.replace-moved.ensures.value ∙ sym a in
    c.renumber.ensures.moved q
    ∙ ap (λ s. cond (in_set e s q && is_some (get e c.args.classes.now q)) (Some c.args.into) (get e c.args.classes.now q)) items
    ∙ ap (λ b. cond (b && is_some (get e c.args.classes.now q)) (Some c.args.into) (get e c.args.classes.now q)) (c.requires.fit.numbered q c.args.from)
    ∙ renumbered c.args.into c.args.from (get e c.args.classes.now q)

pub returns-clause-fit : goal.returns-clause-fit
returns-clause-fit g c =
    let e = g.T.PartialEq.eq in
    let vs = c.args.members.now.items in
    let w : c.args.from < length vs = omega (arith, within_filled (sets_of vs) c.args.from c.requires.second, length-map vs (λ v. v.items)) in
    let w' : c.args.into < length vs = omega (arith, within_filled (sets_of vs) c.args.into c.requires.first, length-map vs (λ v. v.items)) in
    let nothing = ap (λ v. v.items) c.replace-moved.ensures.after ∙ c.new.ensures.items in
    let emptied = vector_put_as vs c.args.from c.replace-moved.new.dest [] w nothing in
    let middle = slice_set vs c.args.from c.replace-moved.new.dest in
    let here = c.index_mut-2.ensures.value ∙ get_or-set_other vs c.args.from c.args.into c.replace-moved.new.dest c.index_mut-2.result.now c.requires.apart in
    let a = at_view vs c.args.into c.index_mut-2.result.now w' here in
    let b = at_view vs c.args.from c.index_mut.result.now w c.index_mut.ensures.value in
    let all : c.append_within.new.items.items ≡ get_or (sets_of vs) c.args.into [] ++ get_or (sets_of vs) c.args.from [] = c.append_within.ensures ∙ ap (λ s. s ++ c.replace-moved.result.items) (sym a) ∙ ap (λ s. get_or (sets_of vs) c.args.into [] ++ s) (ap (λ v. v.items) c.replace-moved.ensures.value ∙ sym b) in
    let w'' : c.args.into < length middle = omega (arith, w', length-set vs c.args.from c.replace-moved.new.dest) in
    let put = vector_put_as middle c.args.into c.append_within.new.items (get_or (sets_of vs) c.args.into [] ++ get_or (sets_of vs) c.args.from []) w'' all in
    numbered_unite c.requires.fit g.met.T.Eq.laws (sets_of middle) c.args.into c.args.from emptied put c.requires.apart c.requires.first c.requires.second
    (returns-clause-ok g c) c.renumber.ensures.len c.push_within.ensures
