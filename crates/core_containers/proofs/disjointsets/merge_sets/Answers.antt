use Rattle.std.proofs.Common.{ap, ◌∙◌, rules}
use Rattle.core_containers.proofs.Puts.{same_sets}
use Rattle.core_containers.proofs.disjointsets.merge_sets.Goals as goal

pub returns-in_err-reserve-2-clause-fit : goal.returns-in_err-reserve-2-clause-fit
returns-in_err-reserve-2-clause-fit g c =
    let e = same_sets c.args.members.now.items c.args.into c.reserve-2.new.self c.index_mut.result.now (c.reserve-2.ensures.items ∙ ap (λ v. v.items) c.index_mut.ensures.value) in
    rw (e, c.reserve.ensures.items) c.requires.fit

pub returns-in_err-reserve-2-clause-err : goal.returns-in_err-reserve-2-clause-err
returns-in_err-reserve-2-clause-err g c =
    let e = same_sets c.args.members.now.items c.args.into c.reserve-2.new.self c.index_mut.result.now (c.reserve-2.ensures.items ∙ ap (λ v. v.items) c.index_mut.ensures.value) in
    rw e (search rules)

pub pour-requires-clause-fit : goal.pour-requires-clause-fit
pour-requires-clause-fit g c =
    let e = same_sets c.args.members.now.items c.args.into c.reserve-2.new.self c.index_mut.result.now (c.reserve-2.ensures.items ∙ ap (λ v. v.items) c.index_mut.ensures.value) in
    rw (e, c.reserve.ensures.items) c.requires.fit

pub pour-requires-clause-first : goal.pour-requires-clause-first
pour-requires-clause-first g c =
    let e = same_sets c.args.members.now.items c.args.into c.reserve-2.new.self c.index_mut.result.now (c.reserve-2.ensures.items ∙ ap (λ v. v.items) c.index_mut.ensures.value) in
    rw e c.requires.first
