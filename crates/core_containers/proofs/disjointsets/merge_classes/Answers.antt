use Rattle.std.proofs.Common.{ap, sym, ◌∙◌, refl, Some}
use Rattle.std.specs.HashMap.{get}
use Rattle.std.proofs.lemmas.Result.{on_ok_weaker}
use Rattle.core_containers.proofs.Classes.{alike}
use Rattle.core_containers.proofs.Merges.{merge_same, merge_unite, merge_flip}
use Rattle.core_containers.proofs.disjointsets.merge_classes.Goals as goal

pub returns-then-a-b-clause-ok : goal.returns-then-a-b-clause-ok
returns-then-a-b-clause-ok g c x y first second =
    let e = g.T.PartialEq.eq in
    let n = get e c.args.classes.now in
    let respects = alike c.requires.fit g.met.T.Eq.laws in
    merge_same e n n x y respects c.args.a first (second ∙ ap Some (sym c.if-a-b.true)) (λ q. refl)

pub returns-then-len-clause-ok : goal.returns-then-len-clause-ok
returns-then-len-clause-ok g c =
    let e = g.T.PartialEq.eq in
    let n = get e c.args.classes.now in
    let respects = alike c.requires.fit g.met.T.Eq.laws in
    let n' = get e c.merge_sets.new.classes in
    on_ok_weaker c.merge_sets.result (λ moved x y first second. merge_flip e n n' y x (merge_unite e n n' y x respects c.args.b c.args.a second first moved)) c.merge_sets.ensures.ok

pub returns-else-len-clause-ok : goal.returns-else-len-clause-ok
returns-else-len-clause-ok g c =
    let e = g.T.PartialEq.eq in
    let n = get e c.args.classes.now in
    let respects = alike c.requires.fit g.met.T.Eq.laws in
    let n' = get e c.merge_sets-else-len.new.classes in
    on_ok_weaker c.merge_sets-else-len.result (λ moved x y first second. merge_unite e n n' x y respects c.args.a c.args.b first second moved) c.merge_sets-else-len.ensures.ok
