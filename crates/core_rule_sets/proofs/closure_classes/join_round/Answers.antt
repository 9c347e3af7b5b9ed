use Rattle.std.proofs.Common.{rules, ◌≡◌, ◌+◌, ◌++◌, [], ◌∷◌, true, false, take, sym, ap, ◌∙◌, subst, arith}
use Rattle.std.proofs.lemmas.List.{take_more, take_all}
use Rattle.model.proofs.Elements.{In, in_from_contains}
use Rattle.core_rule_sets.proofs.FieldJoins.{IsRound, round_stays, round_changes, round_settles}
use Rattle.core_rule_sets.proofs.closure_classes.join_round.Goals.{then-branch, else-branch}
use Rattle.core_rule_sets.proofs.closure_classes.join_round.Goals as goal

pub loop-part-preserved : goal.loop-part-preserved
loop-part-preserved c =
    let parts = c.args.parts.now in
    let i = c.loop-part.part-index in
    let p = c.part-item.result in
    let old = c.args.classes.now in
    let ks = c.loop-part.classes in
    let after = c.join_part.new.classes in
    let firsts = c.loop-part.firsts in
    let next = c.join_part.new.firsts in
    let told = c.in_ok-join_part.ensures in
    let more : take (i + 1) parts ≡ take i parts ++ p ∷ [] = take_more parts i p (omega arith) ∙ ap (λ x. take i parts ++ x ∷ []) (sym c.part-item.is) in
    let there : In parts p = in_from_contains parts p (i, omega arith, sym c.part-item.is) in
    subst (λ l. IsRound parts l old after next c.if-branch.changed) (sym more)
    (elim c.if-branch.branch [
      | then-branch w ↦
          let joined : c.in_ok-join_part.field-0 ≡ true = search rules in
          subst (λ b. IsRound parts (take i parts ++ p ∷ []) old after next b) (sym w.changed-is)
          (round_changes parts (take i parts) old ks after firsts next c.loop-part.changed p there c.loop-part.invariant told.partition told.kept told.least told.firsts told.added (told.changed joined))
      | else-branch w ↦
          let stayed : c.in_ok-join_part.field-0 ≡ false = search rules in
          subst (λ b. IsRound parts (take i parts ++ p ∷ []) old after next b) (sym w.changed-is)
          (round_stays parts (take i parts) old ks after firsts next c.loop-part.changed p there c.loop-part.invariant told.partition told.kept told.least told.firsts told.added (told.stayed stayed))
    ])

pub returns-clause-settled : goal.returns-clause-settled
returns-clause-settled c e =
    let parts = c.args.parts.now in
    round_settles parts c.args.classes.now c.loop-part.classes c.loop-part.firsts c.loop-part.changed
    (subst (λ l. IsRound parts l c.args.classes.now c.loop-part.classes c.loop-part.firsts c.loop-part.changed) (take_all c.loop-part.part-index parts (omega arith)) c.loop-part.invariant) e
