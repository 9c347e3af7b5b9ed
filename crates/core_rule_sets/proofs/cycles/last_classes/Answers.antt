use Rattle.std.proofs.Common.{◌≡◌, ◌+◌, ◌++◌, [], ◌∷◌, cond, take, sym, ap, ◌∙◌, subst, eq-eqb, arith}
use Rattle.std.specs.Prelude.{nat_eq}
use Rattle.std.proofs.lemmas.Bool.{cond-true, cond-false, ne_eqb}
use Rattle.std.proofs.lemmas.List.{append-nil, take_more, take_all}
use Rattle.core_rule_sets.specs.Endings.{count_at}
use Rattle.core_rule_sets.proofs.ClassEndings.{AreLast, last_none, last_more}
use Rattle.core_rule_sets.proofs.cycles.last_classes.Goals.{then-count-eq0+in_ok-push, else-count-eq0}
use Rattle.core_rule_sets.proofs.cycles.last_classes.Goals as goal

pub loop-part-init : goal.loop-part-init
loop-part-init c = last_none c.args.classes.now (count_at c.args.counts.now) c.new-last.result.items c.new-last.ensures.items

pub loop-part-preserved : goal.loop-part-preserved
loop-part-preserved c =
    let ks = c.args.classes.now in
    let parts = c.args.parts.now in
    let i = c.loop-part.part-index in
    let p = c.part-item.result in
    let k = c.class_of-class.result in
    let counts = count_at c.args.counts.now in
    let last = c.loop-part.last.items in
    let more : take (i + 1) parts ≡ take i parts ++ p ∷ [] = take_more parts i p (omega arith) ∙ ap (λ x. take i parts ++ x ∷ []) (sym c.part-item.is) in
    let pushed : c.if-count-eq0.last.items ≡ last ++ cond (nat_eq (counts k) 0) (k ∷ []) [] =
    (elim c.if-count-eq0.branch [
      | then-count-eq0+in_ok-push w ↦
          ap (λ v. v.items) w.last-is ∙ w.in_ok-push.ensures.items ∙ sym (ap (λ l. last ++ l) (cond-true (nat_eq (counts k) 0) (k ∷ []) [] (eq-eqb (counts k) 0 (sym c.count.ensures ∙ w.if-count-eq0.true))))
      | else-count-eq0 w ↦
          ap (λ v. v.items) w.last-is ∙ sym (append-nil last)
          ∙ sym (ap (λ l. last ++ l) (cond-false (nat_eq (counts k) 0) (k ∷ []) [] (ne_eqb (counts k) 0 (λ z. w.if-count-eq0.false (c.count.ensures ∙ z)))))
    ]) in
    subst (λ l. AreLast ks l counts c.if-count-eq0.last.items) (sym more) (last_more ks (take i parts) p counts last c.if-count-eq0.last.items k c.class_of-class.ensures.head pushed c.loop-part.invariant)

pub returns-clause-all : goal.returns-clause-all
returns-clause-all c =
    (subst (λ l. AreLast c.args.classes.now l (count_at c.args.counts.now) c.loop-part.last.items) (take_all c.loop-part.part-index c.args.parts.now (omega arith)) c.loop-part.invariant).all

pub returns-clause-only : goal.returns-clause-only
returns-clause-only c = c.loop-part.invariant.only
