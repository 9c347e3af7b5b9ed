use Rattle.std.proofs.Common.{[], ◌∷◌, All, map, sym, subst}
use Rattle.std.proofs.lemmas.List.{map-append}
use Rattle.std.proofs.lemmas.List.Elements.{All-push}
use Rattle.laws_questions.specs.BelowLaws.{ExcludesOne}
use Rattle.spec_cases.specs.Namings.{fact_of}
use Rattle.spec_asked.specs.Above.{AreExcluding}
use Rattle.spec_asked.proofs.above.add_if_excluding.Goals as goal

pub returns : goal.returns
returns c = λ v names.
    let made = c.in_ok-fact.ensures v names in
    let out = c.args.out.now.items in (
      made.0,
      λ m t set r of there all.
          let more = All-push (ExcludesOne m.p m.specs t set r) (map (fact_of v) out) (fact_of v c.in_ok-fact.fact) all (made.1 m t set r of there (c.is_plain_above.ensures (search c.if-not-is_plain_above.false))) in
          subst (λ l. AreExcluding m.p m.specs t set r v l) (sym c.in_ok-push.ensures.items)
          (subst (All (ExcludesOne m.p m.specs t set r)) (sym (map-append (fact_of v) out (c.in_ok-fact.fact ∷ []))) more),
    )
