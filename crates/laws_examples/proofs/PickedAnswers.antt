-- Demands on two outputs of one multi call are met by one answer.
use Rattle.std.proofs.Common.{◌∷◌, [], pos, refl, subst, inl, inr, arith}
use Rattle.std.proofs.lemmas.Grind.{common_steps}
use Rattle.model.proofs.Elements.{In, contains_from_in, in_from_contains, none_some, some_is}
use Rattle.model.specs.rules.Meaning.{one}
use Rattle.model.specs.rules.Picks.{Pick}
use Rattle.model.specs.sites.Closure.{DemandsHold, IsMet}
use Rattle.model.specs.sites.Sites.{Constraint, SiteTerm, is_int, pick_of, tuple_part}
use Rattle.laws_examples.specs.MeaningForms.{given, v}
use Rattle.laws_examples.specs.PickedAnswers.{answering, call_me, one_and_two, pair}

pub hold_under_no_pick_lem : (k : Pick) → DemandsHold (answering (pair (pos 1) (pos 5)) (pair (pos 6) (pos 2))) (given (pos 0)) k one_and_two → ⊥
hold_under_no_pick_lem k h =
    let first = h.constraints (tuple_part (pick_of call_me) 0) (is_int (pos 1) 1) (contains_from_in one_and_two.constraints (tuple_part (pick_of call_me) 0, is_int (pos 1) 1) (inl refl)) in
    let second = h.constraints (tuple_part (pick_of call_me) 1) (is_int (pos 2) 1) (contains_from_in one_and_two.constraints (tuple_part (pick_of call_me) 1, is_int (pos 2) 1) (inr (inl refl))) in
    grind (arith, common_steps, none_some, some_is)

abbrev Met : SiteTerm × Constraint → Type 0
Met x = IsMet (answering (pair (pos 1) (pos 5)) (pair (pos 1) (pos 2))) (given (pos 0)) ((call_me, 1) ∷ []) x.0 x.1

each_met : (x : SiteTerm × Constraint) → In one_and_two.constraints x → Met x
each_met x (inl e) = subst Met e (record { content = one (v (pos 1)); held = refl; meets = refl })
each_met x (inr (inl e)) = subst Met e (record { content = one (v (pos 2)); held = refl; meets = refl })
each_met x (inr (inr n)) = absurd n

pub hold_under_one_pick_lem : DemandsHold (answering (pair (pos 1) (pos 5)) (pair (pos 1) (pos 2))) (given (pos 0)) ((call_me, 1) ∷ []) one_and_two
hold_under_one_pick_lem = record {
  constraints = λ s c i. each_met (s, c) (in_from_contains one_and_two.constraints (s, c) i);
  equalities = λ a b i. absurd (in_from_contains one_and_two.equalities (a, b) i);
}
