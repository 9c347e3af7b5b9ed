-- The samples of questions are computed.
use Rattle.std.proofs.Common.{◌≡◌, Bool, true, false, if◌then◌else◌, refl, arith}
use Rattle.std.proofs.lemmas.Grind.{common_steps}
use Rattle.std.specs.Bool.{◌==◌}
use Rattle.std.proofs.lemmas.Bool.{eqb-true}
use Rattle.model.proofs.Elements.{some_is, none_some}
use Rattle.laws_specs.specs.Words.{a_word, variant_of, no_denoted, is_formed}
use Rattle.laws_specs.specs.Meets.{IsDenotation}
use Rattle.laws_examples.specs.AskedForms.{program, closed_specs, atoms_as_a, FormsAreAsked}

formed : (b : Bool) → is_formed (if b then variant_of 2 0 no_denoted else a_word 8 0) ≡ true
formed true = refl
formed false = refl

denoted : IsDenotation program closed_specs atoms_as_a
denoted = record {
  formed = λ ty z. formed (ty == 2);
  sorted = λ ty z s e h n. grind (arith, common_steps, none_some, some_is, eqb-true);
  numbers = λ ty z y own e. grind (arith, common_steps, none_some, some_is, eqb-true);
  plain = λ ty z parts h n. grind (arith, common_steps, eqb-true);
  made = λ ty z h. grind (arith, common_steps, eqb-true);
  unknowns = λ g s xs e sorted formed. absurd (none_some s e);
}

pub forms_are_asked_lem : FormsAreAsked
forms_are_asked_lem = record {
  fields = refl;
  open_enum = refl;
  other_arm = refl;
  no_other_arm = refl;
  closed_enum = refl;
  denoted = denoted;
  present = refl;
  made = refl;
  unwrapped = refl;
}
