-- Rules that are told apart by their closed demands: one shadows the other.
use Rattle.std.specs.Prelude.{◌∷◌, [], pos, is_some, IsTrue}
use Rattle.model.specs.claims.SetMeanings.{AreRulesOfOneResult}
use Rattle.model.specs.rules.Matching.{matches}
use Rattle.model.specs.rules.Meaning.{Meaning}
use Rattle.model.specs.rules.Program.{rules_of}
use Rattle.model.specs.sites.Limits.{sites_after_rules}
use Rattle.model.specs.sites.Overlap.{BuiltRule, Shadows, built_rule}
use Rattle.model.specs.sites.Serves.{Serves, TellsConstantsApart}
use Rattle.laws_examples.specs.MeaningForms.{given, literal, mute}
use Rattle.laws_examples.specs.Overlap.{built_alone}
use Rattle.laws_examples.specs.Shadow.{shadow_any, shadow_defs, shadow_one, shadow_program, shadow_rules}
use Rattle.laws_examples.specs.Stages.{IsReadBoth}

-- literals have their own values
abbrev pub one_and_ten : Meaning
one_and_ten = mute (literal (pos 1) ∷ literal (pos 10) ∷ [])

abbrev pub mask : BuiltRule
mask = built_alone shadow_program (shadow_any (pos 1))

abbrev pub shadowed : BuiltRule
shadowed = built_rule shadow_program (sites_after_rules shadow_program [] (shadow_any (pos 1) ∷ [])) shadow_one

-- the list is read; the rules' term isn't multi, and one shadows the other
abbrev pub ShadowIsTold : Type 0
ShadowIsTold = IsReadBoth shadow_defs shadow_rules × AreRulesOfOneResult shadow_program 0 mask shadowed × Shadows mask shadowed

-- the meaning has what they ask on 1, and tells constants apart
abbrev pub ShadowIsServed : Type 0
ShadowIsServed = Serves shadow_program one_and_ten (given (pos 1)) (rules_of shadow_program 0) × TellsConstantsApart shadow_program one_and_ten (rules_of shadow_program 0)

-- the shadowed rule matches 1, and so the mask does
abbrev pub MasksMatchToo : Type 0
MasksMatchToo = IsTrue (is_some (matches shadow_program one_and_ten shadow_one (given (pos 1)))) × IsTrue (is_some (matches shadow_program one_and_ten (shadow_any (pos 1)) (given (pos 1))))
