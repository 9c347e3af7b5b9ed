-- A mask and a wrong overlap are each reported once, and multi calls are gone over.
use Rattle.std.proofs.Common.{◌∷◌, [], refl, arith}
use Rattle.std.proofs.lemmas.Grind.{common_steps}
use Rattle.model.specs.sites.DemandedGates.{HasNoPartialMulti}
use Rattle.model.specs.sites.Limits.{sites_after_rules}
use Rattle.model.specs.sites.Overlap.{BuiltRule, OverlapsWrongly, built_rule}
use Rattle.model.specs.claims.Layers.{own_program}
use Rattle.laws_typing.proofs.WellTypedRules.{read_programs_are_well_typed}
use Rattle.laws_sites.proofs.overlaps.JudgedLists.{well_typed_rules_have_terms_lem}
use Rattle.laws_sites.proofs.overlaps.ListedOverlaps.{overlaps_are_listed_once_lem}
use Rattle.laws_sites.proofs.overlaps.Overlaps.{overlaps_decides}
use Rattle.laws_sites.proofs.built.MultiCalls.{multi_calls_are_gone_over_lem}
use Rattle.laws_examples.proofs.ReadLists.{overlap_read}
use Rattle.laws_examples.specs.Fall.{fall_any}
use Rattle.laws_examples.specs.Multi.{each_m, multi_program}
use Rattle.laws_examples.specs.Overlap.{built_alone, overlap_defs, overlap_one, overlap_program, overlap_rules}
use Rattle.laws_examples.specs.ReportedOnce.{MultiGoesOverMultiCalls, OverlapIsListedOnce, ShadowIsReportedOnce}

-- 1. the mask
pub shadow_is_reported_once : ShadowIsReportedOnce
shadow_is_reported_once = grind (arith, common_steps)

-- 2. the overlap
abbrev after_one : BuiltRule
after_one = built_rule overlap_program (sites_after_rules overlap_program [] (overlap_one ∷ [])) fall_any

abbrev wrong : OverlapsWrongly overlap_program 0 0 1
wrong = record {
  first = built_alone overlap_program overlap_one;
  second = after_one;
  one_result = refl;
  here = refl;
  there = refl;
  before = omega arith;
  one_priority = refl;
  overlap = (overlaps_decides (built_alone overlap_program overlap_one).demands after_one.demands).0 refl;
}

pub overlap_is_listed_once : OverlapIsListedOnce
overlap_is_listed_once = (
  wrong,
  overlaps_are_listed_once_lem overlap_program (well_typed_rules_have_terms_lem (own_program overlap_defs overlap_rules) (read_programs_are_well_typed overlap_read.0)) 0 0 1 wrong,
)

-- 3. multi calls
none_partial : HasNoPartialMulti multi_program
none_partial h i k = grind (arith, common_steps)

pub multi_goes_over_multi_calls : MultiGoesOverMultiCalls
multi_goes_over_multi_calls = (none_partial, multi_calls_are_gone_over_lem multi_program each_m none_partial)
