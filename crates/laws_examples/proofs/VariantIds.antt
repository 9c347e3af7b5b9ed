-- The judges of types tell variants at their ids from others.
use Rattle.std.proofs.Common.{refl}
use Rattle.std.proofs.lemmas.Bool.Decides.{not_from_Decides}
use Rattle.model.specs.claims.ReadJudge.{are_readable}
use Rattle.laws_typing.proofs.JudgedKnown.{known_types_are_judged_lem, read_types_are_judged_lem}
use Rattle.laws_examples.specs.VariantIds.{VariantsStandAtTheirIds, one_variant}

pub variants_stand_at_their_ids : VariantsStandAtTheirIds
variants_stand_at_their_ids = (
  (known_types_are_judged_lem (one_variant 1).known).0 refl,
  (read_types_are_judged_lem (one_variant 0)).0 refl,
  not_from_Decides (are_readable (one_variant 1)) (read_types_are_judged_lem (one_variant 1)) refl,
)
