-- Accepted definitions pass no limit while they are lowered.
use Rattle.std.proofs.Common.{◌≡◌, sym, ◌∙◌, subst}
use Rattle.std.proofs.lemmas.Option.{same_Some}
use Rattle.model.specs.lists.Elaborated.{TypedRules}
use Rattle.model.specs.claims.Environments.{types_read}
use Rattle.model.specs.claims.Layers.{own_program, IsCheckable}
use Rattle.laws_trees.specs.NoLimits.{in_reading, in_building, AcceptedPassNoLimit}
use Rattle.laws_trees.proofs.NoLimits.{checkable_programs_pass_no_limit_lem}
use Rattle.laws_typing.proofs.NoReadLimits.{elaborated_lists_pass_no_limit_lem}

pub accepted_pass_no_limit_lem : AcceptedPassNoLimit
accepted_pass_no_limit_lem defs expand rules accepted _ _ (in_reading l at valid passed) =
    elaborated_lists_pass_no_limit_lem (types_read defs) defs expand rules accepted.read.elaborated l at passed
accepted_pass_no_limit_lem defs expand rules accepted _ _ (in_building l at others read passed) =
    let same : rules ≡ others = same_Some rules others (sym accepted.read.elaborated.elaborate.typed ∙ read.elaborated.elaborate.typed) in
    checkable_programs_pass_no_limit_lem (own_program defs others) (subst (λ (k : TypedRules). IsCheckable (own_program defs k)) same accepted.checkable) l at passed
