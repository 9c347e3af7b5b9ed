-- Where each rule of a term is refuted, the conditions of its set are valid.
use Rattle.std.proofs.Common.{List, subst}
use Rattle.laws_specs.specs.Conditions.{IsValid}
use Rattle.laws_specs.specs.SetConditions.{set_condition, AreValidInSet}
use Rattle.model.specs.sites.Sites.{SetRule}
use Rattle.model.proofs.Mapped.{get_mapped}
use Rattle.core_rule_sets.specs.SiteViews.{set_rule_view, set_view}
use Rattle.cranelift_isle.specs.declared.lower.Lowered.{Lowered}
use Rattle.cranelift_isle.specs.declared.lower.LoweredTerm.{LoweredTerm}
use Rattle.cranelift_isle.specs.Lowerings.{lowered_view}
use Rattle.spec_steps.specs.declared.demands.Signature.{Signature}
use Rattle.spec_asked.specs.declared.tables.SpecTables.{SpecTables}
use Rattle.spec_asked.specs.Lowered.{program_in, specs_in, AreRefuted, RefutedRulesAreValid, Stands}

pub sets_valid : (lowered : Lowered) (signatures : List Signature) (specs : SpecTables) (term : LoweredTerm) (s : Stands lowered signatures specs term)
    → RefutedRulesAreValid → AreRefuted lowered signatures specs term s
    → AreValidInSet (program_in lowered signatures specs term s) (specs_in lowered signatures specs term s) (lowered_view term)
sets_valid lowered signatures specs term s valid refuted place r there =
    let g = get_mapped set_rule_view term.rules.rules.items place r there in
    let P : SetRule → Type 0 = λ q. IsValid (program_in lowered signatures specs term s) (specs_in lowered signatures specs term s) (set_condition term.id.0 (set_view term.rules) q) in
    subst P g.2 (valid lowered signatures specs term s g.0 (refuted place g.0 g.1))
