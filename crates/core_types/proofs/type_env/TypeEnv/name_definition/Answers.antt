use Rattle.std.proofs.Common.{◌≡◌, ◌∷◌, [], Some, string_bytes, inr}
use Rattle.std.proofs.lemmas.Result.{on_ok_weaker}
use Rattle.model.specs.lists.Names.{number}
use Rattle.core_types.specs.Envs.{names_of, type_at}
use Rattle.core_types.specs.Reading.{MeetsNames}
use Rattle.core_types.proofs.type_env.TypeEnv.name_definition.Goals as goal

pub returns-clause-names : goal.returns-clause-names
returns-clause-names c =
    let e = rw c.in-Some.is at c.in_ok-existing.ensures.named in
    let taken : type_at c.args.self.now (number (names_of c.args.self.now) (string_bytes c.in-TypeDef.ty.name.0)) ≡ Some c.in-Some.existing.0 = rw (← c.as_str.ensures.value) e.0 in
    let meets : MeetsNames (string_bytes c.in-TypeDef.ty.name.0 ∷ []) c.args.self.now c.claim_type_name.new.self = rw (← c.as_str.ensures.value) e.1 in
    on_ok_weaker c.report_duplicate.result (λ r. rw c.in-TypeDef.is (inr (record { id = c.in-Some.existing.0; taken = taken; meets = meets; notes = r }))) c.report_duplicate.ensures.told
