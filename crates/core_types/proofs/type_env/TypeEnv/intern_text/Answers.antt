use Rattle.std.proofs.Common.{◌∙◌}
use Rattle.std.proofs.lemmas.Result.{IfOk-weaker, on_ok_weaker}
use Rattle.core_types.specs.Envs.{names_of}
use Rattle.core_types.proofs.Places.{known_names, known_number, new_names, new_number}
use Rattle.core_types.proofs.type_env.TypeEnv.intern_text.Goals as goal

pub returns-in-Some-clause-names : goal.returns-in-Some-clause-names
returns-in-Some-clause-names c =
    known_names (names_of c.args.self.now) c.args.name.now c.in-Some.sym.0 (c.in-Some.ensures.place c.requires)

pub returns-in-Some-clause-number : goal.returns-in-Some-clause-number
returns-in-Some-clause-number c =
    known_number (names_of c.args.self.now) c.args.name.now c.in-Some.sym.0 (c.in-Some.ensures.place c.requires)

pub returns-clause-names : goal.returns-clause-names
returns-clause-names c =
    let new = new_names (names_of c.args.self.now) c.args.name.now (c.in_default.ensures.place c.requires) in
    on_ok_weaker c.add_name.result (λ e. e ∙ new) c.add_name.ensures.names

pub returns-clause-number : goal.returns-clause-number
returns-clause-number c =
    let new = new_number (names_of c.args.self.now) c.args.name.now (c.in_default.ensures.place c.requires) in
    IfOk-weaker c.add_name.result _ _ (λ s e. e ∙ new) c.add_name.ensures.number
