use Rattle.core_types.specs.Envs.{names_of, symbol_of}
use Rattle.model.proofs.ByNumber.{looked_up}
use Rattle.core_types.proofs.type_env.TypeEnv.look_up_text.Goals as goal

pub returns-clause-place : goal.returns-clause-place
returns-clause-place c =
    λ i. rw (c.copied.ensures, c.get.ensures.value) (looked_up (names_of c.args.self.now) (symbol_of c.args.self.now) i.numbered i.named c.args.name.now)
