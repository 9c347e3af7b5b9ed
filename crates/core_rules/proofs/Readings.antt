-- One reading after another: where both give something so does the whole, where one gives nothing the whole gives nothing.
use Rattle.std.proofs.Common.{◌≡◌, [], Result, Err, refl, sym, arith}
use Rattle.std.specs.Result.{IsErr, IsErrAnd}
use Rattle.std.proofs.lemmas.List.{length-append, append-nil}
use Rattle.std.proofs.lemmas.Grind.{common_steps}
use Rattle.model.specs.lists.Setting.{Setting}
use Rattle.core_types.specs.declared.type_env.TypeEnv.{TypeEnv}
use Rattle.core_types.specs.Envs.{names_of, IsInterned}
use Rattle.core_rules.specs.declared.term_env.TermEnv.{TermEnv}
use Rattle.core_rules.specs.declared.typing.progress.Stop.{Stop}
use Rattle.core_rules.specs.ShownSettings.{Keeps, IsSettingOf}

-- what the tables speak of stays
pub keep_setting : (env : TermEnv) (old new : TypeEnv) (e : Setting) → Keeps old new → IsSettingOf old env e → IsSettingOf new env e
keep_setting env old new e k is = grind (arith, common_steps, length-append)

-- keeping, and keeping on
pub keep_on : (old mid new : TypeEnv) → Keeps old mid → Keeps mid new → Keeps old new
keep_on old mid new k l = grind (arith, common_steps)

-- the stop that a `?` passes on
pub stop_is : {A : Type 0} (r : Result A Stop) (e : Stop) → IsErr r × IsErrAnd r (λ y. y ≡ e) → r ≡ Err e
stop_is r e h = grind (arith, common_steps)

-- nothing was done
pub keep_none : (tyenv : TypeEnv) → IsInterned tyenv → Keeps tyenv tyenv
keep_none tyenv inv = record { inverse = inv; names = ([], sym (append-nil (names_of tyenv))); types = refl; type_map = refl; const_types = refl; errors = refl }
