use Rattle.std.proofs.Common.{◌∙◌, ◌++◌, ◌∷◌, [], ap, sym}
use Rattle.std.specs.Prelude.{string_bytes}
use Rattle.std.proofs.lemmas.Result.{on_ok_weaker}
use Rattle.core_types.specs.Envs.{names_of}
use Rattle.core_types.specs.TypeViews.{type_views}
use Rattle.rust_text.specs.Writers.{gives_view}
use Rattle.rust_text.specs.WrittenFunctions.{result_written}
use Rattle.rust_text.proofs.functions.push_result.Goals as goal

pub returns-in-Plain : goal.returns-in-Plain
returns-in-Plain c =
    let env = c.args.program.tyenv.now in
    on_ok_weaker c.push_one.result
    (λ h. h ∙ ap (λ k. string_bytes c.args.out.now ++ result_written (names_of env) (type_views env.types.items) (gives_view k) (c.args.ty.0 ∷ [])) (sym c.in-Plain.is)) c.push_one.ensures

pub returns-in-Option : goal.returns-in-Option
returns-in-Option c =
    let env = c.args.program.tyenv.now in
    on_ok_weaker c.push_option.result
    (λ h. h ∙ ap (λ k. string_bytes c.args.out.now ++ result_written (names_of env) (type_views env.types.items) (gives_view k) (c.args.ty.0 ∷ [])) (sym c.in-Option.is)) c.push_option.ensures

pub returns-in-Iterator : goal.returns-in-Iterator
returns-in-Iterator c =
    let env = c.args.program.tyenv.now in
    on_ok_weaker c.push_many.result
    (λ h. h ∙ ap (λ k. string_bytes c.args.out.now ++ result_written (names_of env) (type_views env.types.items) (gives_view k) (c.args.ty.0 ∷ [])) (sym c.in-Iterator.is)) c.push_many.ensures
