use Rattle.std.proofs.Common.{◌∙◌, ◌++◌, ◌∷◌, [], map, ap}
use Rattle.std.specs.Prelude.{string_bytes}
use Rattle.std.proofs.lemmas.Result.{on_ok_weaker}
use Rattle.core_types.specs.declared.ids.TypeId.{TypeId}
use Rattle.core_types.specs.Envs.{names_of}
use Rattle.core_types.specs.TypeViews.{type_views}
use Rattle.core_terms.specs.TermViews.{term_view}
use Rattle.rust_text.specs.Writers.{gives_view}
use Rattle.rust_text.specs.WrittenFunctions.{head_written}
use Rattle.rust_text.proofs.functions.push_head.Goals as goal

pub returns : goal.returns
returns c =
    let env = c.args.program.tyenv.now in let term = c.args.term.now in let old = string_bytes c.args.out.now in
    on_ok_weaker c.push_lines.result
    (λ h.
    h ∙ ap (λ tys. old ++ head_written (names_of env) (type_views env.types.items) (gives_view c.args.gives) c.text_of-name.result.now (map (λ (t : TypeId). t.0) tys) (term.ret_ty.0 ∷ [])) c.deref.ensures.value
    ∙ ap (λ n. old ++ head_written (names_of env) (type_views env.types.items) (gives_view c.args.gives) n (term_view term).arg_tys (term.ret_ty.0 ∷ [])) c.text_of-name.ensures)
    c.push_lines.ensures
