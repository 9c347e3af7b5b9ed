use Rattle.std.proofs.Common.{◌++◌, sym, ap, ◌∙◌}
use Rattle.std.specs.Prelude.{string_bytes}
use Rattle.std.proofs.lemmas.Result.{on_ok_weaker}
use Rattle.model_code.specs.Spelling.{token_text}
use Rattle.rust_text.specs.ProgramNames.{names_of, notation_in}
use Rattle.rust_text.specs.SettingViews.{setting_of}
use Rattle.rust_text.specs.TokenViews.{callee_view, token_view}
use Rattle.rust_text.proofs.CalleeNumbers.{function_numbered, list_numbered}
use Rattle.rust_text.proofs.spelling.push_token.Goals as goal

pub returns-in-Function : goal.returns-in-Function
returns-in-Function c =
    let s = setting_of c.args.names in
    let is = sym (function_numbered s (callee_view c.in-Function.callee)) ∙ ap (λ t. token_text (names_of s) (token_view (notation_in s) t)) (sym c.in-Function.is) in
    on_ok_weaker c.push_function.result (λ w. w ∙ ap (λ t. string_bytes c.args.out.now ++ t) is) c.push_function.ensures

pub returns-in-List : goal.returns-in-List
returns-in-List c =
    let s = setting_of c.args.names in
    let is = sym (list_numbered s (callee_view c.in-List.callee)) ∙ ap (λ t. token_text (names_of s) (token_view (notation_in s) t)) (sym c.in-List.is) in
    on_ok_weaker c.push_list.result (λ w. w ∙ ap (λ t. string_bytes c.args.out.now ++ t) is) c.push_list.ensures
