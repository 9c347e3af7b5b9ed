use Rattle.std.proofs.Common.{◌≡◌, [], ◌∷◌, ◌++◌, ap, ◌∙◌, string_bytes}
use Rattle.core_syntax.specs.SyntaxViews as S
use Rattle.core_syntax.proofs.ExprViews as V
use Rattle.model.specs.lists.Signatures.{text_of}
use Rattle.model.specs.lists.Syntax.{no_expr, expr_and, term_expr}
use Rattle.core_types.specs.Envs.{names_of}
use Rattle.core_rules.proofs.typing.expr_uses.convert.Goals as goal

pub returns : goal.returns
returns c =
    let named : string_bytes c.in_ok-name.name ≡ text_of (names_of c.args.tyenv.now) c.args.by.now.name.0 = c.in_ok-name.ensures.ok ∙ c.text_of.ensures in
    let items : c.push.new.self.items ≡ c.in_ok-clone.field-0 ∷ [] = c.in_ok-push.ensures.items ∙ ap (λ xs. xs ++ c.in_ok-clone.field-0 ∷ []) c.new-args.ensures.items in
    ap (λ xs. term_expr (record { text = string_bytes c.in_ok-name.name; at = S.position c.args.pos }) xs (S.position c.args.pos)) (V.row_exprs-hidden c.push.new.self)
    ∙ ap (λ xs. term_expr (record { text = string_bytes c.in_ok-name.name; at = S.position c.args.pos }) (S.expr_views xs) (S.position c.args.pos)) items
    ∙ ap (λ x. term_expr (record { text = string_bytes c.in_ok-name.name; at = S.position c.args.pos }) (expr_and x no_expr) (S.position c.args.pos)) c.in_ok-clone.ensures.cases
    ∙ ap (λ n. term_expr (record { text = n; at = S.position c.args.pos }) (expr_and (S.expr_view c.args.of.now) no_expr) (S.position c.args.pos)) named
