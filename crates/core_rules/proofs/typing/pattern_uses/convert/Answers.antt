use Rattle.std.proofs.Common.{◌≡◌, [], ◌∷◌, ◌++◌, ap, ◌∙◌, string_bytes}
use Rattle.core_syntax.specs.SyntaxViews as S
use Rattle.core_syntax.proofs.PatternViews as V
use Rattle.model.specs.lists.Signatures.{text_of}
use Rattle.model.specs.lists.Syntax.{no_pattern, pattern_and, term_pattern}
use Rattle.core_types.specs.Envs.{names_of}
use Rattle.core_rules.proofs.typing.pattern_uses.convert.Goals as goal

pub returns : goal.returns
returns c =
    let named : string_bytes c.in_ok-name.name ≡ text_of (names_of c.args.tyenv.now) c.args.by.now.name.0 = c.in_ok-name.ensures.ok ∙ c.text_of.ensures in
    let items : c.push.new.self.items ≡ c.in_ok-clone.field-0 ∷ [] = c.in_ok-push.ensures.items ∙ ap (λ xs. xs ++ c.in_ok-clone.field-0 ∷ []) c.new-args.ensures.items in
    V.view-Term (record { 0 = c.in_ok-name.name; 1 = c.args.pos }) c.push.new.self c.args.pos
    ∙ ap (λ ps. term_pattern (record { text = string_bytes c.in_ok-name.name; at = S.position c.args.pos }) (S.pattern_views ps) (S.position c.args.pos)) items
    ∙ ap (λ p. term_pattern (record { text = string_bytes c.in_ok-name.name; at = S.position c.args.pos }) (pattern_and p no_pattern) (S.position c.args.pos)) c.in_ok-clone.ensures.cases
    ∙ ap (λ n. term_pattern (record { text = n; at = S.position c.args.pos }) (pattern_and (S.pattern_view c.args.of.now) no_pattern) (S.position c.args.pos)) named
