use Rattle.std.proofs.Common.{subst, sym}
use Rattle.std.specs.Str.{chars}
use Rattle.core_syntax.specs.SyntaxViews.{definition_views}
use Rattle.text_reader.specs.FormViews.{all_view}
use Rattle.text_reader.specs.Views.{Gives, token_views}
use Rattle.text_reader.specs.Definitions.{definitions_of, reading, tokens_in}
use Rattle.text_reader.proofs.Dividing.{divided}
use Rattle.text_reader.proofs.Exact.{no_tokens, no_forms, made_of_forms, found_if_exact, only_if_exact}
use Rattle.text_reader.proofs.ReadLists.{handed-on}
use Rattle.text_reader.proofs.read.Goals as goal

pub returns-clause-exact : goal.returns-clause-exact
returns-clause-exact c =
    subst (Gives (λ ds. definition_views ds.items) c.definitions.result)
    (sym (made_of_forms c.args.file _ (tokens_in c.args.file c.args.text.now) definitions_of (token_views c.in_ok-tokens.tokens.items) (c.in_ok-tokens.ensures.only _ (divided (chars c.args.text.now)))
    (all_view c.in_ok-forms.forms.items) c.in_ok-forms.ensures.read))
    (subst (λ fs. Gives (λ ds. definition_views ds.items) c.definitions.result (definitions_of (all_view fs))) c.deref.ensures.value c.definitions.ensures.read)

pub returns-clause-found : goal.returns-clause-found
returns-clause-found c = found_if_exact c.args.file c.args.text.now c.definitions.result (returns-clause-exact c)

pub returns-clause-only : goal.returns-clause-only
returns-clause-only c = only_if_exact c.args.file c.args.text.now c.definitions.result (returns-clause-exact c)

pub returns-in_err-tokens-clause-exact : goal.returns-in_err-tokens-clause-exact
returns-in_err-tokens-clause-exact c =
    handed-on (λ es. definition_views es.items) c.from_residual.result c.in_err-tokens.field-0.0 (reading c.args.file c.args.text.now) c.from_residual.ensures
    (no_tokens c.args.file _ (tokens_in c.args.file c.args.text.now) definitions_of c.in_err-tokens.field-0.0 (c.in_err-tokens.ensures.only _ (divided (chars c.args.text.now))))

pub returns-in_err-tokens-clause-only : goal.returns-in_err-tokens-clause-only
returns-in_err-tokens-clause-only c = only_if_exact c.args.file c.args.text.now c.from_residual.result (returns-in_err-tokens-clause-exact c)

pub returns-in_err-forms-clause-exact : goal.returns-in_err-forms-clause-exact
returns-in_err-forms-clause-exact c =
    handed-on (λ es. definition_views es.items) c.from_residual-in_err-forms.result c.in_err-forms.field-0.0 (reading c.args.file c.args.text.now) c.from_residual-in_err-forms.ensures
    (no_forms c.args.file _ (tokens_in c.args.file c.args.text.now) definitions_of (token_views c.in_ok-tokens.tokens.items) (c.in_ok-tokens.ensures.only _ (divided (chars c.args.text.now))) c.in_err-forms.field-0.0 c.in_err-forms.ensures.read)

pub returns-in_err-forms-clause-only : goal.returns-in_err-forms-clause-only
returns-in_err-forms-clause-only c = only_if_exact c.args.file c.args.text.now c.from_residual-in_err-forms.result (returns-in_err-forms-clause-exact c)
