use Rattle.std.specs.Prelude.{Ok}
use Rattle.std.specs.Str.{chars}
use Rattle.text_reader.specs.FormViews.{all_view}
use Rattle.text_reader.specs.Views.{token_views}
use Rattle.text_reader.specs.Definitions.{lists_in, tokens_in}
use Rattle.text_reader.proofs.Dividing.{divided}
use Rattle.text_reader.proofs.Exact.{no_tokens, no_forms, made_of_forms}
use Rattle.text_reader.proofs.ReadLists.{handed-on}
use Rattle.text_reader.proofs.lists.has_lists.Goals as goal

pub returns-clause-exact : goal.returns-clause-exact
returns-clause-exact c =
    made_of_forms c.args.file _ (tokens_in c.args.file c.args.text.now) (λ _. Ok tt) (token_views c.in_ok-tokens.tokens.items) (c.in_ok-tokens.ensures.only _ (divided (chars c.args.text.now)))
    (all_view c.in_ok-forms.field-0.items) c.in_ok-forms.ensures.read

pub returns-in_err-tokens-clause-exact : goal.returns-in_err-tokens-clause-exact
returns-in_err-tokens-clause-exact c =
    handed-on (λ x. x) c.from_residual.result c.in_err-tokens.field-0.0 (lists_in c.args.file c.args.text.now) c.from_residual.ensures
    (no_tokens c.args.file _ (tokens_in c.args.file c.args.text.now) (λ _. Ok tt) c.in_err-tokens.field-0.0 (c.in_err-tokens.ensures.only _ (divided (chars c.args.text.now))))

pub returns-in_err-forms-clause-exact : goal.returns-in_err-forms-clause-exact
returns-in_err-forms-clause-exact c =
    handed-on (λ x. x) c.from_residual-in_err-forms.result c.in_err-forms.field-0.0 (lists_in c.args.file c.args.text.now) c.from_residual-in_err-forms.ensures
    (no_forms c.args.file _ (tokens_in c.args.file c.args.text.now) (λ _. Ok tt) (token_views c.in_ok-tokens.tokens.items) (c.in_ok-tokens.ensures.only _ (divided (chars c.args.text.now))) c.in_err-forms.field-0.0 c.in_err-forms.ensures.read)
